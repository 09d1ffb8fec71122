-- A name, and the partitions that end the row.
use mathlib.Core.Path.{◌∙◌, refl}
use Rattle.primitives.proofs.Up.{up}
use Rattle.body_reading.specs.Moved.{array_items}
use Rattle.names.specs.Walks.{of_sought}
use Rattle.names.proofs.Ways.{array_last, array_out, field_goes, field_out}
use borrow.Author.Rules.{rules}
use Rattle.fetch_response.specs.TopicShapes.{topic_shape}
use Rattle.fetch_response.proofs.naming.topic.Goals as goal

pub returns-in_err-p : goal.returns-in_err-p
unfolding topic_shape array_items
returns-in_err-p c = up (of_sought _) _ _ c.from_residual.ensures ∙ field_out _ _ _ _ _ _ _ _ _ c.string.ensures _ c.in_err-p.ensures.value _ refl

pub returns-in_err-all : goal.returns-in_err-all
unfolding topic_shape array_items
returns-in_err-all c = up (of_sought _) _ _ c.from_residual-in_err-all.ensures ∙ field_goes _ _ _ _ _ _ _ _ _ c.string.ensures _ c.in_ok-p.ensures.ok_part _ (array_out _ _ _ _ _ _ _ _ _ _ _ c.count.ensures _ c.in_err-all.ensures.value _ refl)

pub returns : goal.returns
unfolding topic_shape array_items
returns c = field_goes _ _ _ _ _ _ _ _ _ c.string.ensures _ c.in_ok-p.ensures.ok_part _ (array_last _ _ _ _ _ _ _ _ _ _ c.count.ensures _ c.in_ok-all.ensures.ok_part _ (c.rows.ensures _ _ _ (record { law = λ n row b r d h. search rules })))
