-- The topics end the body.
use mathlib.Core.Path.{◌∙◌, refl}
use Rattle.primitives.proofs.Up.{up}
use Rattle.body_reading.specs.Moved.{array_items}
use Rattle.names.specs.Walks.{of_sought}
use Rattle.names.proofs.Ways.{array_last, array_out}
use borrow.Author.Rules.{rules}
use Rattle.fetch_response.proofs.naming.responses.Goals as goal

pub returns-in_err-all : goal.returns-in_err-all
unfolding array_items
returns-in_err-all c = up (of_sought _) _ _ c.from_residual.ensures ∙ array_out _ _ _ _ _ _ _ _ _ _ _ c.count.ensures _ c.in_err-all.ensures.value _ refl

pub returns : goal.returns
unfolding array_items
returns c = array_last _ _ _ _ _ _ _ _ _ _ c.count.ensures _ c.in_ok-all.ensures.ok_part _ (c.rows.ensures _ _ _ (record { law = λ n row b r d h. search rules }))
