-- The brokers, and what follows them.
use mathlib.Core.Path.{◌∙◌, refl}
use Rattle.primitives.proofs.Up.{up}
use Rattle.body_reading.specs.Moved.{array_items}
use Rattle.names.specs.Walks.{of_sought}
use Rattle.names.proofs.Ways.{array_found, array_out, array_past, next_field}
use borrow.Author.Rules.{rules}
use Rattle.metadata_response.proofs.naming.from_brokers.Goals as goal

pub returns-in_err-all : goal.returns-in_err-all
unfolding array_items
returns-in_err-all c = up (of_sought _) _ _ c.from_residual.ensures ∙ array_out _ _ _ _ _ _ _ _ _ _ _ c.count.ensures _ c.in_err-all.ensures.value _ refl

pub returns-in_err-p : goal.returns-in_err-p
unfolding array_items
returns-in_err-p c = up (of_sought _) _ _ c.from_residual-in_err-p.ensures ∙ array_found _ _ _ _ _ _ _ _ _ _ _ c.count.ensures _ c.in_ok-all.ensures.ok_part c.rows.new.begun _ (c.in_err-p.ensures _ _ _ (record { law = λ n row b r d h. search rules })) _ refl

pub returns : goal.returns
unfolding array_items
returns c = array_past _ _ _ _ _ _ _ _ _ _ _ c.count.ensures _ c.in_ok-all.ensures.ok_part _ _ (c.in_ok-p.ensures _ _ _ (record { law = λ n row b r d h. search rules })) _ refl _ (next_field _ _ _ _ _ _ _ _ c.tail.ensures)
