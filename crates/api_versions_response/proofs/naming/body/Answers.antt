-- The error, the items, and what follows them.
use mathlib.Core.Path.{◌∙◌, refl}
use Rattle.primitives.proofs.Up.{up}
use Rattle.body_reading.specs.Moved.{array_items}
use Rattle.names.specs.Walks.{of_sought}
use Rattle.names.proofs.Ways.{array_found, array_out, array_past, field_goes, field_out}
use Rattle.api_versions_response.proofs.Sought.{of_body}
use Rattle.api_versions_response.proofs.naming.body.Goals as goal

pub returns-in_err-p : goal.returns-in_err-p
returns-in_err-p c = up (of_sought _) _ _ c.from_residual.ensures ∙ of_body _ _ _ _ _ _ (field_out _ _ _ _ _ _ _ _ _ c.int16.ensures _ c.in_err-p.ensures.value _ refl)

pub returns-in_err-all : goal.returns-in_err-all
unfolding array_items
returns-in_err-all c = up (of_sought _) _ _ c.from_residual-in_err-all.ensures ∙ of_body _ _ _ _ _ _ (field_goes _ _ _ _ _ _ _ _ _ c.int16.ensures _ c.in_ok-p.ensures.ok_part _ (array_out _ _ _ _ _ _ _ _ _ _ _ c.count.ensures _ c.in_err-all.ensures.value _ refl))

pub returns-in_err-p-2 : goal.returns-in_err-p-2
unfolding array_items
returns-in_err-p-2 c = up (of_sought _) _ _ c.from_residual-in_err-p-2.ensures ∙ of_body _ _ _ _ _ _ (field_goes _ _ _ _ _ _ _ _ _ c.int16.ensures _ c.in_ok-p.ensures.ok_part _ (array_found _ _ _ _ _ _ _ _ _ _ _ c.count.ensures _ c.in_ok-all.ensures.ok_part c.items.new.begun _ c.in_err-p-2.ensures _ refl))

pub returns : goal.returns
unfolding array_items
returns c = of_body _ _ _ _ _ _ (field_goes _ _ _ _ _ _ _ _ _ c.int16.ensures _ c.in_ok-p.ensures.ok_part _ (array_past _ _ _ _ _ _ _ _ _ _ _ c.count.ensures _ c.in_ok-all.ensures.ok_part _ _ c.in_ok-p-2.ensures _ refl _ c.tail.ensures))
