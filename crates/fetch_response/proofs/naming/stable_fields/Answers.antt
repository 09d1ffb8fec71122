-- The last stable offset, the aborted transactions all at once, and the records.
use mathlib.Core.Path.{◌∙◌, refl}
use Rattle.primitives.proofs.Up.{up}
use Rattle.body_reading.specs.Moved.{array_items}
use Rattle.names.specs.Walks.{of_sought}
use Rattle.names.proofs.Ways.{array_found, array_out, array_past, field_goes, field_last, field_out}
use Rattle.fetch_response.specs.Seek.{stable_shape}
use Rattle.fetch_response.proofs.naming.stable_fields.Goals as goal

pub returns-in_err-p : goal.returns-in_err-p
unfolding stable_shape array_items
returns-in_err-p c = up (of_sought _) _ _ c.from_residual.ensures ∙ field_out _ _ _ _ _ _ _ _ _ c.int64.ensures _ c.in_err-p.ensures.value _ refl

pub returns-in_err-aborted : goal.returns-in_err-aborted
unfolding stable_shape array_items
returns-in_err-aborted c = up (of_sought _) _ _ c.from_residual-in_err-aborted.ensures ∙ field_goes _ _ _ _ _ _ _ _ _ c.int64.ensures _ c.in_ok-p.ensures.ok_part _ (array_out _ _ _ _ _ _ _ _ _ _ _ c.count.ensures _ c.in_err-aborted.ensures.value _ refl)

pub returns-in_err-p-2 : goal.returns-in_err-p-2
unfolding stable_shape array_items
returns-in_err-p-2 c = up (of_sought _) _ _ c.from_residual-in_err-p-2.ensures ∙ field_goes _ _ _ _ _ _ _ _ _ c.int64.ensures _ c.in_ok-p.ensures.ok_part _ (array_found _ _ _ _ _ _ _ _ _ _ _ c.count.ensures _ c.in_ok-aborted.ensures.ok_part c.elements.new.begun _ c.in_err-p-2.ensures _ refl)

pub returns : goal.returns
unfolding stable_shape array_items
returns c = field_goes _ _ _ _ _ _ _ _ _ c.int64.ensures _ c.in_ok-p.ensures.ok_part _ (array_past _ _ _ _ _ _ _ _ _ _ _ c.count.ensures _ c.in_ok-aborted.ensures.ok_part _ _ c.in_ok-p-2.ensures _ refl _ (field_last _ _ _ _ _ _ _ _ c.records.ensures _ c.ok_or-3.ensures.value))
