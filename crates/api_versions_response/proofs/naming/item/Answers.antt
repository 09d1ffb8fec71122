-- An item without tags is passed over at once; else it is three numbers and tagged fields.
use mathlib.Core.Path.{◌∙◌, refl}
use native.Mathlib.Omega.{arith}
use Rattle.primitives.proofs.Up.{up}
use Rattle.names.specs.Walks.{of_sought}
use Rattle.names.proofs.Ways.{field_goes, field_out}
use Rattle.api_versions_response.proofs.Sought.{of_item}
use Rattle.api_versions_response.proofs.naming.item.Goals as goal

pub overflow_add-result : goal.overflow_add-result
overflow_add-result c = let h = c.is_passed.ensures.whole c.if-is_passed.true in omega arith

pub returns-then-is_passed : goal.returns-then-is_passed
returns-then-is_passed c = c.is_passed.ensures.law c.if-is_passed.true _ _

pub returns-in_err-p : goal.returns-in_err-p
returns-in_err-p c = up (of_sought _) _ _ c.from_residual.ensures ∙ of_item _ _ _ _ _ _ (field_out _ _ _ _ _ _ _ _ _ c.int16.ensures _ c.in_err-p.ensures.value _ refl)

pub returns-in_err-p-2 : goal.returns-in_err-p-2
returns-in_err-p-2 c = up (of_sought _) _ _ c.from_residual-in_err-p-2.ensures ∙ of_item _ _ _ _ _ _ (field_goes _ _ _ _ _ _ _ _ _ c.int16.ensures _ c.in_ok-p.ensures.ok_part _ (field_out _ _ _ _ _ _ _ _ _ c.int16-2.ensures _ c.in_err-p-2.ensures.value _ refl))

pub returns-in_err-p-3 : goal.returns-in_err-p-3
returns-in_err-p-3 c = up (of_sought _) _ _ c.from_residual-in_err-p-3.ensures ∙ of_item _ _ _ _ _ _ (field_goes _ _ _ _ _ _ _ _ _ c.int16.ensures _ c.in_ok-p.ensures.ok_part _ (field_goes _ _ _ _ _ _ _ _ _ c.int16-2.ensures _ c.in_ok-p-2.ensures.ok_part _ (field_out _ _ _ _ _ _ _ _ _ c.int16-3.ensures _ c.in_err-p-3.ensures.value _ refl)))

pub returns : goal.returns
returns c = of_item _ _ _ _ _ _ (field_goes _ _ _ _ _ _ _ _ _ c.int16.ensures _ c.in_ok-p.ensures.ok_part _ (field_goes _ _ _ _ _ _ _ _ _ c.int16-2.ensures _ c.in_ok-p-2.ensures.ok_part _ (field_goes _ _ _ _ _ _ _ _ _ c.int16-3.ensures _ c.in_ok-p-3.ensures.ok_part _ c.tags_if.ensures)))
