-- Key, version, correlation number and client name, and from header 2 on tagged fields.
use mathlib.Core.Path.{◌∙◌, refl}
use Rattle.primitives.proofs.Up.{up}
use Rattle.names.specs.Walks.{of_sought}
use Rattle.names.proofs.Ways.{field_goes, field_out}
use Rattle.frame.proofs.Sought.{of_request_lem}
use Rattle.frame.proofs.naming.request.Goals as goal

pub returns-in_err-p : goal.returns-in_err-p
returns-in_err-p c = up (of_sought _) _ _ c.from_residual.ensures ∙ of_request_lem _ _ _ _ _ c.requires.0 c.requires.1 (field_out _ _ _ _ _ _ _ _ _ c.int16.ensures _ c.in_err-p.ensures.value _ refl)

pub returns-in_err-p-2 : goal.returns-in_err-p-2
returns-in_err-p-2 c = up (of_sought _) _ _ c.from_residual-in_err-p-2.ensures ∙ of_request_lem _ _ _ _ _ c.requires.0 c.requires.1 (field_goes _ _ _ _ _ _ _ _ _ c.int16.ensures _ c.in_ok-p.ensures.ok_part _ (field_out _ _ _ _ _ _ _ _ _ c.int16-2.ensures _ c.in_err-p-2.ensures.value _ refl))

pub returns-in_err-p-3 : goal.returns-in_err-p-3
returns-in_err-p-3 c = up (of_sought _) _ _ c.from_residual-in_err-p-3.ensures ∙ of_request_lem _ _ _ _ _ c.requires.0 c.requires.1 (field_goes _ _ _ _ _ _ _ _ _ c.int16.ensures _ c.in_ok-p.ensures.ok_part _ (field_goes _ _ _ _ _ _ _ _ _ c.int16-2.ensures _ c.in_ok-p-2.ensures.ok_part _ (field_out _ _ _ _ _ _ _ _ _ c.int32.ensures _ c.in_err-p-3.ensures.value _ refl)))

pub returns-in_err-p-4 : goal.returns-in_err-p-4
returns-in_err-p-4 c = up (of_sought _) _ _ c.from_residual-in_err-p-4.ensures ∙ of_request_lem _ _ _ _ _ c.requires.0 c.requires.1 (field_goes _ _ _ _ _ _ _ _ _ c.int16.ensures _ c.in_ok-p.ensures.ok_part _ (field_goes _ _ _ _ _ _ _ _ _ c.int16-2.ensures _ c.in_ok-p-2.ensures.ok_part _ (field_goes _ _ _ _ _ _ _ _ _ c.int32.ensures _ c.in_ok-p-3.ensures.ok_part _ (field_out _ _ _ _ _ _ _ _ _ c.nullable_string.ensures _ c.in_err-p-4.ensures.value _ refl))))

pub returns : goal.returns
returns c = of_request_lem _ _ _ _ _ c.requires.0 c.requires.1 (field_goes _ _ _ _ _ _ _ _ _ c.int16.ensures _ c.in_ok-p.ensures.ok_part _ (field_goes _ _ _ _ _ _ _ _ _ c.int16-2.ensures _ c.in_ok-p-2.ensures.ok_part _ (field_goes _ _ _ _ _ _ _ _ _ c.int32.ensures _ c.in_ok-p-3.ensures.ok_part _ (field_goes _ _ _ _ _ _ _ _ _ c.nullable_string.ensures _ c.in_ok-p-4.ensures.ok_part _ c.tags_if.ensures))))
