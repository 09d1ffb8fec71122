-- A correlation number, and from header 1 on tagged fields.
use mathlib.Core.Path.{◌∙◌, refl}
use Rattle.primitives.proofs.Up.{up}
use Rattle.names.specs.Walks.{of_sought}
use Rattle.names.proofs.Ways.{field_goes, field_out}
use Rattle.frame.proofs.Sought.{of_response_lem}
use Rattle.frame.proofs.naming.response.Goals as goal

pub returns-in_err-p : goal.returns-in_err-p
returns-in_err-p c = up (of_sought _) _ _ c.from_residual.ensures ∙ of_response_lem _ _ _ _ _ c.requires (field_out _ _ _ _ _ _ _ _ _ c.int32.ensures _ c.in_err-p.ensures.value _ refl)

pub returns : goal.returns
returns c = of_response_lem _ _ _ _ _ c.requires (field_goes _ _ _ _ _ _ _ _ _ c.int32.ensures _ c.in_ok-p.ensures.ok_part _ c.tags_if.ensures)
