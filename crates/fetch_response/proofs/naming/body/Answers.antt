-- The throttle time is there from version 1 on.
use mathlib.Core.Path.{◌∙◌, refl}
use Rattle.primitives.proofs.Up.{up}
use native.Mathlib.Omega.{arith}
use Rattle.names.specs.Walks.{of_sought}
use Rattle.names.proofs.Ways.{field_goes, field_out}
use Rattle.fetch_response.proofs.Sought.{at_zero, from_one}
use Rattle.fetch_response.proofs.naming.body.Goals as goal

pub returns-then-v-lt1 : goal.returns-then-v-lt1
returns-then-v-lt1 c = at_zero _ _ _ _ c.if-v-lt1.true _ c.responses.ensures

pub returns-in_err-p : goal.returns-in_err-p
returns-in_err-p c = up (of_sought _) _ _ c.from_residual.ensures ∙ from_one _ _ _ _ (omega arith) _ (field_out _ _ _ _ _ _ _ _ _ c.int32.ensures _ c.in_err-p.ensures.value _ refl)

pub returns : goal.returns
returns c = from_one _ _ _ _ (omega arith) _ (field_goes _ _ _ _ _ _ _ _ _ c.int32.ensures _ c.in_ok-p.ensures.ok_part _ c.responses-2.ensures)
