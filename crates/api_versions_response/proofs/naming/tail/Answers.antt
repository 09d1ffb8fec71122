-- The throttle time is there from version 1 on, tagged fields in 3.
use mathlib.Core.Path.{◌∙◌, refl}
use native.Mathlib.Omega.{arith}
use Rattle.primitives.proofs.Up.{up}
use Rattle.names.specs.Walks.{of_sought}
use Rattle.names.proofs.Ways.{field_goes, field_out}
use Rattle.api_versions_response.proofs.Sought.{no_tail, of_tail_lem}
use Rattle.api_versions_response.proofs.naming.tail.Goals as goal

pub returns-then-v-lt1 : goal.returns-then-v-lt1
returns-then-v-lt1 c = no_tail _ _ _ _ _ c.if-v-lt1.true

pub returns-in_err-p : goal.returns-in_err-p
returns-in_err-p c = up (of_sought _) _ _ c.from_residual.ensures ∙ of_tail_lem _ _ _ _ _ (omega arith) _ (field_out _ _ _ _ _ _ _ _ _ c.int32.ensures _ c.in_err-p.ensures.value _ refl)

pub returns : goal.returns
returns c = of_tail_lem _ _ _ _ _ (omega arith) _ (field_goes _ _ _ _ _ _ _ _ _ c.int32.ensures _ c.in_ok-p.ensures.ok_part _ c.tags_if.ensures)
