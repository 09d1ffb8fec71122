-- The throttle time is there from version 3 on.
use mathlib.Core.Path.{◌∙◌, refl}
use Rattle.primitives.proofs.Up.{up}
use native.Mathlib.Omega.{arith}
use Rattle.names.specs.Walks.{of_sought}
use Rattle.names.proofs.Ways.{field_goes, field_out}
use Rattle.metadata_response.proofs.Sought.{timed, untimed}
use Rattle.metadata_response.proofs.naming.body.Goals as goal

pub returns-then-v-lt3 : goal.returns-then-v-lt3
returns-then-v-lt3 c = untimed _ _ _ _ _ c.if-v-lt3.true c.from_brokers.ensures

pub returns-in_err-p : goal.returns-in_err-p
returns-in_err-p c = up (of_sought _) _ _ c.from_residual.ensures ∙ timed _ _ _ _ _ (omega arith) (field_out _ _ _ _ _ _ _ _ _ c.int32.ensures _ c.in_err-p.ensures.value _ refl)

pub returns : goal.returns
returns c = timed _ _ _ _ _ (omega arith) (field_goes _ _ _ _ _ _ _ _ _ c.int32.ensures _ c.in_ok-p.ensures.ok_part _ c.from_brokers-2.ensures)
