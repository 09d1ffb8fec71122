-- The version decides which fields follow the brokers.
use mathlib.Core.Path.{◌∙◌, refl}
use Rattle.primitives.proofs.Up.{up}
use native.Mathlib.Omega.{arith}
use Rattle.names.specs.Walks.{of_sought}
use Rattle.names.proofs.Ways.{field_goes, field_out, next_field}
use Rattle.metadata_response.proofs.Sought.{bare_tail, controlled_tail, whole_tail}
use Rattle.metadata_response.proofs.naming.tail.Goals as goal

pub returns-then-v-lt1 : goal.returns-then-v-lt1
returns-then-v-lt1 c = bare_tail _ _ _ _ _ _ _ c.if-v-lt1.true c.topic_array.ensures

pub returns-then-v-lt2 : goal.returns-then-v-lt2
returns-then-v-lt2 c = controlled_tail _ _ _ _ _ _ _ (omega arith) c.if-v-lt2.true c.controlled.ensures

pub returns-in_err-p : goal.returns-in_err-p
returns-in_err-p c = up (of_sought _) _ _ c.from_residual.ensures ∙ whole_tail _ _ _ _ _ _ _ (omega arith) (field_out _ _ _ _ _ _ _ _ _ c.nullable_string.ensures _ c.in_err-p.ensures.value _ refl)

pub returns : goal.returns
returns c = whole_tail _ _ _ _ _ _ _ (omega arith) (field_goes _ _ _ _ _ _ _ _ _ c.nullable_string.ensures _ c.in_ok-p.ensures.ok_part _ (next_field _ _ _ _ _ _ _ _ c.controlled-2.ensures))
