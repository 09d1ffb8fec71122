-- What is left of the number from p on is what was asked at the start, and 9 − p bytes may follow before the tenth.
use Prim.Native.Nat.{◌-◌, ◌≤◌}
use Rattle.primitives.proofs.Varint.{Along}
use Rattle.primitives.proofs.numbers.unsigned_varint.Given as goal

abbrev pub invariant-loop-p : goal.invariant-loop-p
invariant-loop-p l = (l.p ≤ 9) × Along l.s (9 - l.p) l.weight l.value l.p
