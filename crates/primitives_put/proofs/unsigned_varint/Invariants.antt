use Rattle.primitives_put.proofs.Shortest.{Up}
use Rattle.primitives_put.proofs.unsigned_varint.Given as goal

abbrev pub invariant-loop-left : goal.invariant-loop-left
invariant-loop-left l = Up l.initial.out l.n l.out l.left l.p

abbrev pub decreases-loop-left : goal.decreases-loop-left
decreases-loop-left l = l.left
