use Rattle.primitives_put.proofs.Parts.{Copied}
use Rattle.primitives_put.proofs.byte_by_byte.Given as goal

abbrev pub invariant-loop-p : goal.invariant-loop-p
invariant-loop-p l = Copied l.initial.out l.content l.out l.p
