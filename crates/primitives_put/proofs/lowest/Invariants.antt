use Rattle.primitives_put.proofs.Stored.{Down}
use Rattle.primitives_put.proofs.lowest.Given as goal

abbrev pub invariant-loop-p : goal.invariant-loop-p
invariant-loop-p l = Down l.initial.out l.cell l.k l.out l.left l.p
