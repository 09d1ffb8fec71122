use native.Mathlib.Omega.{arith}
use lib.ListN.{length}
use Rattle.primitives_put.specs.Put.{size_of}
use Rattle.primitives_put.proofs.Parts.{length_small, sized_all, sized_none}
use Rattle.primitives_put.proofs.sized.Goals as goal

pub overflow_add-all : goal.overflow_add-all
overflow_add-all c = omega (arith, length_small (size_of c.args.form) (length c.args.content.now))

pub returns-then-all-out : goal.returns-then-all-out
returns-then-all-out c = sized_all _ _ _ c.length_size-head.ensures (omega (arith, c.if-all-out.true)) c.length.ensures c.raw.ensures

pub returns-else-all-out : goal.returns-else-all-out
returns-else-all-out c = sized_none _ _ _ c.length_size-head.ensures c.if-all-out.false
