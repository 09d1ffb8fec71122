use native.Mathlib.Omega.{arith}
use lib.Count.{leading_le}
use Rattle.primitives_put.proofs.Shortest.{unsigned_bits}
use Rattle.primitives_put.proofs.varint_length.Goals as goal

pub overflow_sub-bits : goal.overflow_sub-bits
overflow_sub-bits c = omega (arith, leading_le 64 c.args.n)

pub returns-then-bits-eq0 : goal.returns-then-bits-eq0
returns-then-bits-eq0 c = omega (arith, unsigned_bits c.args.n (omega arith))

pub returns : goal.returns
returns c = omega (arith, unsigned_bits c.args.n (omega arith))
