use mathlib.Core.Path.{ap, sym}
use lib.ListN.{length}
use native.Mathlib.Omega.{arith}
use Rattle.primitives_put.proofs.Shortest.{beyond, unsigned_last}
use Rattle.primitives_put.proofs.compact_size.Goals as goal

pub returns-then-n-lt127 : goal.returns-then-n-lt127
returns-then-n-lt127 c = sym (ap length (unsigned_last _ (omega arith)))

pub returns-in-Some : goal.returns-in-Some
returns-in-Some c = rw (sym c.in-Some.ensures.1) c.varint_length.ensures

pub returns-in-None : goal.returns-in-None
returns-in-None c = sym (ap length (beyond c.args.n c.ranges.n.fits (omega (arith, c.in-None.ensures))))
