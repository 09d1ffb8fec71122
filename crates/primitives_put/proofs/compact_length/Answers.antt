use mathlib.Core.Path.{sym}
use native.Mathlib.Omega.{arith}
use Rattle.primitives_put.proofs.Shortest.{beyond}
use Rattle.primitives_put.proofs.compact_length.Goals as goal

pub returns-in-Some : goal.returns-in-Some
returns-in-Some c = rw (sym c.in-Some.ensures.1) c.unsigned_varint.ensures

pub returns-in-None : goal.returns-in-None
returns-in-None c = rw (beyond c.args.n c.ranges.n.fits (omega (arith, c.in-None.ensures))) c.raw.ensures
