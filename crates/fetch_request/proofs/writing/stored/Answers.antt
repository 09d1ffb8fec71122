-- The most bytes that it can have fit.
use Rattle.primitives_put.proofs.Measured.{written_once}
use Rattle.fetch_request.proofs.Most.{most_told}
use native.Mathlib.Omega.{arith}
use Rattle.fetch_request.proofs.writing.stored.Goals as goal

pub returns-then-enough-out : goal.returns-then-enough-out
returns-then-enough-out c = written_once c.body.ensures (most_told _ _ _ _ c.requires (omega arith) c.most_bytes-enough.ensures c.if-enough-le-MOST.true c.if-enough-le-MOST.true) (most_told _ _ _ _ c.requires (omega arith) c.most_bytes-enough.ensures c.if-enough-le-MOST.true c.if-enough-out.true)
