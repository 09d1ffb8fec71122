use native.Mathlib.Omega.{arith}
use Rattle.primitives_put.proofs.Answered.{answered}
use Rattle.primitives_put.proofs.Shortest.{unsigned_length}
use Rattle.primitives_calls.proofs.write.unsigned_varint.Goals as goal

pub returns : goal.returns
returns c = answered _ _ _ _ c.answer.result (omega (arith, unsigned_length c.args.n)) c.unsigned_varint.ensures c.answer.ensures
