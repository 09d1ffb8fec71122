use native.Mathlib.Omega.{arith}
use Rattle.primitives_put.specs.Put.{size_of}
use Rattle.primitives_put.proofs.Answered.{answered}
use Rattle.primitives_calls.proofs.Judged.{null_small}
use Rattle.primitives_calls.proofs.write.null_length.Goals as goal

pub returns : goal.returns
returns c = answered _ _ _ _ c.answer.result (omega (arith, null_small (size_of c.args.form))) c.null.ensures c.answer.ensures
