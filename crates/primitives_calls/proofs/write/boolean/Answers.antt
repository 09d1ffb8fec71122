use Rattle.primitives_put.proofs.Answered.{answered}
use Rattle.primitives_calls.proofs.Passed.{flag_small}
use Rattle.primitives_calls.proofs.write.boolean.Goals as goal

pub returns : goal.returns
returns c = answered _ _ _ _ c.answer.result (flag_small _) c.boolean.ensures c.answer.ensures
