use Rattle.layout.specs.Primitives.{length_bytes, null_bytes}
use Rattle.primitives_put.specs.Answers.{count_bytes, count_fault}
use Rattle.primitives_calls.proofs.write.array_count.Goals as goal

pub returns : goal.returns
unfolding count_fault count_bytes length_bytes null_bytes
returns c = c.count.ensures
