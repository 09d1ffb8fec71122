use Rattle.primitives_calls.proofs.Passed.{varlong_written_lem}
use Rattle.primitives_calls.proofs.write.varlong.Goals as goal

pub returns : goal.returns
returns c = varlong_written_lem _ c.ranges.value _ _ c.zigzagged.ensures _ c.unsigned_varint.ensures
