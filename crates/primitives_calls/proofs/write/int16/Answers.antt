use Rattle.layout.specs.Primitives.{w16}
use Rattle.primitives_calls.proofs.Passed.{integer_written_lem}
use Rattle.primitives_calls.proofs.write.int16.Goals as goal

pub returns : goal.returns
returns c = integer_written_lem _ c.ranges.value _ _ w16 _ c.cell.ensures c.integer.ensures
