use Rattle.primitives_calls.proofs.Passed.{varint_wide, varint_written_lem}
use Rattle.primitives_calls.proofs.write.varint.Goals as goal

pub returns-then-n-lt4294967296 : goal.returns-then-n-lt4294967296
returns-then-n-lt4294967296 c = varint_written_lem _ c.ranges.value _ _ c.zigzagged-n.ensures c.if-n-lt4294967296.true _ c.unsigned_varint.ensures

pub returns : goal.returns
returns c = varint_wide _ c.ranges.value _ _ c.zigzagged-n.ensures c.if-n-lt4294967296.false _ c.at.ensures
