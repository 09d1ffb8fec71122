use Rattle.primitives_calls.proofs.Passed.{cell_back, zigzag_high, zigzag_low}
use Rattle.primitives_calls.proofs.write.zigzagged.Goals as goal

pub returns-then-c-lt9223372036854775808 : goal.returns-then-c-lt9223372036854775808
returns-then-c-lt9223372036854775808 c = zigzag_low _ _ c.ranges.value (cell_back _ _ c.ranges.value c.cell-c.ensures) c.if-c-lt9223372036854775808.true

pub returns-else-c-lt9223372036854775808 : goal.returns-else-c-lt9223372036854775808
returns-else-c-lt9223372036854775808 c = zigzag_high _ _ c.ranges.value (cell_back _ _ c.ranges.value c.cell-c.ensures) c.if-c-lt9223372036854775808.false
