-- The byte ends the number, or continues.
use Rattle.primitives.proofs.Varint.{tenth_high, tenth_low}
use Rattle.primitives.proofs.numbers.tenth.Goals as goal

pub returns-then-b-lt128 : goal.returns-then-b-lt128
returns-then-b-lt128 c = tenth_low _ _ c.if-b-lt128.true

pub returns : goal.returns
returns c = tenth_high _ _ c.if-b-lt128.false _ c.at.ensures
