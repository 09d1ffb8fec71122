use Rattle.primitives.proofs.Varint.{even, odd}
use Rattle.primitives_calls.proofs.read.unzigzag.Goals as goal

pub returns-then-n-eq0 : goal.returns-then-n-eq0
returns-then-n-eq0 c = even _ c.if-n-eq0.true

pub returns : goal.returns
returns c = odd _ c.if-n-eq0.false
