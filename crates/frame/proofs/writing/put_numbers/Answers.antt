-- Three numbers at their places, where there is room for them.
use mathlib.Core.Path.{refl}
use Rattle.body_writing.proofs.Even.{front_none}
use Rattle.frame.proofs.RequestWritten.{numbers_long, numbers_put}
use Rattle.frame.proofs.writing.put_numbers.Goals as goal

pub returns-then-out-ge8 : goal.returns-then-out-ge8
returns-then-out-ge8 c = numbers_put _ _ _ c.if-out-ge8.true c.lowest.ensures c.lowest-then-out-ge8.ensures _ refl c.lowest-then-out-ge8-2.ensures

pub returns-else-out-ge8 : goal.returns-else-out-ge8
returns-else-out-ge8 c = front_none (numbers_long _) c.if-out-ge8.false
