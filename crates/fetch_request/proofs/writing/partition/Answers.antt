-- Three numbers at their places, where there is room for them.
use mathlib.Core.Path.{refl}
use Rattle.fetch_request.proofs.Walk.{partition_wide, partition_put}
use Rattle.body_writing.proofs.Even.{front_none}
use Rattle.fetch_request.proofs.writing.partition.Goals as goal

pub returns-then-out-ge16 : goal.returns-then-out-ge16
returns-then-out-ge16 c = partition_put _ _ c.requires c.if-out-ge16.true c.lowest.ensures c.lowest-then-out-ge16.ensures _ refl c.lowest-then-out-ge16-2.ensures

pub returns-else-out-ge16 : goal.returns-else-out-ge16
returns-else-out-ge16 c = front_none (partition_wide _) c.if-out-ge16.false
