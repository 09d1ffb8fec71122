use native.Mathlib.Omega.{arith}
use borrow.Author.Rules.{rules}
use Rattle.primitives_put.proofs.Stored.{put_none}
use Rattle.primitives_put.proofs.Shortest.{put_one, up_again, up_end, up_room, up_start}
use Rattle.primitives_put.proofs.unsigned_varint.Goals as goal

pub returns-then-n-lt128 : goal.returns-then-n-lt128
returns-then-n-lt128 c = search (rules, put_one)

pub loop-left-init : goal.loop-left-init
loop-left-init c = up_start _ _ (omega arith)

pub bounds-out-p : goal.bounds-out-p
bounds-out-p c = search (rules, up_room)

pub overflow_add-p : goal.overflow_add-p
overflow_add-p c = search (rules, up_room)

pub loop-left-preserved : goal.loop-left-preserved
loop-left-preserved c = search (rules, up_again)

pub bounds-out-p-then-count-out : goal.bounds-out-p-then-count-out
bounds-out-p-then-count-out c = search (rules, up_room)

pub returns-after-loop-left : goal.returns-after-loop-left
returns-after-loop-left c = search (rules, up_end)

pub returns-else-count-out : goal.returns-else-count-out
returns-else-count-out c = search (rules, put_none)
