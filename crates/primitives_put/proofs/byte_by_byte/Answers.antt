use mathlib.Core.Path.{refl}
use borrow.Author.Rules.{rules}
use Rattle.primitives_put.proofs.Parts.{copied_again, copied_end, copied_start}
use Rattle.primitives_put.proofs.Stored.{put_none}
use Rattle.primitives_put.proofs.byte_by_byte.Goals as goal

pub loop-p-init : goal.loop-p-init
loop-p-init c = search (rules, copied_start)

pub loop-p-preserved : goal.loop-p-preserved
loop-p-preserved c = search (rules, copied_again)

pub returns-after-loop-p : goal.returns-after-loop-p
returns-after-loop-p c = search (rules, copied_end)

pub returns-else-content-out : goal.returns-else-content-out
returns-else-content-out c = put_none _ _ _ refl c.if-content-out.false
