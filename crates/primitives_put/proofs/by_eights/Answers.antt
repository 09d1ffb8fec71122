use mathlib.Core.Path.{refl}
use Rattle.primitives_put.proofs.Parts.{copied_start, eight_more, eights_end}
use Rattle.primitives_put.proofs.Stored.{put_none}
use borrow.Author.Rules.{rules}
use Rattle.primitives_put.proofs.by_eights.Goals as goal

pub loop-p-init : goal.loop-p-init
loop-p-init c = search (rules, copied_start)

pub loop-p-preserved : goal.loop-p-preserved
loop-p-preserved c = search (rules, eight_more)

pub returns-after-loop-p : goal.returns-after-loop-p
returns-after-loop-p c = search (rules, eights_end)

pub returns-else-n-out : goal.returns-else-n-out
returns-else-n-out c = put_none _ _ _ refl c.if-n-out.false
