use mathlib.Core.Path.{sym}
use borrow.Author.Rules.{rules}
use Rattle.layout.proofs.Back.{length_bytes_lem}
use Rattle.primitives_put.proofs.Stored.{down_again, down_end, down_start, put_none}
use Rattle.primitives_put.proofs.lowest.Goals as goal

pub loop-p-init : goal.loop-p-init
loop-p-init c = search (rules, down_start)

pub returns-else-k-out : goal.returns-else-k-out
returns-else-k-out c = put_none _ _ _ (sym (length_bytes_lem _ _)) c.if-k-out.false

pub loop-p-preserved : goal.loop-p-preserved
loop-p-preserved c = search (rules, down_again)

pub returns-after-loop-p : goal.returns-after-loop-p
returns-after-loop-p c = search (rules, down_end)
