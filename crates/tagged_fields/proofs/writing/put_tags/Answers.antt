use borrow.Author.Rules.{rules}
use Rattle.body_writing.proofs.Turns.{walked_end, walked_more, walked_start}
use Rattle.body_writing.specs.Writes.{rows_bytes}
use Rattle.tagged_fields.proofs.writing.put_tags.Goals as goal

pub loop-i-init : goal.loop-i-init
loop-i-init c = walked_start _ _ _ _

pub loop-i-preserved : goal.loop-i-preserved
loop-i-preserved c = search (rules, walked_more)

pub returns : goal.returns
unfolding rows_bytes
returns c = search (rules, walked_end)
