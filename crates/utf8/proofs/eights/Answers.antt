use borrow.Author.Rules.{rules}
use Rattle.utf8.proofs.Steps.{next_eight, start}
use Rattle.utf8.proofs.eights.Goals as goal

pub loop-at-init : goal.loop-at-init
loop-at-init c = start _

pub loop-at-preserved : goal.loop-at-preserved
loop-at-preserved c = search (rules, next_eight)
