use borrow.Author.Rules.{rules}
use Rattle.utf8.proofs.Steps.{next_ascii}
use Rattle.utf8.proofs.plain.Goals as goal

pub returns-then-ends_ascii : goal.returns-then-ends_ascii
returns-then-ends_ascii c = c.ends_ascii.ensures.all c.if-ends_ascii.true

pub loop-at-preserved : goal.loop-at-preserved
loop-at-preserved c = search (rules, next_ascii)
