-- Each way out is a law over the bytes behind the first.
use borrow.Author.Rules.{rules}
use Rattle.utf8.proofs.Steps.{bad_2, bad_3, cut, whole_3}
use Rattle.utf8.proofs.three.Goals as goal

pub returns-then-s-at-lt3 : goal.returns-then-s-at-lt3
returns-then-s-at-lt3 c = search (rules, cut)

pub returns-then-between-2 : goal.returns-then-between-2
returns-then-between-2 c = search (rules, whole_3)

pub returns-else-between-2 : goal.returns-else-between-2
returns-else-between-2 c = search (rules, bad_3)

pub returns-else-between : goal.returns-else-between
returns-else-between c = search (rules, bad_2)
