-- Each way out is a law over the bytes behind the first.
use borrow.Author.Rules.{rules}
use Rattle.utf8.proofs.Steps.{bad_2, cut, whole_2}
use Rattle.utf8.proofs.two.Goals as goal

pub returns-then-s-at-lt2 : goal.returns-then-s-at-lt2
returns-then-s-at-lt2 c = search (rules, cut)

pub returns-then-between : goal.returns-then-between
returns-then-between c = search (rules, whole_2)

pub returns : goal.returns
returns c = search (rules, bad_2)
