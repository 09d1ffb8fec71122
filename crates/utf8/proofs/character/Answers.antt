use native.Mathlib.Omega.{arith}
use borrow.Author.Rules.{rules}
use Rattle.utf8.proofs.Lines.{four_at, none_at, one_at, three_at, two_at}
use Rattle.utf8.proofs.character.Goals as goal

pub returns-then-k-eq0 : goal.returns-then-k-eq0
returns-then-k-eq0 c = search (rules, one_at)

pub returns-then-k-eq1 : goal.returns-then-k-eq1
returns-then-k-eq1 c = search (rules, two_at)

pub returns-then-k-lt6 : goal.returns-then-k-lt6
returns-then-k-lt6 c = three_at _ _ _ c.requires.1 c.class-k.ensures _ _ _ (omega arith) c.if-k-lt6.true c.low.ensures c.high.ensures c.three.ensures

pub returns-then-k-lt9 : goal.returns-then-k-lt9
returns-then-k-lt9 c = search (rules, four_at)

pub returns : goal.returns
returns c = search (rules, none_at)
