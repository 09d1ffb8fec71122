use native.Mathlib.Omega.{arith}
use borrow.Author.Rules.{rules}
use Rattle.layout.specs.Utf8.{characters, within}
use Rattle.utf8.specs.Class.{class_of, line_of, starts}
use Rattle.utf8.proofs.Lines.{as_grammar, right}
use Rattle.utf8.proofs.Steps.{end, fits_on, next, stop}
use Rattle.utf8.proofs.walk.Goals as goal

pub loop-at-init : goal.loop-at-init
loop-at-init c = c.requires

pub character-n-requires : goal.character-n-requires
unfolding as_grammar class_of line_of starts characters within
character-n-requires c = (right _ tt, c.loop-at-test.true)

pub returns-then-n-eq0 : goal.returns-then-n-eq0
returns-then-n-eq0 c = search (rules, stop)

pub overflow_add-at : goal.overflow_add-at
overflow_add-at c = omega (arith, fits_on _ _ _ c.loop-at.invariant c.character-n.ensures)

pub loop-at-smaller : goal.loop-at-smaller
loop-at-smaller c = omega (arith, fits_on _ _ _ c.loop-at.invariant c.character-n.ensures)

pub loop-at-preserved : goal.loop-at-preserved
loop-at-preserved c = search (rules, next)

pub returns : goal.returns
returns c = search (rules, end)
