use borrow.Author.Tests.{le-leb, lt-leb}
use Rattle.layout.specs.Utf8.{within}
use Rattle.utf8.proofs.between.Goals as goal

pub returns-then-least-b : goal.returns-then-least-b
unfolding within
returns-then-least-b c = rw (le-leb _ _ c.if-least-b.true)

pub returns-else-least-b : goal.returns-else-least-b
unfolding within
returns-else-least-b c = rw (lt-leb _ _ c.if-least-b.false)
