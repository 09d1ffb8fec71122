-- The next mark, and the limit's own.
use Rattle.body_reading.proofs.Stores.{step_not, step_up}
use borrow.Author.Rules.{rules}
use Rattle.body_reading.proofs.tables.stepped.Goals as goal

pub returns-then-mark-lt-LIMIT : goal.returns-then-mark-lt-LIMIT
returns-then-mark-lt-LIMIT c = step_up _ (search rules)

pub returns-else-mark-lt-LIMIT : goal.returns-else-mark-lt-LIMIT
returns-else-mark-lt-LIMIT c = step_not _ (search rules)
