-- With room the cell is set; without it a set behind the end is none.
use Rattle.body_reading.proofs.Stores.{store_in, store_out}
use borrow.Author.Rules.{rules}
use Rattle.body_reading.proofs.tables.store.Goals as goal

pub returns-then-mark-table : goal.returns-then-mark-table
returns-then-mark-table c = search (rules, store_in)

pub returns-else-mark-table : goal.returns-else-mark-table
returns-else-mark-table c = search (rules, store_out)
