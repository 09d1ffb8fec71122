-- Above 1 it has the fault.
use Rattle.fetch_request.proofs.Blamed.{level_high, level_low}
use borrow.Author.Rules.{rules}
use Rattle.fetch_request.proofs.naming.level_fault.Goals as goal

pub returns-then-n-le1 : goal.returns-then-n-le1
returns-then-n-le1 c = search (rules, level_low)

pub returns : goal.returns
returns c = search (rules, level_high)
