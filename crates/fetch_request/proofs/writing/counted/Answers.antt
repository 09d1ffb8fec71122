-- The partitions go to the rest behind their number.
use Rattle.fetch_request.proofs.Walk.{rows_put}
use borrow.Author.Rules.{rules}
use Rattle.fetch_request.proofs.writing.counted.Goals as goal

pub returns : goal.returns
returns c = search (rules, rows_put)
