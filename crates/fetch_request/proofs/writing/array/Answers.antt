-- The topics go to the rest behind their number.
use Rattle.fetch_request.proofs.Walk.{array_put}
use borrow.Author.Rules.{rules}
use Rattle.fetch_request.proofs.writing.array.Goals as goal

pub returns : goal.returns
returns c = search (rules, array_put)
