-- The names go to the rest behind their number.
use Rattle.metadata_request.proofs.Request.{array_put}
use borrow.Author.Rules.{rules}
use Rattle.metadata_request.proofs.writing.array.Goals as goal

pub returns : goal.returns
returns c = search (rules, array_put)
