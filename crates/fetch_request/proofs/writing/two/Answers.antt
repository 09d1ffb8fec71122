-- The second goes to the rest behind the first.
use Rattle.primitives_put.proofs.Stored.{two_put}
use borrow.Author.Rules.{rules}
use Rattle.fetch_request.proofs.writing.two.Goals as goal

pub returns : goal.returns
returns c = search (rules, two_put)
