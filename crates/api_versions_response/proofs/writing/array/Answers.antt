-- The items go to the rest behind their number.
use Rattle.api_versions_response.proofs.Whole.{array_put}
use borrow.Author.Rules.{rules}
use Rattle.api_versions_response.proofs.writing.array.Goals as goal

pub returns : goal.returns
returns c = search (rules, array_put)
