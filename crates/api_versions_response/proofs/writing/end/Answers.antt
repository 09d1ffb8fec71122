-- The tags go to the rest behind the throttle time.
use Rattle.api_versions_response.proofs.Whole.{end_put}
use borrow.Author.Rules.{rules}
use Rattle.api_versions_response.proofs.writing.end.Goals as goal

pub returns : goal.returns
returns c = search (rules, end_put)
