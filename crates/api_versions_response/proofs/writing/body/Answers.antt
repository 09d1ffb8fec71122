-- The rest goes behind the error.
use Rattle.api_versions_response.proofs.Whole.{response_put}
use borrow.Author.Rules.{rules}
use Rattle.api_versions_response.proofs.writing.body.Goals as goal

pub returns : goal.returns
returns c = search (rules, response_put)
