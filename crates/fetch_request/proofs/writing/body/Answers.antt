-- What stands behind min bytes goes to the rest.
use Rattle.fetch_request.proofs.Walk.{request_put}
use borrow.Author.Rules.{rules}
use Rattle.fetch_request.proofs.writing.body.Goals as goal

pub returns : goal.returns
returns c = search (rules, request_put)
