-- The topics go to the rest behind max bytes and isolation level.
use Rattle.fetch_request.proofs.Walk.{rest_put}
use borrow.Author.Rules.{rules}
use Rattle.fetch_request.proofs.writing.rest.Goals as goal

pub returns : goal.returns
returns c = search (rules, rest_put)
