-- The isolation level goes to the rest behind max bytes.
use Rattle.fetch_request.proofs.Walk.{limits_put}
use borrow.Author.Rules.{rules}
use Rattle.fetch_request.proofs.writing.limits.Goals as goal

pub returns : goal.returns
returns c = search (rules, limits_put)
