-- Auto-creation goes to the rest behind the names.
use Rattle.metadata_request.proofs.Request.{request_put}
use borrow.Author.Rules.{rules}
use Rattle.metadata_request.proofs.writing.body.Goals as goal

pub returns : goal.returns
returns c = search (rules, request_put)
