-- The second text goes to the rest behind the first.
use Rattle.api_versions_request.proofs.Request.{texts_put}
use borrow.Author.Rules.{rules}
use Rattle.api_versions_request.proofs.writing.texts.Goals as goal

pub returns : goal.returns
returns c = search (rules, texts_put)
