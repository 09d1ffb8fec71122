-- The row's cells stand in the table from twice its number on.
use Rattle.metadata_request.proofs.Request.{name_put}
use borrow.Author.Rules.{rules}
use Rattle.metadata_request.proofs.writing.name.Goals as goal

pub returns : goal.returns
returns c = search (rules, name_put)
