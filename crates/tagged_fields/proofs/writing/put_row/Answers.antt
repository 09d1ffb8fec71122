-- The row's cells stand in the table from three times its number on.
use Rattle.tagged_fields.proofs.Tags.{row_put}
use borrow.Author.Rules.{rules}
use Rattle.tagged_fields.proofs.writing.put_row.Goals as goal

pub returns : goal.returns
returns c = search (rules, row_put)
