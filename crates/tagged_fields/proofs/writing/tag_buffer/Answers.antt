-- The rows go to the rest behind their number.
use Rattle.tagged_fields.proofs.Tags.{tags_put}
use borrow.Author.Rules.{rules}
use Rattle.tagged_fields.proofs.writing.tag_buffer.Goals as goal

pub returns : goal.returns
returns c = search (rules, tags_put)
