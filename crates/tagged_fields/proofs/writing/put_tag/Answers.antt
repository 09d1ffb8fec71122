-- The data go to the rest behind the tag.
use Rattle.tagged_fields.proofs.Tags.{tag_put}
use borrow.Author.Rules.{rules}
use Rattle.tagged_fields.proofs.writing.put_tag.Goals as goal

pub returns : goal.returns
returns c = search (rules, tag_put)
