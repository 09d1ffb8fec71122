-- A version that lacks tags has the cell of their absence in the row.
use Rattle.tagged_fields.proofs.Replies.{tags_lacking, tags_there}
use Rattle.tagged_fields.proofs.reading.tags_if.Goals as goal

pub returns-then-flexible : goal.returns-then-flexible
returns-then-flexible c = tags_there _ _ _ _ _ c.if-flexible.true _ c.tag_buffer_at.result c.tag_buffer_at.ensures

pub returns : goal.returns
returns c = tags_lacking _ _ _ _ _ c.if-flexible.false
