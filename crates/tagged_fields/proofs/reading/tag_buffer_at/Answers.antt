-- The count is an array's, and the walk over its items is the loop of `tags_at`, with the row and the table in their places.
use Rattle.primitives.proofs.Up.{is_err_of}
use Rattle.tagged_fields.proofs.Replies.{buffer_no, buffer_no_count, buffer_took}
use Rattle.tagged_fields.proofs.reading.tag_buffer_at.Goals as goal

pub returns-in_err-count : goal.returns-in_err-count
returns-in_err-count c = buffer_no_count _ _ _ _ _ c.in_err-count.ensures _ _ (is_err_of _ _ c.from_residual.ensures)

pub returns-in_err-tags : goal.returns-in_err-tags
returns-in_err-tags c = buffer_no _ _ _ _ _ _ c.in_ok-count.ensures _ _ c.tags_at.ensures _ c.in_err-tags.was _ (is_err_of _ _ c.from_residual-in_err-tags.ensures)

pub returns : goal.returns
returns c = buffer_took _ _ _ _ _ _ c.in_ok-count.ensures _ _ c.tags_at.ensures _ _ c.in_ok-tags.was
