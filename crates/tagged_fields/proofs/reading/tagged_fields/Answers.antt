-- Size, bytes, room, rows: each way out is a law of all messages, at the message of tagged fields alone.
use Rattle.primitives.proofs.Up.{is_err_of}
use Rattle.tagged_fields.proofs.Replies.{reply_long, reply_needs, reply_no, reply_took}
use borrow.Author.Rules.{rules}
use Rattle.tagged_fields.proofs.reading.tagged_fields.Goals as goal

pub returns-then-msg-gt-MOST : goal.returns-then-msg-gt-MOST
returns-then-msg-gt-MOST c = reply_long _ _ _ c.at.ensures (search rules)

pub returns-in_err-measured : goal.returns-in_err-measured
returns-in_err-measured c = reply_no _ _ (search rules) _ _ _ c.tag_buffer_at.ensures (search rules) _ c.in_err-measured.was _ (is_err_of _ _ c.from_residual.ensures)

pub returns-then-table-measured : goal.returns-then-table-measured
returns-then-table-measured c = reply_needs _ _ (search rules) _ _ _ c.tag_buffer_at.ensures (search rules) _ _ _ c.in_ok-measured.was c.if-table-measured.true _ c.no_room.ensures

pub returns : goal.returns
returns c = reply_took _ _ (search rules) _ _ _ c.tag_buffer_at.ensures (search rules) _ _ _ c.in_ok-measured.was (search rules) _ c.tag_buffer_at-2.result c.tag_buffer_at-2.ensures
