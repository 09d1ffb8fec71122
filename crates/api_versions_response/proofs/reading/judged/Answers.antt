-- Bytes, what is left, room, rows: each way out is a law of all messages, at this one.
use mathlib.Core.Path.{◌∙◌, sym}
use Rattle.api_versions_response.proofs.Replies.{reply_items, reply_left, reply_no, reply_tags, reply_took}
use Rattle.primitives.proofs.Up.{is_err_of}
use borrow.Author.Rules.{rules}
use Rattle.api_versions_response.proofs.reading.judged.Goals as goal

pub returns-then-is_left : goal.returns-then-is_left
returns-then-is_left c = reply_left _ _ c.requires.0 _ _ _ c.requires.1 _ _ _ _ _ c.body_at.ensures (search rules) (search rules) _ c.in_ok-measured.was (sym c.is_left.ensures ∙ c.if-is_left.true) _ c.at.ensures

pub returns-then-items-measured : goal.returns-then-items-measured
returns-then-items-measured c = reply_items _ _ c.requires.0 _ _ _ c.requires.1 _ _ _ _ _ c.body_at.ensures (search rules) (search rules) _ c.in_ok-measured.was (sym c.is_left.ensures ∙ c.if-is_left.false) c.if-items-measured.true _ c.no_room.ensures

pub returns-then-tags-measured : goal.returns-then-tags-measured
returns-then-tags-measured c = reply_tags _ _ c.requires.0 _ _ _ c.requires.1 _ _ _ _ _ c.body_at.ensures (search rules) (search rules) _ c.in_ok-measured.was (sym c.is_left.ensures ∙ c.if-is_left.false) c.if-items-measured.false c.if-tags-measured.true _ c.no_room-then-tags-measured.ensures

pub returns : goal.returns
returns c = reply_took _ _ c.requires.0 _ _ _ c.requires.1 _ _ _ _ _ c.body_at.ensures (search rules) (search rules) _ c.in_ok-measured.was (sym c.is_left.ensures ∙ c.if-is_left.false) c.if-items-measured.false c.if-tags-measured.false _ _ c.body_at-2.result c.body_at-2.ensures

pub returns-in_err-measured : goal.returns-in_err-measured
returns-in_err-measured c = rw (is_err_of _ _ c.from_residual.ensures) (reply_no _ _ c.requires.0 _ _ _ c.requires.1 _ _ _ _ _ c.body_at.ensures (search rules) (search rules) _ c.in_err-measured.was)
