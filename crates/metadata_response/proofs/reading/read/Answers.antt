-- Measured, judged for room, and filled: each way out is a law of all messages, at this one.
use mathlib.Core.Path.{refl}
use mir.Facts.{to_z-of_z}
use Rattle.layout.specs.Messages.Metadata as Meta
use Rattle.primitives.proofs.Versions.{passed}
use Rattle.body_reading.proofs.Metered.{metered_same}
use Rattle.metadata_response.proofs.Replies.{reply_no, reply_short, reply_took}
use Rattle.metadata_response.proofs.reading.read.Goals as goal

pub returns-in_err-all : goal.returns-in_err-all
returns-in_err-all c = reply_no _ _ _ _ _ _ _ _ _ c.from_residual.ensures (metered_same Meta.response _ _ _ (to_z-of_z c.ranges.version) _ c.in_err-all.ensures)

pub returns-in-Some : goal.returns-in-Some
returns-in-Some c = reply_short _ _ _ _ _ _ _ c.in_ok-all.all.body _ _ _ (metered_same Meta.response _ _ _ (to_z-of_z c.ranges.version) _ c.in_ok-all.ensures) _ refl _ c.room_for.ensures _ c.in-Some.is _ c.no_room.ensures

pub returns : goal.returns
returns c = reply_took _ _ _ _ _ _ _ c.in_ok-all.all.body _ _ _ (metered_same Meta.response _ _ _ (to_z-of_z c.ranges.version) _ c.in_ok-all.ensures) _ (passed _ c.ranges.version _ c.version_of-v.ensures) _ c.room_for.ensures c.in_default.is _ _ _ _ _ c.body_at.result c.body_at.ensures
