-- The walk's bytes are measured, judged and written.
use Rattle.primitives_put.proofs.Measured.{measured_long, measured_short, measured_written}
use Rattle.api_versions_request.proofs.writing.stored.Goals as goal

pub returns-then-all-gt-MOST : goal.returns-then-all-gt-MOST
returns-then-all-gt-MOST c = measured_long c.body-all.ensures _ _ c.at.ensures c.if-all-gt-MOST.true

pub returns-then-out-all : goal.returns-then-out-all
returns-then-out-all c = measured_short c.body-all.ensures _ c.if-all-gt-MOST.false _ c.no_room.ensures c.if-out-all.true

pub returns : goal.returns
returns c = measured_written c.body-all.ensures _ c.if-all-gt-MOST.false c.if-out-all.false c.body.ensures
