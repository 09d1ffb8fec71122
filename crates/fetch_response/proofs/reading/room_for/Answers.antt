-- Table by table, in their order.
use Rattle.fetch_response.proofs.Replies.{short_aborted, short_nowhere, short_partitions, short_topics}
use Rattle.fetch_response.proofs.reading.room_for.Goals as goal

pub returns-then-t-marks : goal.returns-then-t-marks
returns-then-t-marks c = short_topics _ _ _ _ c.if-t-marks.true

pub returns-then-p-marks : goal.returns-then-p-marks
returns-then-p-marks c = short_partitions _ _ _ _ c.if-t-marks.false c.if-p-marks.true

pub returns-then-a-marks : goal.returns-then-a-marks
returns-then-a-marks c = short_aborted _ _ _ _ c.if-t-marks.false c.if-p-marks.false c.if-a-marks.true

pub returns : goal.returns
returns c = short_nowhere _ _ _ _ c.if-t-marks.false c.if-p-marks.false c.if-a-marks.false
