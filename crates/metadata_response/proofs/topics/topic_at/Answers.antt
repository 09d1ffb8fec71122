-- The fields and the number of partitions are one store; the loop over the partitions goes on from there.
use Rattle.metadata_response.specs.TopicWalks.{topics_is}
use Rattle.metadata_response.proofs.TopicRows.{count_no, topic_no, topic_took}
use Rattle.body_reading.proofs.Turns.{runs_up}
use Rattle.metadata_response.proofs.topics.topic_at.Goals as goal

pub returns-in_err-row : goal.returns-in_err-row
returns-in_err-row c = runs_up (topics_is _ _ _ _) _ _ c.from_residual.ensures (topic_no _ _ _ _ _ _ _ _ _ c.in_err-row.ensures)

pub returns-in_err-count : goal.returns-in_err-count
returns-in_err-count c = runs_up (topics_is _ _ _ _) _ _ c.from_residual-in_err-count.ensures (count_no _ _ _ _ _ _ _ _ _ _ _ _ _ c.in_ok-row.ensures _ c.in_err-count.ensures)

pub returns : goal.returns
returns c = topic_took _ _ _ _ _ _ _ _ _ _ _ _ _ c.in_ok-row.ensures _ _ c.in_ok-count.ensures _ _ c.store_row-after.ensures _ _ _ c.partitions_in.result c.partitions_in.ensures
