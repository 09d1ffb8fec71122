-- The name and the number of partitions are one store; the loop over the partitions goes on from there.
use Rattle.fetch_response.specs.TopicWalks.{topics_is}
use Rattle.fetch_response.proofs.Handed.{handed}
use Rattle.fetch_response.proofs.TopicRows.{count_no, name_no, topic_took}
use Rattle.fetch_response.proofs.topics.topic_at.Goals as goal

pub returns-in_err-name : goal.returns-in_err-name
returns-in_err-name c = handed (topics_is _ _ _) _ _ c.from_residual.ensures (name_no _ _ _ _ _ _ _ _ c.in_err-name.ensures)

pub returns-in_err-items : goal.returns-in_err-items
returns-in_err-items c = handed (topics_is _ _ _) _ _ c.from_residual-in_err-items.ensures (count_no _ _ _ _ _ _ _ _ _ _ c.in_ok-name.ensures _ c.in_err-items.ensures)

pub returns : goal.returns
returns c = topic_took _ _ _ _ _ _ _ _ _ _ c.in_ok-name.ensures _ _ c.in_ok-items.ensures _ _ c.store_row.ensures _ _ c.partitions_in.result c.partitions_in.ensures
