-- The numbers, the two arrays after them, and one store of the numbers and the arrays' counts.
use Rattle.metadata_response.specs.TopicWalks.{partitions_is}
use Rattle.metadata_response.proofs.PartitionCells.{partition_no, partition_took, replicas_no, synced_no}
use Rattle.body_reading.proofs.Turns.{runs_up}
use Rattle.metadata_response.proofs.partitions.partition_at.Goals as goal

pub returns-in_err-row : goal.returns-in_err-row
returns-in_err-row c = runs_up (partitions_is _ _ _) _ _ c.from_residual.ensures (partition_no _ _ _ _ _ _ _ c.in_err-row.ensures)

pub returns-in_err-nodes : goal.returns-in_err-nodes
returns-in_err-nodes c = runs_up (partitions_is _ _ _) _ _ c.from_residual-in_err-nodes.ensures (replicas_no _ _ _ _ _ _ _ _ _ _ c.in_ok-row.ensures _ c.in_err-nodes.ensures)

pub returns-in_err-in_sync : goal.returns-in_err-in_sync
returns-in_err-in_sync c = runs_up (partitions_is _ _ _) _ _ c.from_residual-in_err-in_sync.ensures (synced_no _ _ _ _ _ _ _ _ _ _ c.in_ok-row.ensures _ c.in_ok-nodes.nodes c.in_ok-nodes.ensures _ c.in_err-in_sync.ensures)

pub returns : goal.returns
returns c = partition_took _ _ _ _ _ _ _ _ _ _ c.in_ok-row.ensures _ c.in_ok-nodes.nodes c.in_ok-nodes.ensures _ c.in_ok-in_sync.in_sync c.in_ok-in_sync.ensures _ _ (c.store_partition-after.ensures.law _ _ _ _ c.in_ok-row.ensures)
