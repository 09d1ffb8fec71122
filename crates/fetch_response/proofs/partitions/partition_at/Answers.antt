-- The numbers, the array after them, the records after that, and one store of all their cells.
use Rattle.fetch_response.specs.TopicWalks.{partitions_is}
use Rattle.fetch_response.proofs.Handed.{handed}
use Rattle.fetch_response.proofs.PartitionRows.{aborted_no, partition_no, partition_took, records_no}
use Rattle.fetch_response.proofs.partitions.partition_at.Goals as goal

pub returns-in_err-numbers : goal.returns-in_err-numbers
returns-in_err-numbers c = handed (partitions_is _ _) _ _ c.from_residual.ensures (partition_no _ _ _ _ _ _ _ c.in_err-numbers.ensures)

pub returns-in_err-pairs : goal.returns-in_err-pairs
returns-in_err-pairs c = handed (partitions_is _ _) _ _ c.from_residual-in_err-pairs.ensures (aborted_no _ _ _ _ _ _ _ _ _ _ _ c.in_ok-numbers.ensures _ c.in_err-pairs.ensures)

pub returns-in_err-records : goal.returns-in_err-records
returns-in_err-records c = handed (partitions_is _ _) _ _ c.from_residual-in_err-records.ensures (records_no _ _ _ _ _ _ _ _ _ _ _ c.in_ok-numbers.ensures _ _ c.in_ok-pairs.ensures _ c.in_err-records.ensures)

pub returns : goal.returns
returns c = partition_took _ _ _ _ _ _ _ _ _ _ _ c.in_ok-numbers.ensures _ _ c.in_ok-pairs.ensures _ _ _ c.in_ok-records.ensures _ _ c.store_row.ensures
