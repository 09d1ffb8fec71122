-- Without room the mark moves on by five, whatever the numbers are; else they are read as they were before.
use native.Mathlib.Omega.{arith}
use Rattle.metadata_response.proofs.PartitionCells.{row_in, row_none, row_out}
use Rattle.metadata_response.proofs.partitions.store_partition.Goals as goal

pub returns-then-table-mark : goal.returns-then-table-mark
returns-then-table-mark c = row_out _ _ _ _ _ _ _ _ _ c.skip4.ensures (omega arith) c.store.ensures

pub returns-in-Ok : goal.returns-in-Ok
returns-in-Ok c = row_in _ _ _ _ _ _ _ _ _ _ _ _ c.in-Ok.ensures c.store_row.ensures

pub returns-in-Err : goal.returns-in-Err
returns-in-Err c = row_none _ _ _ _ _ _ _ _ _ c.in-Err.ensures
