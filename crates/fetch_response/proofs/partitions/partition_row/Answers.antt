-- Three numbers, one after the other, and a fourth where the version has it.
use mathlib.Core.Path.{◌∙◌}
use Rattle.primitives.proofs.Up.{up}
use Rattle.fetch_response.specs.TopicWalks.{of_partition_row}
use Rattle.fetch_response.proofs.PartitionRows.{error_no, index_no, numbers_took, offset_no, watermark_no}
use Rattle.fetch_response.proofs.partitions.partition_row.Goals as goal

pub returns-in_err-index : goal.returns-in_err-index
returns-in_err-index c = up of_partition_row _ _ c.from_residual.ensures ∙ index_no _ _ _ _ c.in_err-index.ensures

pub returns-in_err-error : goal.returns-in_err-error
returns-in_err-error c = up of_partition_row _ _ c.from_residual-in_err-error.ensures ∙ error_no _ _ _ _ _ c.in_ok-index.ensures _ c.in_err-error.ensures

pub returns-in_err-watermark : goal.returns-in_err-watermark
returns-in_err-watermark c = up of_partition_row _ _ c.from_residual-in_err-watermark.ensures ∙ watermark_no _ _ _ _ _ c.in_ok-index.ensures _ _ c.in_ok-error.ensures _ c.in_err-watermark.ensures

pub returns-in_err-offset : goal.returns-in_err-offset
returns-in_err-offset c = up of_partition_row _ _ c.from_residual-in_err-offset.ensures ∙ offset_no _ _ _ _ _ c.in_ok-index.ensures _ _ c.in_ok-error.ensures _ _ c.in_ok-watermark.ensures _ c.in_err-offset.ensures

pub returns : goal.returns
returns c = numbers_took _ _ _ _ _ c.in_ok-index.ensures _ _ c.in_ok-error.ensures _ _ c.in_ok-watermark.ensures _ _ c.in_ok-offset.ensures
