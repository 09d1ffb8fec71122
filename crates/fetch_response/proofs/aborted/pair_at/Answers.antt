-- Two numbers, one after the other, and one store of both.
use Rattle.body_reading.specs.Walked.{filled_is}
use Rattle.fetch_response.proofs.AbortedRows.{offset_no, pair_took, producer_no}
use Rattle.fetch_response.proofs.Handed.{handed}
use Rattle.fetch_response.proofs.aborted.pair_at.Goals as goal

pub returns-in_err-producer : goal.returns-in_err-producer
returns-in_err-producer c = handed (filled_is _) _ _ c.from_residual.ensures (producer_no _ _ _ _ _ c.in_err-producer.ensures)

pub returns-in_err-offset : goal.returns-in_err-offset
returns-in_err-offset c = handed (filled_is _) _ _ c.from_residual-in_err-offset.ensures (offset_no _ _ _ _ _ _ c.in_ok-producer.ensures _ c.in_err-offset.ensures)

pub returns : goal.returns
returns c = pair_took _ _ _ _ _ _ c.in_ok-producer.ensures _ _ c.in_ok-offset.ensures _ _ c.store_row.ensures
