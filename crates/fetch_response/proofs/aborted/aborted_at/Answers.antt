-- The walk over the items is the loop of `pairs_in`, with the row and the table in their places. Where the version lacks the array, its count is 0.
use Rattle.body_reading.specs.Walked.{beside_is}
use Rattle.fetch_response.proofs.AbortedCounts.{aborted_lacks, aborted_no, aborted_took, count_no}
use Rattle.fetch_response.proofs.Handed.{handed}
use Rattle.fetch_response.proofs.aborted.aborted_at.Goals as goal

pub returns-then-not-stable : goal.returns-then-not-stable
returns-then-not-stable c = aborted_lacks _ _ _ _ _ c.if-not-stable.true

pub returns-in_err-items : goal.returns-in_err-items
returns-in_err-items c = handed (beside_is _) _ _ c.from_residual.ensures (count_no _ _ _ _ _ c.if-not-stable.false _ c.in_err-items.ensures)

pub returns-in_err-filled : goal.returns-in_err-filled
returns-in_err-filled c = handed (beside_is _) _ _ c.from_residual-in_err-filled.ensures (aborted_no _ _ _ _ _ c.if-not-stable.false _ _ c.in_ok-items.ensures _ c.in_err-filled.ensures)

pub returns : goal.returns
returns c = aborted_took _ _ _ _ _ c.if-not-stable.false _ _ c.in_ok-items.ensures _ _ c.in_ok-filled.ensures
