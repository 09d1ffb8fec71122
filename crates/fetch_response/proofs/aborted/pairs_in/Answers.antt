use Rattle.body_reading.specs.Walked.{filled_is}
use Rattle.fetch_response.proofs.Handed.{for_done, for_next, for_no, for_start, handed}
use Rattle.fetch_response.proofs.aborted.pairs_in.Goals as goal

pub loop-init : goal.loop-init
loop-init c = for_start _ _ _ _ _

pub returns-in_err-filled : goal.returns-in_err-filled
returns-in_err-filled c = handed (filled_is _) _ _ c.from_residual.ensures (for_no _ _ _ _ _ _ _ _ c.loop.invariant c.loop-test.true _ c.in_err-filled.ensures)

pub loop-preserved : goal.loop-preserved
loop-preserved c = for_next _ _ _ _ _ _ _ _ c.loop.invariant c.loop-test.true _ _ c.in_ok-filled.ensures

pub returns : goal.returns
returns c = for_done _ _ _ _ _ _ _ _ c.loop.invariant c.loop-test.false
