use Rattle.fetch_response.specs.TopicWalks.{partitions_is}
use Rattle.fetch_response.proofs.Handed.{for_done, for_next, for_no, for_start, handed}
use Rattle.fetch_response.proofs.partitions.partitions_in.Goals as goal

pub loop-init : goal.loop-init
loop-init c = for_start _ _ _ _ _

pub returns-in_err-filled : goal.returns-in_err-filled
returns-in_err-filled c = handed (partitions_is _ _) _ _ c.from_residual.ensures (for_no _ _ _ _ _ _ _ _ c.loop.invariant c.loop-test.true _ c.in_err-filled.ensures)

pub loop-preserved : goal.loop-preserved
loop-preserved c = for_next _ _ _ _ _ _ _ _ c.loop.invariant c.loop-test.true _ _ c.in_ok-filled.ensures

pub returns : goal.returns
returns c = for_done _ _ _ _ _ _ _ _ c.loop.invariant c.loop-test.false
