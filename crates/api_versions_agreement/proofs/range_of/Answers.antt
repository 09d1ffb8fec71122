use Rattle.api_versions_agreement.proofs.FirstRow.{searched_next, range_found, range_none}
use Rattle.api_versions_agreement.proofs.range_of.Goals as goal

pub returns-then-row-key : goal.returns-then-row-key
returns-then-row-key c = range_found _ _ _ c.as_chunks.ensures.front _ c.loop-row.invariant c.loop-row-test.true c.if-row-key.true

pub loop-row-preserved : goal.loop-row-preserved
loop-row-preserved c = searched_next _ _ _ c.loop-row.invariant c.loop-row-test.true c.if-row-key.false

pub returns : goal.returns
returns c = range_none _ _ _ c.as_chunks.ensures.front _ c.loop-row.invariant c.loop-row-test.false
