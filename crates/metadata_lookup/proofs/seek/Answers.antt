use Rattle.metadata_response.specs.Brokers.{of_broker}
use Rattle.metadata_lookup.proofs.Bodies.{left_all, left_here, left_no, left_none, left_past}
use Rattle.metadata_lookup.proofs.seek.Goals as goal

pub loop-init : goal.loop-init
loop-init c = left_all _ _ _ _ _

pub returns-in_err-broker : goal.returns-in_err-broker
returns-in_err-broker c = left_no _ _ _ _ _ _ _ c.loop.invariant c.loop-test.true _ c.in_err-broker.ensures _

pub returns-then-row-node : goal.returns-then-row-node
returns-then-row-node c = left_here _ _ _ _ _ _ _ c.loop.invariant c.loop-test.true (of_broker c.in_ok-broker.broker.value) _ c.in_ok-broker.ensures c.if-row-node.true

pub loop-preserved : goal.loop-preserved
loop-preserved c = left_past _ _ _ _ _ _ _ c.loop.invariant c.loop-test.true (of_broker c.in_ok-broker.broker.value) _ c.in_ok-broker.ensures c.if-row-node.false

pub returns : goal.returns
returns c = left_none _ _ _ _ _ _ _ c.loop.invariant c.loop-test.false
