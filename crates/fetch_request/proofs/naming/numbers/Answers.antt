-- Number after number, and then those that a version may lack.
use Rattle.fetch_request.proofs.Blamed.{in_least, in_replica, in_wait, past_least}
use Rattle.fetch_request.proofs.naming.numbers.Goals as goal

pub returns-then-number_fault-e : goal.returns-then-number_fault-e
returns-then-number_fault-e c = in_replica _ _ _ _ _ _ _ _ _ c.number_fault.ensures c.if-number_fault-e.true

pub returns-then-number_fault-e-2 : goal.returns-then-number_fault-e-2
returns-then-number_fault-e-2 c = in_wait _ _ _ _ _ _ _ _ _ c.number_fault.ensures c.if-number_fault-e.false _ c.number_fault-2.ensures c.if-number_fault-e-2.true

pub returns-then-number_fault-e-3 : goal.returns-then-number_fault-e-3
returns-then-number_fault-e-3 c = in_least _ _ _ _ _ _ _ _ _ c.number_fault.ensures c.if-number_fault-e.false _ c.number_fault-2.ensures c.if-number_fault-e-2.false _ c.number_fault-3.ensures c.if-number_fault-e-3.true

pub returns : goal.returns
returns c = past_least _ _ _ _ _ _ _ _ _ c.number_fault.ensures c.if-number_fault-e.false _ c.number_fault-2.ensures c.if-number_fault-e-2.false _ c.number_fault-3.ensures c.if-number_fault-e-3.false _ c.limits.ensures
