-- The first three cells of a row, one after the other.
use Rattle.api_versions_response.proofs.Blamed.{item_past, key_here, maximum_here, minimum_here}
use Rattle.api_versions_response.proofs.naming_written.item.Goals as goal

pub returns-then-number_fault-e : goal.returns-then-number_fault-e
returns-then-number_fault-e c = key_here _ _ _ c.requires _ _ c.number_fault.ensures c.if-number_fault-e.true

pub returns-then-number_fault-e-2 : goal.returns-then-number_fault-e-2
returns-then-number_fault-e-2 c = minimum_here _ _ _ c.requires _ _ c.number_fault.ensures c.if-number_fault-e.false _ c.number_fault-2.ensures c.if-number_fault-e-2.true

pub returns-then-number_fault-e-3 : goal.returns-then-number_fault-e-3
returns-then-number_fault-e-3 c = maximum_here _ _ _ c.requires _ _ c.number_fault.ensures c.if-number_fault-e.false _ c.number_fault-2.ensures c.if-number_fault-e-2.false _ c.number_fault-3.ensures c.if-number_fault-e-3.true

pub returns : goal.returns
returns c = item_past _ _ _ c.requires _ _ c.number_fault.ensures c.if-number_fault-e.false _ c.number_fault-2.ensures c.if-number_fault-e-2.false _ c.number_fault-3.ensures c.if-number_fault-e-3.false
