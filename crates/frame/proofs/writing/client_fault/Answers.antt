-- Only a name that is there has a fault.
use Rattle.frame.proofs.RequestWritten.{fault_none, fault_there}
use Rattle.frame.proofs.writing.client_fault.Goals as goal

pub returns-in-Absent : goal.returns-in-Absent
returns-in-Absent c = fault_none _ _ c.in-Absent.is

pub returns-in-Present : goal.returns-in-Present
returns-in-Present c = fault_there _ _ c.in-Present.is _ c.part.ensures _ c.string_fault.ensures
