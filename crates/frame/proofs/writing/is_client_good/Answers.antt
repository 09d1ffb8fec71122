-- Only a name that is there has a range.
use Rattle.frame.proofs.RequestWritten.{good_none, good_there}
use Rattle.frame.proofs.writing.is_client_good.Goals as goal

pub returns-in-Absent : goal.returns-in-Absent
returns-in-Absent c = good_none _ c.in-Absent.is _

pub returns-in-Present : goal.returns-in-Present
returns-in-Present c = good_there _ c.in-Present.is _ _ c.is_inside.ensures
