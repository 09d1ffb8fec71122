-- A name after its length, or null.
use Rattle.frame.proofs.RequestWritten.{put_absent, put_null, put_there}
use Rattle.frame.proofs.writing.put_client.Goals as goal

pub returns-in-Absent : goal.returns-in-Absent
returns-in-Absent c = put_absent _ _ c.in-Absent.is c.null.ensures

pub returns-in-Null : goal.returns-in-Null
returns-in-Null c = put_null _ _ c.in-Null.is c.null-in-Null.ensures

pub returns-in-Present : goal.returns-in-Present
returns-in-Present c = put_there _ _ c.in-Present.is _ c.part-content.ensures c.sized.ensures
