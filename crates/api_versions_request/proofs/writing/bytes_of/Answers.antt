-- An unset text is the empty part, and every other is the part that it names.
use Rattle.api_versions_request.proofs.Request.{bytes_absent, bytes_present}
use Rattle.api_versions_request.proofs.writing.bytes_of.Goals as goal

pub returns-in-None : goal.returns-in-None
returns-in-None c = bytes_absent _ c.in-None.is _ _ c.part.ensures

pub returns-in-Some : goal.returns-in-Some
returns-in-Some c = bytes_present _ c.in-Some.is _ _ c.part-in-Some.ensures
