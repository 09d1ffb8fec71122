-- An unset text has no range.
use Rattle.api_versions_request.proofs.Request.{ranged_absent, ranged_present}
use Rattle.api_versions_request.proofs.writing.is_ranged.Goals as goal

pub returns-in-None : goal.returns-in-None
returns-in-None c = ranged_absent _ c.in-None.is _

pub returns-in-Some : goal.returns-in-Some
returns-in-Some c = ranged_present _ c.in-Some.is _ _ c.is_inside.ensures
