-- A version that lacks the field writes nothing.
use Rattle.metadata_request.proofs.Request.{creation_lacking, creation_there}
use Rattle.metadata_request.proofs.writing.creation.Goals as goal

pub returns-in-Some : goal.returns-in-Some
returns-in-Some c = creation_there _ c.in-Some.is c.boolean.ensures

pub returns-in-None : goal.returns-in-None
returns-in-None c = creation_lacking _ c.in-None.is _
