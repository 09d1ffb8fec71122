-- A version that lacks the field writes nothing.
use Rattle.fetch_request.proofs.Walk.{number_lacking, number_there}
use Rattle.fetch_request.proofs.writing.number_if.Goals as goal

pub returns-in-Some : goal.returns-in-Some
returns-in-Some c = number_there _ _ c.in-Some.is c.lowest.ensures

pub returns-in-None : goal.returns-in-None
returns-in-None c = number_lacking _ _ c.in-None.is _
