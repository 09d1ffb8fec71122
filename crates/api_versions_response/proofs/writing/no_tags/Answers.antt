-- A version that lacks tags writes nothing.
use Rattle.primitives_put.proofs.Capped.{capped_lacking}
use Rattle.api_versions_response.proofs.Untagged.{none_there}
use Rattle.api_versions_response.proofs.writing.no_tags.Goals as goal

pub returns-then-flexible : goal.returns-then-flexible
returns-then-flexible c = none_there _ c.if-flexible.true c.lowest.ensures

pub returns : goal.returns
returns c = capped_lacking _ c.if-flexible.false _ _
