-- A version that lacks tags writes nothing.
use Rattle.primitives_put.proofs.Capped.{capped_lacking, capped_there}
use Rattle.api_versions_response.proofs.writing.tags_part.Goals as goal

pub returns-then-flexible : goal.returns-then-flexible
returns-then-flexible c = capped_there _ c.if-flexible.true c.tag_buffer.ensures

pub returns : goal.returns
returns c = capped_lacking _ c.if-flexible.false _ _
