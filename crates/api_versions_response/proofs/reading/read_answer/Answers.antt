-- The version that was sent is the version that is read.
use Rattle.layout.specs.Messages.ApiVersions as Api
use Rattle.primitives.proofs.Versions.{again_at}
use Rattle.api_versions_response.proofs.reading.read_answer.Goals as goal

pub returns : goal.returns
returns c = again_at Api.response _ c.ranges.sent _ _ _ c.read_whole.ensures
