-- A prefix read is a read that is not whole.
use Rattle.layout.specs.Messages.ApiVersions as Api
use Rattle.primitives.proofs.Versions.{prefix_at}
use Rattle.api_versions_response.proofs.reading.read.Goals as goal

pub returns : goal.returns
returns c = prefix_at Api.response _ c.ranges.version _ _ _ c.answered.ensures
