-- A whole read.
use Rattle.layout.specs.Messages.ApiVersions as Api
use Rattle.primitives.proofs.Versions.{whole_at}
use Rattle.api_versions_response.proofs.reading.read_whole.Goals as goal

pub returns : goal.returns
returns c = whole_at Api.response _ c.ranges.version _ _ _ c.answered.ensures
