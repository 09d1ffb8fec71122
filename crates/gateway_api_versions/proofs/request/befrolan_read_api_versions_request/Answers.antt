-- The numbers of what the read promises, at the version that was passed on.
use Rattle.layout.specs.Messages.ApiVersions as Api
use Rattle.gateway.proofs.Told.{prefix_told}
use Rattle.gateway_api_versions.specs.Replies.{request_numbers}
use Rattle.gateway_api_versions.proofs.request.befrolan_read_api_versions_request.Goals as goal

pub returns : goal.returns
returns c = prefix_told request_numbers _ _ c.reply.ensures Api.request _ c.ranges.version _ _ _ c.read.ensures
