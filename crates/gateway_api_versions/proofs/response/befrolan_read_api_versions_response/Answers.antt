-- The numbers of what the prefix or the whole read promises, at the version that was passed on.
use Rattle.layout.specs.Messages.ApiVersions as Api
use Rattle.gateway.proofs.Told.{is_whole, not_whole}
use Rattle.gateway_api_versions.specs.Replies.{response_numbers}
use Rattle.gateway_api_versions.proofs.response.befrolan_read_api_versions_response.Goals as goal

pub returns-then-whole-eq0 : goal.returns-then-whole-eq0
returns-then-whole-eq0 c = not_whole response_numbers _ _ c.reply.ensures Api.response _ c.ranges.version _ _ _ _ c.if-whole-eq0.true c.read.ensures

pub returns : goal.returns
returns c = is_whole response_numbers _ _ c.reply-2.ensures Api.response _ c.ranges.version _ _ _ _ c.if-whole-eq0.false c.read_answer.ensures
