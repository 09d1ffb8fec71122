-- The numbers of what the read promises, at the version that was passed on.
use Rattle.layout.specs.Messages.Fetch as Fetch
use Rattle.gateway.proofs.Told.{prefix_told}
use Rattle.gateway_fetch.specs.Replies.{fetch_numbers}
use Rattle.gateway_fetch.proofs.response.befrolan_read_fetch_response.Goals as goal

pub returns : goal.returns
returns c = prefix_told fetch_numbers _ _ c.reply.ensures Fetch.response _ c.ranges.version _ _ _ c.read.ensures
