-- The numbers of what the read promises, at the version that was passed on.
use Rattle.layout.specs.Messages.Metadata as Meta
use Rattle.gateway.proofs.Told.{prefix_told}
use Rattle.gateway_metadata.specs.Replies.{metadata_numbers}
use Rattle.gateway_metadata.proofs.response.befrolan_read_metadata_response.Goals as goal

pub returns : goal.returns
returns c = prefix_told metadata_numbers _ _ c.reply.ensures Meta.response _ c.ranges.version _ _ _ c.read.ensures
