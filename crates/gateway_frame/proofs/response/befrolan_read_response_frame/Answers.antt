-- The numbers of what the read promises, at the header number that was passed on.
use Rattle.layout.specs.Messages.Headers as Headers
use Rattle.gateway_frame.specs.Replies.{response_frame_numbers}
use Rattle.gateway_frame.proofs.Rows.{frame_told}
use Rattle.gateway_frame.proofs.response.befrolan_read_response_frame.Goals as goal

pub returns : goal.returns
returns c = frame_told response_frame_numbers _ _ c.reply.ensures Headers.response _ c.ranges.header _ _ _ c.read_response.ensures
