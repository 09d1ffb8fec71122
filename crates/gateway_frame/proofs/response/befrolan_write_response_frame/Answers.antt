-- The numbers of what the write promises, at the header number that was passed on and for the row that was lent.
use Rattle.layout.specs.Messages.Headers as Headers
use Rattle.gateway.specs.Replies.{numbers}
use Rattle.gateway_frame.proofs.Rows.{frame_written_told}
use Rattle.gateway_frame.proofs.response.befrolan_write_response_frame.Goals as goal

pub returns : goal.returns
returns c = frame_written_told numbers _ _ c.written.ensures Headers.response _ c.ranges.header _ _ _ _ _ _ _ c.header_of.ensures c.write_response.ensures
