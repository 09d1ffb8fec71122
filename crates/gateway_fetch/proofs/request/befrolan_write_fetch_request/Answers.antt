-- The numbers of what the write promises, at the version that was passed on and for the row that was lent.
use Rattle.layout.specs.Messages.Fetch as Fetch
use Rattle.gateway.proofs.Told.{write_told}
use Rattle.gateway.specs.Replies.{numbers}
use Rattle.gateway_fetch.proofs.request.befrolan_write_fetch_request.Goals as goal

pub returns : goal.returns
returns c = write_told numbers _ _ c.written.ensures Fetch.request _ c.ranges.version _ _ _ _ _ _ c.body_of.ensures c.write.ensures
