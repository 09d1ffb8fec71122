-- Tags and body go to the rest after the correlation number.
use Rattle.frame.proofs.ResponseWritten.{response_put}
use Rattle.frame.proofs.writing.put_response.Goals as goal

pub returns : goal.returns
returns c = response_put _ c.args.header _ _ c.requires.0 c.requires.1 _ c.lowest-a.ensures _ c.behind-p.ensures c.put_end-b.ensures _ c.add.ensures
