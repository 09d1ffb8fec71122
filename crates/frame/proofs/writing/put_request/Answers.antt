-- Tags and body go to the rest after the fields.
use Rattle.frame.proofs.RequestWritten.{request_put}
use Rattle.frame.proofs.writing.put_request.Goals as goal

pub returns : goal.returns
returns c = request_put c.args.header _ _ _ c.requires.0 c.requires.1 c.requires.2 _ c.put_fields-a.ensures _ c.behind-p.ensures c.put_end-b.ensures _ c.add.ensures
