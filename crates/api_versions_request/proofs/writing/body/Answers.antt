-- A version that lacks the fields writes nothing; else the tags go to the rest behind the texts.
use Rattle.primitives_put.proofs.Capped.{capped_lacking}
use Rattle.api_versions_request.proofs.Request.{request_put}
use Rattle.api_versions_request.proofs.writing.body.Goals as goal

pub returns-then-not-flexible : goal.returns-then-not-flexible
returns-then-not-flexible c = capped_lacking c.args.flexible c.if-not-flexible.true _ _

pub returns : goal.returns
returns c = request_put _ c.behind-p.ensures _ c.add.ensures c.args.flexible c.if-not-flexible.false c.texts-a.ensures c.tag_buffer-b.ensures
