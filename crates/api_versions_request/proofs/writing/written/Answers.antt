-- A number refuses; and else what is answered is that of the bytes.
use Rattle.primitives_put.proofs.Answered.{answered_alone, refused_alone}
use Rattle.api_versions_request.proofs.Request.{texts_same}
use Rattle.api_versions_request.proofs.writing.written.Goals as goal

pub returns-then-e-ne0 : goal.returns-then-e-ne0
returns-then-e-ne0 c = refused_alone _ _ _ _ c.at.ensures c.if-e-ne0.true c.refusal-e.ensures

pub returns : goal.returns
returns c = answered_alone _ _ _ c.refusal-e.ensures c.if-e-ne0.false (texts_same _ c.args.name c.args.version c.args.own c.args.tags.now c.args.flexible _ c.refusal-e.ensures c.if-e-ne0.false c.bytes_of.ensures c.bytes_of-2.ensures _ c.stored.ensures)
