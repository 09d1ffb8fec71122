-- A version that is not known is refused, and at every other the promise is that of the walk.
use mathlib.Core.Path.{◌∙◌, ap}
use Rattle.std.specs.Bool.{then_some}
use Rattle.primitives.proofs.Versions.{passed, unwritten}
use Rattle.metadata_request.proofs.Request.{request_written}
use Rattle.metadata_request.proofs.writing.write.Goals as goal

pub returns-then-v-gt4 : goal.returns-then-v-gt4
returns-then-v-gt4 c = unwritten _ _ _ (passed _ c.ranges.version _ c.version_of-v.ensures) c.if-v-gt4.true _ _ _ _ c.at.ensures

pub returns : goal.returns
returns c = request_written c.args.lent.now _ c.args.topics.now _ _ c.if-v-gt4.false c.args.body.creation _ (passed _ c.ranges.version _ c.version_of-v.ensures) _ (c.then_some-flag.ensures ∙ ap (then_some _) c.unwrap_or-allowed.ensures) _ c.written.ensures
