-- A version that is not known is refused, and at every other the promise is that of the walk.
use mathlib.Core.Path.{◌∙◌, ap}
use mir.Facts.{to_z-of_z}
use Rattle.primitives.specs.Answers.{version_of}
use Rattle.api_versions_request.proofs.Request.{request_written}
use Rattle.primitives.proofs.Versions.{unwritten}
use Rattle.api_versions_request.proofs.writing.write.Goals as goal

pub returns-then-v-gt3 : goal.returns-then-v-gt3
returns-then-v-gt3 c = unwritten _ _ _ (c.version_of-v.ensures ∙ ap version_of (to_z-of_z c.ranges.version)) c.if-v-gt3.true _ _ _ _ c.at.ensures

pub returns : goal.returns
returns c = request_written c.args.lent.now c.args.body.name c.args.body.version c.args.body.tags c.args.tags.now _ _ c.if-v-gt3.false _ (c.version_of-v.ensures ∙ ap version_of (to_z-of_z c.ranges.version)) _ c.written.ensures
