-- A version that is not known is refused, and at every other the promise is that of the walk.
use native.Mathlib.Omega.{arith}
use mathlib.Core.Path.{◌∙◌, ap}
use mir.Facts.{to_z-of_z}
use Rattle.primitives.specs.Answers.{version_of}
use Rattle.primitives.proofs.Versions.{unwritten}
use Rattle.body_reading.proofs.Alone.{given_is}
use Rattle.api_versions_response.proofs.Whole.{response_written}
use Rattle.api_versions_response.proofs.writing.write.Goals as goal

pub returns-then-v-gt3 : goal.returns-then-v-gt3
returns-then-v-gt3 c = unwritten _ _ _ (c.version_of-v.ensures ∙ ap version_of (to_z-of_z c.ranges.version)) c.if-v-gt3.true _ _ _ _ c.at.ensures

pub returns : goal.returns
returns c = response_written c.args.lent.now c.args.body.error c.args.body.items c.args.body.tags c.args.items.now c.args.tags.now _ (omega arith) (λ i. omega (arith, c.type_inv.items i)) (λ i. omega (arith, c.type_inv.tags i)) (omega arith) _ c.if-v-gt3.false c.args.body.throttle _ (c.version_of-v.ensures ∙ ap version_of (to_z-of_z c.ranges.version)) (c.unwrap_or-n.ensures ∙ given_is c.args.body.throttle 0) _ c.written.ensures
