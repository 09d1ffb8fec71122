-- The version first, then the size, then the bytes.
use mathlib.Core.Path.{◌∙◌}
use native.Mathlib.Omega.{arith}
use Rattle.layout.specs.Messages.Metadata as Meta
use Rattle.primitives.proofs.Up.{up}
use Rattle.body_reading.proofs.Admission.{metered_within, metered_without, within}
use Rattle.metadata_response.specs.Answers.{of_measure}
use Rattle.metadata_response.proofs.reading.measure.Goals as goal

pub returns-in_err-v : goal.returns-in_err-v
returns-in_err-v c = up of_measure _ _ c.from_residual.ensures ∙ metered_without Meta.response (omega arith) _ c.ranges.version _ _ c.admit.ensures _ c.in_err-v.was

pub walked-requires : goal.walked-requires
walked-requires c = within Meta.response (omega arith) _ c.ranges.version c.args.msg.now _ c.admit.ensures _ c.in_ok-v.was

pub returns : goal.returns
returns c = metered_within Meta.response (omega arith) _ c.ranges.version _ _ c.admit.ensures _ c.in_ok-v.was _ c.walked.ensures
