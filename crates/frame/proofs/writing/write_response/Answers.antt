-- A number that no response header has is refused, and what is refused of the header comes before the measure.
use native.Mathlib.Omega.{arith}
use Rattle.layout.specs.Messages.Headers.{response}
use Rattle.primitives.proofs.Versions.{passed}
use Rattle.frame.proofs.Written.{number_above, number_known, number_refused}
use Rattle.frame.proofs.writing.write_response.Goals as goal

pub returns-then-h-gt1 : goal.returns-then-h-gt1
returns-then-h-gt1 c = number_above response _ _ (passed _ c.ranges.number _ c.version_of-h.ensures) _ _ _ _ _ c.at.ensures c.if-h-gt1.true

pub returns-then-e-ne0 : goal.returns-then-e-ne0
returns-then-e-ne0 c = number_refused response _ _ _ _ _ (omega arith) c.if-h-gt1.false _ (passed _ c.ranges.number _ c.version_of-h.ensures) (omega arith) _ c.response_refusal-e.ensures c.if-e-ne0.true _ c.at-then-e-ne0.ensures

pub returns : goal.returns
returns c = number_known response _ _ _ _ _ (omega arith) c.if-h-gt1.false _ (passed _ c.ranges.number _ c.version_of-h.ensures) (omega arith) _ c.store_response.ensures
