-- A number that no request header has is refused, and what is refused of the header comes before the measure.
use native.Mathlib.Omega.{arith}
use Rattle.layout.specs.Messages.Headers.{request}
use Rattle.primitives.proofs.Versions.{passed}
use Rattle.frame.proofs.Written.{number_above, number_below, number_known, number_refused}
use Rattle.frame.proofs.writing.write_request.Goals as goal

pub returns-then-h-lt1 : goal.returns-then-h-lt1
returns-then-h-lt1 c = number_below request _ _ (passed _ c.ranges.number _ c.version_of-h.ensures) _ _ _ _ _ c.at.ensures c.if-h-lt1.true

pub returns-then-h-gt2 : goal.returns-then-h-gt2
returns-then-h-gt2 c = number_above request _ _ (passed _ c.ranges.number _ c.version_of-h.ensures) _ _ _ _ _ c.at-then-h-gt2.ensures c.if-h-gt2.true

pub returns-then-e-ne0 : goal.returns-then-e-ne0
returns-then-e-ne0 c = number_refused request _ _ _ _ _ c.if-h-lt1.false c.if-h-gt2.false _ (passed _ c.ranges.number _ c.version_of-h.ensures) (omega arith) _ c.request_refusal-e.ensures c.if-e-ne0.true _ c.at-then-e-ne0.ensures

pub returns : goal.returns
returns c = number_known request _ _ _ _ _ c.if-h-lt1.false c.if-h-gt2.false _ (passed _ c.ranges.number _ c.version_of-h.ensures) (omega arith) _ c.store_request.ensures
