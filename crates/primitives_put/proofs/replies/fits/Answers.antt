use Rattle.primitives_put.proofs.Carried.{within_high, within_low}
use Rattle.primitives_put.proofs.replies.fits.Goals as goal

pub returns-then-c-half : goal.returns-then-c-half
returns-then-c-half c = within_low _ _ c.if-c-half.true

pub returns : goal.returns
returns c = within_high _ _ c.if-c-half.false c.ranges.c.fits
