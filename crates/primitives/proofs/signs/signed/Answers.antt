-- The cell's bits as those of a signed number.
use mathlib.Core.Path.{◌∙◌, sym}
use Rattle.layout.specs.Primitives as Kafka
use Rattle.layout.proofs.Cells.{signed_is}
use Rattle.primitives.proofs.Signed.{back}
use Rattle.primitives.proofs.signs.signed.Goals as goal

pub returns : goal.returns
returns c = back _ _ c.ranges.c.fits (c.cast_signed.ensures ∙ sym (signed_is Kafka.w64 c.args.c))
