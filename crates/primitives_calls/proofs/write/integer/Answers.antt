use mathlib.Core.Path.{◌∙◌, sym}
use native.Mathlib.Omega.{arith}
use Rattle.layout.proofs.Back.{length_bytes_lem}
use Rattle.primitives_put.proofs.Answered.{answered, no_fault, too_wide}
use Rattle.primitives_calls.proofs.write.integer.Goals as goal

pub returns-then-fits : goal.returns-then-fits
returns-then-fits c = no_fault _ _ _ _ (sym c.fits.ensures ∙ c.if-fits.true) (answered _ _ _ _ c.answer.result (omega (arith, length_bytes_lem c.args.k c.args.c)) c.lowest.ensures c.answer.ensures)

pub returns : goal.returns
returns c = too_wide _ _ _ _ c.at.ensures (sym c.fits.ensures ∙ c.if-fits.false)
