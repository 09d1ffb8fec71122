-- 13 comes before the correlation number.
use mathlib.Core.Path.{◌∙◌}
use native.Mathlib.Omega.{arith}
use Rattle.layout.specs.Primitives.{w32}
use Rattle.body_writing.proofs.Faults.{unless_bad, unless_none}
use Rattle.frame.proofs.ResponseWritten.{response_bad, response_told}
use Rattle.primitives_put.proofs.Carried.{is_held}
use Rattle.frame.proofs.writing.response_refusal.Goals as goal

pub returns-then-not-is_good : goal.returns-then-not-is_good
returns-then-not-is_good c = response_bad _ _ _ _ _ c.is_good.ensures c.if-not-is_good.true

pub returns-then-not-fits : goal.returns-then-not-fits
returns-then-not-fits c = unless_bad _ _ _ (response_told _ _ _ _ _ c.is_good.ensures c.if-not-is_good.false c.requires (omega arith) (λ i. omega (arith, c.type_inv.tags i)) (omega arith) _ (c.fits.ensures ∙ is_held w32 _)) c.if-not-fits.true

pub returns : goal.returns
returns c = unless_none _ 11 _ (response_told _ _ _ _ _ c.is_good.ensures c.if-not-is_good.false c.requires (omega arith) (λ i. omega (arith, c.type_inv.tags i)) (omega arith) _ (c.fits.ensures ∙ is_held w32 _)) c.if-not-fits.false
