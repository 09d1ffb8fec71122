-- 13 comes before 11.
use Rattle.body_writing.proofs.Faults.{unless_bad, unless_none}
use Rattle.api_versions_response.proofs.Fits.{fault_bad, is_told}
use native.Mathlib.Omega.{arith}
use Rattle.api_versions_response.proofs.judge.refusal.Goals as goal

pub returns-then-not-is_good : goal.returns-then-not-is_good
returns-then-not-is_good c = fault_bad _ _ _ c.is_good.ensures c.if-not-is_good.true

pub returns-then-not-is_carried : goal.returns-then-not-is_carried
returns-then-not-is_carried c = unless_bad _ _ _ (is_told c.args.throttle _ c.args.n c.args.items.now (λ k. omega (arith, c.type_inv.items k)) (omega arith) _ _ c.is_good.ensures c.if-not-is_good.false _ c.is_carried.ensures) c.if-not-is_carried.true

pub returns : goal.returns
returns c = unless_none _ 11 _ (is_told c.args.throttle _ c.args.n c.args.items.now (λ k. omega (arith, c.type_inv.items k)) (omega arith) _ _ c.is_good.ensures c.if-not-is_good.false _ c.is_carried.ensures) c.if-not-is_carried.false
