-- 13 comes before 7.
use native.Mathlib.Omega.{arith}
use Rattle.body_writing.proofs.Faults.{unless_bad, unless_none}
use Rattle.api_versions_request.proofs.Request.{fault_bad, is_told}
use Rattle.api_versions_request.proofs.writing.refusal.Goals as goal

pub returns-then-not-is_good : goal.returns-then-not-is_good
returns-then-not-is_good c = fault_bad c.args.lent.now c.args.name c.args.version c.args.own c.args.tags.now (omega arith) (λ i. omega (arith, c.type_inv.tags i)) (omega arith) c.args.flexible _ c.is_good.ensures c.if-not-is_good.true

pub returns-then-not-are_texts : goal.returns-then-not-are_texts
returns-then-not-are_texts c = unless_bad _ _ _ (is_told c.args.lent.now c.args.name c.args.version c.args.own c.args.tags.now (omega arith) (λ i. omega (arith, c.type_inv.tags i)) (omega arith) c.args.flexible _ c.is_good.ensures c.if-not-is_good.false c.bytes_of.ensures c.bytes_of-2.ensures _ c.are_texts.ensures) c.if-not-are_texts.true

pub returns : goal.returns
returns c = unless_none _ 7 _ (is_told c.args.lent.now c.args.name c.args.version c.args.own c.args.tags.now (omega arith) (λ i. omega (arith, c.type_inv.tags i)) (omega arith) c.args.flexible _ c.is_good.ensures c.if-not-is_good.false c.bytes_of.ensures c.bytes_of-2.ensures _ c.are_texts.ensures) c.if-not-are_texts.false
