-- 13 comes before the numbers, and these before the client name.
use native.Mathlib.Omega.{arith}
use Rattle.frame.proofs.RequestWritten.{request_bad, request_told, request_wide}
use Rattle.frame.proofs.writing.request_refusal.Goals as goal

pub returns-then-not-is_request_good : goal.returns-then-not-is_request_good
returns-then-not-is_request_good c = request_bad c.args.header c.args.tags.now _ _ _ c.is_request_good.ensures c.if-not-is_request_good.true

pub returns-then-not-numbers_fit : goal.returns-then-not-numbers_fit
returns-then-not-numbers_fit c = request_wide c.args.header c.args.tags.now _ _ _ c.is_request_good.ensures c.if-not-is_request_good.false c.requires.0 c.requires.1 (omega arith) (λ i. omega (arith, c.type_inv.tags i)) (omega arith) _ c.numbers_fit.ensures c.if-not-numbers_fit.true

pub returns : goal.returns
returns c = request_told c.args.header c.args.tags.now _ _ _ c.is_request_good.ensures c.if-not-is_request_good.false c.requires.0 c.requires.1 (omega arith) (λ i. omega (arith, c.type_inv.tags i)) (omega arith) _ c.numbers_fit.ensures c.if-not-numbers_fit.false _ c.client_fault.ensures
