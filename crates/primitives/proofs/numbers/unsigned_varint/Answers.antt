use mathlib.Core.Path.{◌∙◌, ◌≡◌, ap, sym}
use lib.ListN.{get_or}
use Prim.Native.Nat.{◌%◌, ℕ}
use native.Mathlib.Omega.{arith}
use Rattle.primitives.proofs.Varint.{again, below_10, ended, narrow, room, short, start, tenth_is}
use borrow.Author.Rules.{rules}
use Rattle.primitives.proofs.numbers.unsigned_varint.Goals as goal

pub loop-p-init : goal.loop-p-init
loop-p-init c = (search rules, start _)

pub returns-then-s-p : goal.returns-then-s-p
returns-then-s-p c = short _ _ _ _ _ _ c.bytes_end.ensures c.loop-p.invariant.1 c.if-s-p.true

pub overflow_mul-result : goal.overflow_mul-result
overflow_mul-result c = record { fits = (room _ _ _ _ _ (omega arith) c.loop-p.invariant.1 _ c.if-b-lt128.true).0 }

pub overflow_add-result : goal.overflow_add-result
overflow_add-result c = record { fits = (room _ _ _ _ _ (omega arith) c.loop-p.invariant.1 _ c.if-b-lt128.true).1 }

pub returns-then-b-lt128 : goal.returns-then-b-lt128
returns-then-b-lt128 c = ended _ _ _ _ _ c.wide-b.ensures.0 c.if-s-p.false _ (omega arith) c.loop-p.invariant.1 c.if-b-lt128.true

pub overflow_mul-value : goal.overflow_mul-value
overflow_mul-value c = record { fits = (room _ _ _ _ _ (omega arith) c.loop-p.invariant.1 (c.wide-b.result % 128) (omega arith)).0 }

pub overflow_add-value : goal.overflow_add-value
overflow_add-value c = record { fits = (room _ _ _ _ _ (omega arith) c.loop-p.invariant.1 (c.wide-b.result % 128) (omega arith)).1 }

pub overflow_mul-weight : goal.overflow_mul-weight
overflow_mul-weight c = let h = narrow _ _ _ _ _ (omega arith) c.loop-p.invariant.1 in omega arith

pub loop-p-preserved : goal.loop-p-preserved
loop-p-preserved c = (omega arith, again _ _ _ _ _ c.wide-b.ensures.0 c.if-s-p.false _ (omega arith) c.loop-p.invariant.1 c.if-b-lt128.false _ (omega arith))

pub returns-then-s-le9 : goal.returns-then-s-le9
returns-then-s-le9 c = short _ _ _ _ _ _ c.bytes_end-then-s-le9.ensures c.loop-p.invariant.1 (omega arith)

pub tenth-requires : goal.tenth-requires
tenth-requires c = below_10 _ _ _ _ _ (omega arith) c.loop-p.invariant.1

pub returns : goal.returns
returns c = let e : c.loop-p.p ≡ 9 = omega arith in c.tenth.ensures ∙ tenth_is _ _ _ _ _ (c.wide.ensures.0 ∙ ap (λ (k : ℕ). get_or c.args.s.now k 0) (sym e)) (omega arith) _ (omega arith) c.loop-p.invariant.1 e
