-- Each byte counts 256 times the one after it; eight of them fit.
use Rattle.std.proofs.Common.{◌≡◌, arith, ap, ◌∙◌, ℕ, refl, take, zero}
use Rattle.layout.specs.Primitives.{be}
use Rattle.primitives.proofs.Cells.{be_next, int_is, int_short, room_for_byte}
use Rattle.primitives.proofs.numbers.uint.Goals as goal

pub returns-then-s : goal.returns-then-s
returns-then-s g c = int_short _ _ _ c.at.ensures (omega arith)

pub loop-i-init : goal.loop-i-init
loop-i-init g c = (refl, omega arith)

pub overflow_mul-value : goal.overflow_mul-value
overflow_mul-value g c = record { fits = (room_for_byte c.loop-i.i c.loop-i.value zero (omega arith) c.loop-i.invariant.1 (omega arith)).0 }

pub overflow_add-value : goal.overflow_add-value
overflow_add-value g c = record { fits = (room_for_byte c.loop-i.i c.loop-i.value _ (omega arith) c.loop-i.invariant.1 c.wide.ensures.1).1.0 }

pub loop-i-preserved : goal.loop-i-preserved
loop-i-preserved g c = (be_next c.args.s.now c.loop-i.i _ (omega arith) c.loop-i.invariant.0 _ c.wide.ensures.0, (room_for_byte c.loop-i.i c.loop-i.value _ (omega arith) c.loop-i.invariant.1 c.wide.ensures.1).1.1)

pub returns : goal.returns
returns g c = let e : c.loop-i.i ≡ g.row.N = omega arith in
    int_is _ _ _ (omega arith) (c.loop-i.invariant.0 ∙ ap (λ (k : ℕ). be 0 (take k c.args.s.now)) e)
