use mathlib.Core.Path.{◌∙◌, ◌≡◌}
use Prim.Native.Nat.{◌/◌}
use native.Mathlib.Omega.{arith}
use lib.ListN.{length}
use Rattle.body_writing.proofs.Faults.{rows_clean}
use Rattle.body_writing.proofs.Judged.{judged_end, judged_start, odd_last, pair_first, pair_more, pair_second}
use Rattle.api_versions_response.proofs.judge.all_fit.Goals as goal

pub loop-turn-init : goal.loop-turn-init
loop-turn-init c = judged_start _ _ _

pub returns-then-not-a : goal.returns-then-not-a
returns-then-not-a c = pair_first c.loop-turn.invariant c.fits_at-a.ensures c.loop-turn-test.true c.if-not-a.true ∙ rows_clean _ _ _ _

pub returns-then-not-b : goal.returns-then-not-b
returns-then-not-b c = pair_second c.loop-turn.invariant c.fits_at-a.ensures c.loop-turn-test.true c.if-not-a.false c.fits_at-b.ensures c.if-not-b.true ∙ rows_clean _ _ _ _

pub loop-turn-preserved : goal.loop-turn-preserved
loop-turn-preserved c = pair_more c.loop-turn.invariant c.fits_at-a.ensures c.loop-turn-test.true c.if-not-a.false c.fits_at-b.ensures c.if-not-b.false

pub returns-then-last-n : goal.returns-then-last-n
returns-then-last-n c =
    let all : c.loop-turn.turn ≡ length c.args.items.now / 4 / 2 = omega arith in
    odd_last (rw all at c.loop-turn.invariant) c.fits_at.ensures (omega arith) c.if-last-n.true ∙ rows_clean _ _ _ _

pub returns : goal.returns
returns c = judged_end _ _ _ _ c.loop-turn.invariant (omega arith) ∙ rows_clean _ _ _ _
