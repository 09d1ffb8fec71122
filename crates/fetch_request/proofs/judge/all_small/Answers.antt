use native.Mathlib.Omega.{arith}
use Rattle.body_writing.proofs.Judged.{judged_start, pair_more}
use Rattle.fetch_request.proofs.Judgement.{small_end, small_last, sure}
use Rattle.fetch_request.proofs.judge.all_small.Goals as goal

pub loop-turn-init : goal.loop-turn-init
loop-turn-init c = judged_start _ _ _

pub loop-turn-preserved : goal.loop-turn-preserved
loop-turn-preserved c = pair_more c.loop-turn.invariant (sure c.is_small-a.ensures c.if-not-a.false) c.loop-turn-test.true c.if-not-a.false
    (sure c.is_small-b.ensures c.if-not-b.false) c.if-not-b.false

pub returns-then-last-n : goal.returns-then-last-n
returns-then-last-n c = small_last _ (omega arith) c.loop-turn.invariant _ c.is_small.ensures c.if-last-n.true

pub returns : goal.returns
returns c = small_end _ (omega arith) c.loop-turn.invariant c.if-last-n.false
