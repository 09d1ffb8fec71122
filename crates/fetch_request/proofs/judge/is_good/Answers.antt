-- The counts are judged before the ranges; each way out settles the definition's test.
use native.Mathlib.Omega.{arith}
use Rattle.fetch_request.proofs.Judgement.{good_last, good_other, good_untold}
use Rattle.fetch_request.proofs.judge.is_good.Goals as goal

pub returns-then-count-topics : goal.returns-then-count-topics
returns-then-count-topics c = good_other _ _ _ _ c.if-count-topics.true

pub returns-then-not-do_topics_tell : goal.returns-then-not-do_topics_tell
returns-then-not-do_topics_tell c = good_untold _ _ _ _ c.if-count-topics.false (omega arith) _ c.do_topics_tell.ensures c.if-not-do_topics_tell.true

pub returns : goal.returns
returns c = good_last _ _ _ _ c.if-count-topics.false (omega arith) _ c.do_topics_tell.ensures c.if-not-do_topics_tell.false _ c.all_ranged.ensures
