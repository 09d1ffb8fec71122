-- The topic's partitions go to the rest behind its name, where there is room for both.
use Rattle.body_writing.proofs.Even.{front_none}
use Rattle.fetch_request.proofs.Walk.{topic_put, topic_wide}
use lib.Seq.{length-take-le}
use mathlib.Core.Path.{sym}
use native.Mathlib.Omega.{arith}
use Rattle.fetch_request.proofs.writing.topic.Goals as goal

pub slice_bounds-counted-end-then-all-out : goal.slice_bounds-counted-end-then-all-out
slice_bounds-counted-end-then-all-out c = sym (length-take-le _ _ (omega (arith, c.cells-k.ensures, c.requires.1)))

pub returns-then-all-out : goal.returns-then-all-out
returns-then-all-out c = topic_put _ _ _ _ _ c.cells-k.ensures c.part-name.ensures (omega (arith, c.cells-k.ensures, c.requires.1)) c.if-all-out.true c.sized.ensures c.counted.ensures

pub returns-else-all-out : goal.returns-else-all-out
returns-else-all-out c = front_none (topic_wide _ _ _ _ _ c.cells-k.ensures c.part-name.ensures (omega (arith, c.cells-k.ensures, c.requires.1))) c.if-all-out.false
