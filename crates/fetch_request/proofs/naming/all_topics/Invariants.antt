-- Before each turn no topic so far has the fault, and `free` is what is left of the partitions.
use mathlib.Core.Path.{◌≡◌}
use lib.ListN.{length}
use Rattle.body_writing.proofs.BlamingRows.{Searching}
use Rattle.fetch_request.proofs.Walk.{topic_nest}
use Rattle.fetch_request.proofs.naming.all_topics.Given as goal

abbrev pub invariant-loop-asked : goal.invariant-loop-asked
invariant-loop-asked l = Searching topic_nest l.lent l.e l.topics l.partitions l.initial.begun l.asked-iterator.rest.now l.free l.begun × (l.asked-iterator.size ≡ 3) × (length l.begun ≡ length l.initial.begun)
