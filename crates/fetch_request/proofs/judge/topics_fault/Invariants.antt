-- Before each turn no topic so far has a fault, and `free` is what is left of the partitions.
use mathlib.Core.Path.{◌≡◌}
use Rattle.fetch_request.proofs.Walk.{topic_nest}
use Rattle.body_writing.proofs.Nested.{Clearing}
use Rattle.fetch_request.proofs.judge.topics_fault.Given as goal

abbrev pub invariant-loop-row : goal.invariant-loop-row
invariant-loop-row l = Clearing topic_nest l.lent l.topics l.partitions l.row-iterator.rest.now l.free × (l.row-iterator.size ≡ 3)
