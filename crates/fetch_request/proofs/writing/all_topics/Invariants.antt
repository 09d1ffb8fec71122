-- Before each turn the first topics stand there, and `free` is what is left of the partitions.
use mathlib.Core.Path.{◌≡◌}
use Rattle.fetch_request.proofs.Walk.{topic_nest}
use Rattle.body_writing.proofs.Nested.{Going}
use Rattle.fetch_request.proofs.writing.all_topics.Given as goal

abbrev pub invariant-loop-row : goal.invariant-loop-row
invariant-loop-row l = Going topic_nest l.lent l.topics l.partitions l.initial.out l.done l.out l.row-iterator.rest.now l.free × (l.row-iterator.size ≡ 3)
