-- Before each turn the first items stand there, and the two slices are what is left of the tables.
use lib.ListN.{length}
use Rattle.api_versions_response.proofs.ItemsWritten.{Going}
use Rattle.api_versions_response.proofs.writing.all_items.Given as goal

abbrev pub invariant-loop-left : goal.invariant-loop-left
invariant-loop-left l = Going l.lent l.flexible l.items l.tags l.initial.out l.done l.out l.left l.free

abbrev pub decreases-loop-left : goal.decreases-loop-left
decreases-loop-left l = length l.left
