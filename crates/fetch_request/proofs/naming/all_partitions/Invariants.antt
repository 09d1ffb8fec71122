-- Before each turn no partition so far has the fault, and those left decide.
use mathlib.Core.List.{[]}
use mathlib.Core.Path.{◌≡◌}
use lib.ListN.{length}
use Rattle.body_writing.proofs.Blaming.{Searched}
use Rattle.fetch_request.specs.Shapes.{partition_shape}
use Rattle.fetch_request.proofs.naming.all_partitions.Given as goal

abbrev pub invariant-loop-i : goal.invariant-loop-i
invariant-loop-i l = Searched [] l.e partition_shape 3 2 l.table l.initial.begun l.i l.begun × (length l.begun ≡ length l.initial.begun)
