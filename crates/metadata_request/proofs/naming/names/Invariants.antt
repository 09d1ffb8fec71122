-- Before each turn no name so far has the fault, and those left decide.
use mathlib.Core.Path.{◌≡◌}
use lib.ListN.{length}
use Rattle.body_writing.proofs.Blaming.{Searched}
use Rattle.metadata_request.specs.Shapes.{name_shape}
use Rattle.metadata_request.proofs.naming.names.Given as goal

abbrev pub invariant-loop-i : goal.invariant-loop-i
invariant-loop-i l = Searched l.lent l.e name_shape 2 1 l.topics l.initial.begun l.i l.begun × (length l.begun ≡ length l.initial.begun)
