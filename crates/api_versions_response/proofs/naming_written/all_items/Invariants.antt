-- Before each turn no item so far has the fault, and those left decide.
use mathlib.Core.List.{[]}
use mathlib.Core.Path.{◌≡◌}
use lib.ListN.{length}
use Rattle.body_writing.proofs.Blaming.{Searched}
use Rattle.api_versions_response.specs.ItemShapes.{key_front}
use Rattle.api_versions_response.proofs.naming_written.all_items.Given as goal

abbrev pub invariant-loop-i : goal.invariant-loop-i
invariant-loop-i l = Searched [] l.e key_front 4 1 l.items l.initial.begun l.i l.begun × (length l.begun ≡ length l.initial.begun)
