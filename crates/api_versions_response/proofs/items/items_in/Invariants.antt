-- What is left to read from here is what was asked at the start.
use mathlib.Core.Path.{◌≡◌}
use Prim.Native.Nat.{◌-◌}
use lib.ListN.{length}
use Rattle.body_reading.specs.Walk.{walk}
use Rattle.body_reading.proofs.Chains.{Going}
use Rattle.api_versions_response.specs.ItemShapes.{key_shape}
use Rattle.api_versions_response.specs.ItemWalks.{in_tables}
use Rattle.api_versions_response.proofs.items.items_in.Given as goal

abbrev pub invariant-loop-done : goal.invariant-loop-done
invariant-loop-done l = Going (λ e. walk e.0 (key_shape l.flexible) 1) l.s l.count l.p (in_tables l.initial.items 0 l.initial.tags 0) (l.count - l._done) l.rows.next (in_tables l.items l.rows.items l.tags l.rows.tags) × ((length l.items ≡ length l.initial.items) × (length l.tags ≡ length l.initial.tags))
