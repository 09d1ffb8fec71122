-- An item that a walk to a field passes over at once. Assumes nothing.
use Rattle.std.specs.Prelude.{Bool, true, List, ◌≡◌, ◌+◌, ◌≤◌, ℕ, length}
use Rattle.layout.specs.Reading.{ok}
use Rattle.layout.specs.Names.{seek}
use Rattle.body_reading.specs.Walk.{on}
use Rattle.api_versions_response.specs.ItemShapes.{key_shape}

-- r says no more than that the item at p of version 3 has seven bytes, all there, and that q is after them
pub record Passes (q : ℕ) (s : List ℕ) (p : ℕ) (r : Bool) : Type 0 where
  pub whole : r ≡ true → p + 7 ≤ length s
  pub law : r ≡ true → (row : ℕ) (c : List ℕ) → ok c (p + 7) ≡ on (seek q (key_shape true) row 0 c) s p
