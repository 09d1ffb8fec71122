-- What fields that a version may lack are, from their cells.
use mathlib.Core.List.{[], ◌∷◌}
use mathlib.Core.Path.{◌≡◌, refl}
use Prim.Native.Nat.{suc, zero, ℕ}
use Rattle.primitives.specs.declared.Field.{Field}
use Rattle.body_reading.specs.Cells.{versioned_row}
use Rattle.std.specs.Prelude.{Option, Some, None}

abbrev pub versioned_of : ℕ → ℕ → Option ℕ
versioned_of zero n = None
versioned_of (suc k) n = Some n

abbrev pub field_of : ℕ → ℕ → ℕ → Field
field_of zero a k = Field.Absent
field_of (suc zero) a k = Field.Null
field_of (suc (suc n)) a k = Field.Present (record { start = a; len = k })

-- cells that are lent: any kind but 0 is present
pub present_row : (k n : ℕ) → (k ≡ 0 → ⊥) → 2 ∷ n ∷ [] ≡ versioned_row k n
unfolding versioned_row
present_row zero n h = absurd (h refl)
present_row (suc k) n h = refl
