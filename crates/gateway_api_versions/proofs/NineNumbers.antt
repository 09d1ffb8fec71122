-- The rows of the agreement, one after the other.
use mathlib.Core.List.{List, [], ◌∷◌, map}
use mathlib.Core.Option.{Option, none, some}
use mathlib.Core.Path.{◌∙◌, ◌≡◌, ap, refl}
use Prim.Native.Nat.{ℕ}
use lib.IntN.{pos, ℤ}
use lib.ListN.{get_or}
use mir.Facts.{to_z-of_z}
use mir.Syntax as Mir
use mir.Val.{SFits, of_z, to_z}
use Rattle.layout.specs.Primitives.{signed, w64}
use Rattle.layout.specs.Tables.{first_row, rows_of}
use Rattle.layout.specs.Agreement.{agreed, agreement}
use Rattle.layout.specs.Write.{each}
use Rattle.api_versions_agreement.specs.Agreed.{shown_agreement, shown_cells}
use Rattle.gateway_api_versions.specs.Agreed.{agreed_numbers}

-- number j of row i
abbrev pub shown_at : List (List ℤ) → ℕ → ℕ → ℤ
shown_at rows i j = get_or (get_or rows i []) j (pos 0)

abbrev nine_of : List (List ℤ) → List ℤ
nine_of rows =
    shown_at rows 0 0 ∷ shown_at rows 0 1 ∷ shown_at rows 0 2 ∷ shown_at rows 1 0 ∷ shown_at rows 1 1 ∷ shown_at rows 1 2 ∷ shown_at rows 2 0 ∷ shown_at rows 2 1 ∷ shown_at rows 2 2 ∷ []

by_rows : (a b c : Option (List ℕ)) →
    nine_of (map shown_cells (agreed 18 0 3 a ∷ agreed 3 0 4 b ∷ agreed 1 4 4 c ∷ [])) ≡ map (signed w64) (each (λ r. r) (agreed 18 0 3 a ∷ agreed 3 0 4 b ∷ agreed 1 4 4 c ∷ []))
unfolding agreed each shown_cells
by_rows none none none = refl
by_rows none none (some z) = refl
by_rows none (some y) none = refl
by_rows none (some y) (some z) = refl
by_rows (some x) none none = refl
by_rows (some x) none (some z) = refl
by_rows (some x) (some y) none = refl
by_rows (some x) (some y) (some z) = refl

in_order : (items : List ℕ) → nine_of (shown_agreement items) ≡ agreed_numbers items
unfolding shown_agreement agreed_numbers agreement
in_order items = by_rows (first_row 18 (rows_of 4 items)) (first_row 3 (rows_of 4 items)) (first_row 1 (rows_of 4 items))

-- a number that passed a local
abbrev pub passed : ℤ → ℤ
passed z = to_z Mir.w64 (of_z Mir.w64 z)

module _ (rows : List (List ℤ)) where
  abbrev pub Small : ℕ → ℕ → Type 0
  Small i j = SFits Mir.w64 (shown_at rows i j)

  pub nine_numbers :
      (items : List ℕ) → rows ≡ shown_agreement items → Small 0 0 → Small 0 1 → Small 0 2 → Small 1 0 → Small 1 1 → Small 1 2 → Small 2 0 → Small 2 1 → Small 2 2
      → passed (shown_at rows 0 0) ∷ passed (shown_at rows 0 1) ∷ passed (shown_at rows 0 2) ∷ passed (shown_at rows 1 0) ∷ passed (shown_at rows 1 1) ∷ passed (shown_at rows 1 2) ∷ passed (shown_at rows 2 0) ∷ passed (shown_at rows 2 1) ∷ passed (shown_at rows 2 2) ∷ []
      ≡ agreed_numbers items
  nine_numbers items e a b c d f g h k l =
      (λ t. to_z-of_z a t ∷ to_z-of_z b t ∷ to_z-of_z c t ∷ to_z-of_z d t ∷ to_z-of_z f t ∷ to_z-of_z g t ∷ to_z-of_z h t ∷ to_z-of_z k t ∷ to_z-of_z l t ∷ [])
      ∙ ap nine_of e ∙ in_order items
