-- The cells of fields that a version may lack. A text, and a number that is unset in some way, has a kind before it: 0 absent, 1 null, 2 present.
use Rattle.std.specs.Prelude.{List, [], ◌∷◌, suc, zero, ℕ, Option, Some, None}
use Rattle.layout.specs.Reading.{Res}
use Rattle.primitives.specs.Answers.{Read, of_read}
use Rattle.primitives.specs.declared.Field.{Field}

abbrev pub versioned_cells : Option ℕ → List ℕ
versioned_cells None = 0 ∷ 0 ∷ []
versioned_cells (Some n) = 2 ∷ n ∷ []

-- the number, or d where there is none
abbrev pub given : ℕ → Option ℕ → ℕ
given d None = d
given d (Some n) = n

-- as a caller lends them: any kind but 0 is present
unfoldable pub versioned_row : ℕ → ℕ → List ℕ
versioned_row zero n = 0 ∷ 0 ∷ []
versioned_row (suc k) n = 2 ∷ n ∷ []

abbrev pub field_cells : Field → List ℕ
field_cells Field.Absent = 0 ∷ 0 ∷ 0 ∷ []
field_cells Field.Null = 1 ∷ 0 ∷ 0 ∷ []
field_cells (Field.Present x) = 2 ∷ x.start ∷ x.len ∷ []

abbrev pub of_versioned_at : Read (Option ℕ) → Res (List ℕ)
of_versioned_at r = of_read versioned_cells r

abbrev pub of_cell : Read ℕ → Res (List ℕ)
of_cell r = of_read (λ c. c ∷ []) r

abbrev pub of_text : Read Field → Res (List ℕ)
of_text r = of_read field_cells r
