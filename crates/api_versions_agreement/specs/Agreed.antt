-- What agreement says of a broker's rows, as the code hands it back: signed numbers in place of cells.
use Rattle.std.specs.Prelude.{List, map, ℕ, ℤ, get_or, Some, None, Option as Maybe}
use Rattle.std.proofs.Math.Option.{Option, none, some}
use Rattle.layout.specs.Primitives.{signed, w64}
use Rattle.layout.specs.Tables.{first_row, rows_of}
use Rattle.layout.specs.Agreement.{agreed, agreement}
use Rattle.api_versions_agreement.specs.declared.Range.{Range}

abbrev pub of_range : Maybe Range → Option (ℕ × ℕ)
of_range (Some r) = some (r.min, r.max)
of_range None = none

-- the minimum and the maximum of a row
abbrev pub range_in : Option (List ℕ) → Option (ℕ × ℕ)
range_in none = none
range_in (some r) = some (get_or r 1 0, get_or r 2 0)

-- what the first row of the key says
unfoldable pub range_of : ℕ → List ℕ → Option (ℕ × ℕ)
range_of key items = range_in (first_row key (rows_of 4 items))

-- the signed numbers that cells show
unfoldable pub shown_cells : List ℕ → List ℤ
shown_cells cs = map (signed w64) cs

unfoldable pub shown_agreed : ℕ → ℕ → ℕ → List ℕ → List ℤ
shown_agreed key low high items = shown_cells (agreed key low high (first_row key (rows_of 4 items)))

-- the rows of `agreement`, with their signed numbers
unfoldable pub shown_agreement : List ℕ → List (List ℤ)
shown_agreement items = map shown_cells (agreement items)
