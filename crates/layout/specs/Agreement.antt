-- Version agreement: which version of each API we speak with a broker, from any ApiVersions item rows. Assumes nothing.
use Rattle.std.specs.Prelude.{Bool, true, cond, ◌&&◌, List, [], ◌∷◌, ℕ, ◌^◌, get_or, leb}
use Rattle.std.proofs.Math.Option.{Option, none, some}
use Rattle.layout.specs.Primitives.{minus}
use Rattle.layout.specs.Tables.{first_row, rows_of}

-- a cell from 2^63 on is a negative number
unfoldable pub negative : ℕ → Bool
negative c = leb (2 ^ 63) c

unfoldable pub smaller : ℕ → ℕ → ℕ
smaller a b = cond (leb a b) a b

-- v is at least the cell c
unfoldable pub reaches : ℕ → ℕ → Bool
reaches v c = cond (negative c) true (leb c v)

-- the highest version that our range low to high and the broker's have in common; −1 if there is none
unfoldable pub highest : ℕ → ℕ → ℕ × ℕ → ℕ
highest low high b =
    let v = smaller high b.1 in
    cond (negative b.1) minus (cond (leb low v && reaches v b.0) v minus)

-- API key, chosen version, broker's maximum, from the first row of the key; both −1 for a key that is not listed
unfoldable pub agreed : ℕ → ℕ → ℕ → Option (List ℕ) → List ℕ
agreed key low high none = key ∷ minus ∷ minus ∷ []
agreed key low high (some r) = key ∷ highest low high (get_or r 1 0, get_or r 2 0) ∷ get_or r 2 0 ∷ []

-- ApiVersions 0 to 3, Metadata 0 to 4, Fetch 4 alone. An item row has four cells: key, minimum, maximum, tags
unfoldable pub agreement : List ℕ → List (List ℕ)
agreement items =
    let rows = rows_of 4 items in
    agreed 18 0 3 (first_row 18 rows) ∷ agreed 3 0 4 (first_row 3 rows) ∷ agreed 1 4 4 (first_row 1 rows) ∷ []
