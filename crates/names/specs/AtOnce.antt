-- What a walk over a tag answers that does not know the tag's row. Assumes nothing.
use Rattle.std.specs.Prelude.{◌≡◌, ℕ, List, Result, Ok, Err}
use Rattle.layout.specs.Reading.{Res, bad, ok}
use Rattle.layout.specs.Names.{found, seek}
use Rattle.body_reading.specs.Tagged.{tag_shape}
use Rattle.body_reading.specs.Walk.{on}

-- a tag, whatever its row and whatever rows were begun
abbrev pub of_tag : ℕ → List ℕ → Result ℕ ℕ → Res (List ℕ)
of_tag row c (Err f) = bad (found row f)
of_tag row c (Ok n) = ok c n

pub record InAnyRow (q : ℕ) (s : List ℕ) (p : ℕ) (r : Result ℕ ℕ) : Type 0 where
  pub law : (row : ℕ) (c : List ℕ) → of_tag row c r ≡ on (seek q tag_shape row 0 c) s p
