-- What the entry points for Fetch hand back: for each answer of the definitions the numbers of the struct, as in gateway/specs/Replies.antt.
-- Assumes nothing.
use Rattle.std.specs.Prelude.{List, [], ◌++◌, ◌∷◌, ℕ, get_or}
use Rattle.layout.specs.Answers.{Answer}
use Rattle.body_reading.specs.Cells.{versioned_row}
use Rattle.gateway.specs.Replies.{numbers, row_of}
use Rattle.gateway_fetch.specs.declared.FetchNumbers.{FetchNumbers}

-- the own row is throttle time (kind, number), number of topics
abbrev pub fetch_numbers : Answer → FetchNumbers
fetch_numbers a = record { answer = numbers a; timed = get_or (row_of a) 0 0; throttle = get_or (row_of a) 1 0; topics = get_or (row_of a) 2 0 }

-- the row that a caller lends: replica, max wait, min bytes, max bytes (kind, number), isolation level (kind, number), number of topics
unfoldable pub request_row : List ℕ → List ℕ
request_row cs = get_or cs 0 0 ∷ get_or cs 1 0 ∷ get_or cs 2 0 ∷ (versioned_row (get_or cs 3 0) (get_or cs 4 0) ++ (versioned_row (get_or cs 5 0) (get_or cs 6 0) ++ (get_or cs 7 0 ∷ [])))
