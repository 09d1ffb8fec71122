-- What the entry points for ApiVersions bodies hand back: for each answer of the definitions the numbers of the struct, as in gateway/specs/Replies.antt.
-- Assumes nothing.
use Rattle.std.specs.Prelude.{List, [], ◌∷◌, ◌++◌, ℕ, zero, suc, get_or}
use Rattle.layout.specs.Answers.{Answer}
use Rattle.body_reading.specs.Cells.{versioned_row}
use Rattle.gateway.specs.Replies.{numbers, row_of}
use Rattle.gateway_api_versions.specs.declared.ResponseNumbers.{ResponseNumbers}
use Rattle.gateway_api_versions.specs.declared.RequestNumbers.{RequestNumbers}

-- the own row is error, number of items, throttle time (kind, number), number of tags
abbrev pub response_numbers : Answer → ResponseNumbers
response_numbers a = record { number = (numbers a).number; place = (numbers a).place; need = (numbers a).need; used = (numbers a).used; error = get_or (row_of a) 0 0; items = get_or (row_of a) 1 0; kind = get_or (row_of a) 2 0; throttle = get_or (row_of a) 3 0; tags = get_or (row_of a) 4 0 }

-- the own row is name (kind, start, length), version (kind, start, length), number of tags
abbrev pub request_numbers : Answer → RequestNumbers
request_numbers a =
    record { number = (numbers a).number; place = (numbers a).place; need = (numbers a).need; used = (numbers a).used; named = get_or (row_of a) 0 0; nstart = get_or (row_of a) 1 0; nlength = get_or (row_of a) 2 0; versioned = get_or (row_of a) 3 0; vstart = get_or (row_of a) 4 0; vlength = get_or (row_of a) 5 0; tags = get_or (row_of a) 6 0 }

-- ---- rows that a caller lends: of what may be unset the kind 0 is unset, and any other present

unfoldable pub response_row : List ℕ → List ℕ
response_row cs = get_or cs 0 0 ∷ get_or cs 1 0 ∷ (versioned_row (get_or cs 2 0) (get_or cs 3 0) ++ (get_or cs 4 0 ∷ []))

unfoldable pub text_row : ℕ → ℕ → ℕ → List ℕ
text_row zero start n = 0 ∷ 0 ∷ 0 ∷ []
text_row (suc k) start n = 2 ∷ start ∷ n ∷ []

unfoldable pub request_row : List ℕ → List ℕ
request_row cs = text_row (get_or cs 0 0) (get_or cs 1 0) (get_or cs 2 0) ++ (text_row (get_or cs 3 0) (get_or cs 4 0) (get_or cs 5 0) ++ (get_or cs 6 0 ∷ []))
