-- What the entry points for frames hand back: for each answer of the definitions the numbers of the struct, as in gateway/specs/Replies.antt.
-- Assumes nothing.
use Rattle.std.specs.Prelude.{List, [], ◌∷◌, ◌++◌, ℕ, zero, suc, get_or}
use Rattle.layout.specs.Answers.{Answer}
use Rattle.gateway.specs.Replies.{numbers, row_of}
use Rattle.gateway_frame.specs.declared.RequestFrameNumbers.{RequestFrameNumbers}
use Rattle.gateway_frame.specs.declared.ResponseFrameNumbers.{ResponseFrameNumbers}

-- the row is API key, version, correlation number, client name (kind, start, length), number of tags, and start and length of the body
abbrev pub request_frame_numbers : Answer → RequestFrameNumbers
request_frame_numbers a =
    record { answer = numbers a; request_api_key = get_or (row_of a) 0 0; request_api_version = get_or (row_of a) 1 0; correlation_id = get_or (row_of a) 2 0; client_id_kind = get_or (row_of a) 3 0; client_id_start = get_or (row_of a) 4 0; client_id_length = get_or (row_of a) 5 0; tags = get_or (row_of a) 6 0; body_start = get_or (row_of a) 7 0; body_length = get_or (row_of a) 8 0 }

-- the row is correlation number, number of tags, and start and length of the body
abbrev pub response_frame_numbers : Answer → ResponseFrameNumbers
response_frame_numbers a = record { answer = numbers a; correlation_id = get_or (row_of a) 0 0; tags = get_or (row_of a) 1 0; body_start = get_or (row_of a) 2 0; body_length = get_or (row_of a) 3 0 }

-- ---- rows that a caller lends

-- the kind 0 is unset and 1 null; any other is present
unfoldable pub client_row : ℕ → ℕ → ℕ → List ℕ
client_row zero start n = 0 ∷ 0 ∷ 0 ∷ []
client_row (suc zero) start n = 1 ∷ 0 ∷ 0 ∷ []
client_row (suc (suc k)) start n = 2 ∷ start ∷ n ∷ []

unfoldable pub request_row : List ℕ → List ℕ
request_row cs = get_or cs 0 0 ∷ get_or cs 1 0 ∷ get_or cs 2 0 ∷ (client_row (get_or cs 3 0) (get_or cs 4 0) (get_or cs 5 0) ++ (get_or cs 6 0 ∷ []))

unfoldable pub response_row : List ℕ → List ℕ
response_row cs = get_or cs 0 0 ∷ get_or cs 1 0 ∷ []
