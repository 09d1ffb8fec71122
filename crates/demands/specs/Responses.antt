-- What is said of ApiVersions responses that `write` wrote and `read_whole` reads (`api_versions_response`): the replies that their promises allow, and a response that came back. Assumes nothing.
use Rattle.std.specs.Prelude.{List, [], ◌∷◌, map, ◌≡◌, ◌/◌, ◌≤◌, suc, zero, ℕ, pos, length}
use Rattle.layout.specs.Reading.{Refusal}
use Rattle.layout.specs.Tables.{rows_of}
use Rattle.layout.specs.Answers.{accepted, refused, whole_read, write_answer}
use Rattle.layout.specs.Messages.ApiVersions as Api
use Rattle.primitives.specs.Answers.{Read, taken}
use Rattle.primitives_put.specs.Answers.{Written, replied}
use Rattle.api_versions_response.specs.Answers.{of_response, of_response_reply}
use Rattle.api_versions_response.specs.declared.ResponseBody.{ResponseBody}
use Rattle.demands.specs.Returned.{body_back, item_back, joined, onto, tag_shown, tags_kept}

-- the layouts of version 0, of 1 and 2, of 3
abbrev pub layout : ℕ → ℕ
layout zero = 0
layout (suc zero) = 1
layout (suc (suc zero)) = 1
layout (suc (suc (suc v))) = 2

-- two tables: items and tags
abbrev pub Pair : Type 0
Pair = List ℕ × List ℕ

-- x is a reply that `read_whole` may give, and the tables after it, where `room` was lent
abbrev pub WholeRead : List ℕ → ℕ → Pair → Read ResponseBody × Pair → Type 0
WholeRead body v room x = (of_response_reply x.0, x.1.0 ∷ x.1.1 ∷ []) ≡ whole_read Api.response (pos v) (room.0 ∷ room.1 ∷ []) body

-- the reply accepts, with n bytes used
abbrev pub Accepts : Read ResponseBody × Pair → ℕ → Type 0
Accepts x n = (r : List ℕ) × (of_response_reply x.0 ≡ accepted r n)

-- the reply is the refusal e, and the tables are those that were lent
abbrev pub Refuses : Refusal → Pair → Read ResponseBody × Pair → Type 0
Refuses e room x = (of_response_reply x.0 ≡ refused e) × (x.1.0 ≡ room.0) × (x.1.1 ≡ room.1)

-- `write` may answer r and leave `after` in place of `out`
abbrev pub Writes : List ℕ → ℕ → List ℕ → ResponseBody → Pair → Written → List ℕ → Type 0
Writes out v lent b tables r after = replied r after ≡ write_answer Api.response (pos v) lent (of_response b ∷ tables.0 ∷ tables.1 ∷ []) out

-- tables with room: for every item, and every tag that comes back, that was lent
abbrev pub Room : ℕ → Pair → Pair → Type 0
Room v lent room = (length (rows_of 4 lent.0) ≤ length room.0 / 4) × (length (tags_kept v (rows_of 3 lent.1)) ≤ length room.1 / 3)

-- the reply x to a body that was written at version v from b, the tables and the bytes `lent`
pub record CameBack (v : ℕ) (lent : List ℕ) (b : ResponseBody) (tables : Pair) (body : List ℕ) (room : Pair) (x : Read ResponseBody × Pair) : Type 0 where
  -- accepted whole, every byte used: the own row with what the version lacks absent and what was unset at its default
  pub reply : x.0 ≡ taken (body_back v b) (length body)
  -- each item in its place; cells behind them stay
  pub items : x.1.0 ≡ onto (joined (map (item_back v) (rows_of 4 tables.0))) room.0
  -- each tag in its place, with its data; cells behind them stay
  pub tag_cells : List ℕ
  pub tags : x.1.1 ≡ onto tag_cells room.1
  pub whole_rows : joined (rows_of 3 tag_cells) ≡ tag_cells
  pub same_tags : map (tag_shown body) (rows_of 3 tag_cells) ≡ map (tag_shown lent) (tags_kept v (rows_of 3 tables.1))
