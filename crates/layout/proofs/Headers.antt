-- The headers of requests and responses: their fields in full; what they owe so that the laws of frames are theirs, computed; and their rows as they come back, in numbers.
use mathlib.Core.Bool.{true}
use mathlib.Core.List.{List, [], ◌∷◌}
use mathlib.Core.Path.{◌≡◌, refl}
use Prim.Native.Nat.{◌≤◌, suc, zero, ℕ}
use native.Mathlib.Omega.{arith}
use Rattle.layout.specs.Primitives.{fixed, kept, minus, plain, w16, w32}
use Rattle.layout.specs.Rows.{absent, array, at, blob, end, field, lacking, natural, number, standing, stands, tag_rows, text}
use Rattle.layout.specs.Tables.{Tables, adds_up, all, arrays, asked, from, good, good_cells, good_row, kind_in, kind_of, row_width, rows_at, slice, sum, width}
use Rattle.layout.specs.Answers.{shape}
use Rattle.layout.specs.Frames.{with_size}
use Rattle.layout.specs.Messages.Headers.{request, request_rows, response, response_rows}
use Rattle.layout.specs.Settled.{gone, gone_count, num, part, request_header_tables, response_header_tables, settled_cells, settled_count, settled_row, settled_span, shown_cells, shown_span}
use Rattle.layout.proofs.AllRows.{Follows, followed, follows, mute, unlacked}
use Rattle.layout.proofs.Frames.{Heads}
use Rattle.layout.proofs.Proper.{avoids, eats, proper, sound, width_at}
use Rattle.layout.proofs.Returned.{set}

-- ---- the headers in full: no form is compact

pub request_1 : shape request.rows 1 ≡ field (number w16) (field (number w16) (field (number w32) (field (text (fixed w16 kept)) (lacking plain 1 (absent natural (absent (blob plain) end)) end))))
unfolding shape at stands standing tag_rows request_rows
request_1 = refl

pub request_2 : shape request.rows 2 ≡ field (number w16) (field (number w16) (field (number w32) (field (text (fixed w16 kept)) (array plain 1 (field natural (field (blob plain) end)) end))))
unfolding shape at stands standing tag_rows request_rows
request_2 = refl

pub response_0 : shape response.rows 0 ≡ field (number w32) (lacking plain 1 (absent natural (absent (blob plain) end)) end)
unfolding shape at stands standing tag_rows response_rows
response_0 = refl

pub response_1 : shape response.rows 1 ≡ field (number w32) (array plain 1 (field natural (field (blob plain) end)) end)
unfolding shape at stands standing tag_rows response_rows
response_1 = refl

-- ---- what they owe

pub request_proper : proper (with_size request.rows) ≡ true
unfolding proper sound avoids eats width_at all from kind_of kind_in arrays row_width width shape at stands standing tag_rows request_rows
request_proper = refl

pub response_proper : proper (with_size response.rows) ≡ true
unfolding proper sound avoids eats width_at all from kind_of kind_in arrays row_width width shape at stands standing tag_rows response_rows
response_proper = refl

request_follows : (v : ℕ) → v ≤ 2 → Follows (with_size request.rows) (request_header_tables v) v
unfolding shape at stands standing tag_rows request_rows kind_of kind_in arrays row_width width good good_row good_cells adds_up asked rows_at all sum from followed follows unlacked mute avoids
request_follows zero h = record { kinds = tt; no_null = (refl, tt); judged = λ size st. refl; test = refl }
request_follows (suc zero) h = record { kinds = tt; no_null = (refl, tt); judged = λ size st. refl; test = refl }
request_follows (suc (suc zero)) h = record { kinds = (refl, tt, tt); no_null = (tt, tt); judged = λ size st. refl; test = refl }
request_follows (suc (suc (suc v))) h = absurd (omega arith)

response_follows : (v : ℕ) → v ≤ 1 → Follows (with_size response.rows) (response_header_tables v) v
unfolding shape at stands standing tag_rows response_rows kind_of kind_in arrays row_width width good good_row good_cells adds_up asked rows_at all sum from followed follows unlacked mute avoids
response_follows zero h = record { kinds = tt; no_null = (refl, tt); judged = λ size st. refl; test = refl }
response_follows (suc zero) h = record { kinds = (refl, tt, tt); no_null = (tt, tt); judged = λ size st. refl; test = refl }
response_follows (suc (suc v)) h = absurd (omega arith)

request_alike : (z c : ℕ) (row : List ℕ) (ts : Tables) → good z 1 (shape (with_size request.rows) 0) ((c ∷ row) ∷ ts) ≡ good z 1 (shape request.rows 0) (row ∷ ts)
unfolding shape at stands standing tag_rows request_rows kind_of kind_in arrays row_width width good good_row good_cells adds_up asked rows_at all sum from
request_alike z c row ts = refl

response_alike : (z c : ℕ) (row : List ℕ) (ts : Tables) → good z 1 (shape (with_size response.rows) 0) ((c ∷ row) ∷ ts) ≡ good z 1 (shape response.rows 0) (row ∷ ts)
unfolding shape at stands standing tag_rows response_rows kind_of kind_in arrays row_width width good good_row good_cells adds_up asked rows_at all sum from
response_alike z c row ts = refl

pub request_heads : Heads request request_header_tables
request_heads = record { is_proper = request_proper; follows_it = request_follows; judged_alike = request_alike }

pub response_heads : Heads response response_header_tables
response_heads = record { is_proper = response_proper; follows_it = response_follows; judged_alike = response_alike }

-- Rows with the size before them: key, version, correlation number, client name (kind, start, length), number of tags.
-- Header 1 lacks tags. A client name that is unset, or null, comes back null; unset tags come back as none.
module _ (lent : List ℕ) (z k v c a n g : ℕ) where
  pub requests : (settled_row lent (shape (with_size request.rows) 1) (z ∷ k ∷ v ∷ c ∷ 0 ∷ a ∷ n ∷ g ∷ []) ≡ num z ∷ num k ∷ num v ∷ num c ∷ num 1 ∷ part [] ∷ num minus ∷ []) ×
      (settled_row lent (shape (with_size request.rows) 1) (z ∷ k ∷ v ∷ c ∷ 1 ∷ a ∷ n ∷ g ∷ []) ≡ num z ∷ num k ∷ num v ∷ num c ∷ num 1 ∷ part [] ∷ num minus ∷ []) ×
      (settled_row lent (shape (with_size request.rows) 1) (z ∷ k ∷ v ∷ c ∷ 2 ∷ a ∷ n ∷ g ∷ []) ≡ num z ∷ num k ∷ num v ∷ num c ∷ num 2 ∷ part (slice lent (a, n)) ∷ num minus ∷ []) ×
      (settled_row lent (shape (with_size request.rows) 2) (z ∷ k ∷ v ∷ c ∷ 0 ∷ a ∷ n ∷ g ∷ []) ≡ num z ∷ num k ∷ num v ∷ num c ∷ num 1 ∷ part [] ∷ num (set g) ∷ []) ×
      (settled_row lent (shape (with_size request.rows) 2) (z ∷ k ∷ v ∷ c ∷ 2 ∷ a ∷ n ∷ g ∷ []) ≡ num z ∷ num k ∷ num v ∷ num c ∷ num 2 ∷ part (slice lent (a, n)) ∷ num (set g) ∷ [])
  unfolding shape at stands standing tag_rows request_rows settled_row settled_cells settled_span shown_cells shown_span settled_count gone gone_count width
  requests = (refl, refl, refl, refl, refl)

-- correlation number, number of tags: header 0 lacks them
module _ (lent : List ℕ) (z c g : ℕ) where
  pub responses : (settled_row lent (shape (with_size response.rows) 0) (z ∷ c ∷ g ∷ []) ≡ num z ∷ num c ∷ num minus ∷ []) ×
      (settled_row lent (shape (with_size response.rows) 1) (z ∷ c ∷ g ∷ []) ≡ num z ∷ num c ∷ num (set g) ∷ [])
  unfolding shape at stands standing tag_rows response_rows settled_row settled_cells settled_span shown_cells shown_span settled_count gone gone_count width
  responses = (refl, refl)
