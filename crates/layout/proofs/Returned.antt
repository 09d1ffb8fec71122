-- What comes back of each message that is written: every row that was lent, settled, in its place, and no other row.
-- Below that, rows of these messages in numbers: what the version lacks is absent, what was unset has its default.
use mathlib.Core.Bool.{Bool, cond, true}
use mathlib.Core.List.{List, [], ◌∷◌}
use mathlib.Core.Path.{◌≡◌, refl, subst}
use Prim.Native.Nat.{◌≤◌, suc, zero, ℕ}
use native.Mathlib.Omega.{arith}
use lib.Dec.{eqb, leb, ltb}
use lib.IntN.{pos}
use lib.ListN.{length, replicate, take}
use Rattle.layout.specs.Reading.{ok}
use Rattle.layout.specs.Primitives.{minus}
use Rattle.layout.specs.Rows.{at, standing, stands, tag_rows}
use Rattle.layout.specs.Tables.{Tables, adds_up, all, append, arrays, asked, from, good, good_cells, good_row, kind_in, kind_of, read_rows, row_width, rows_at, slice, sum, width}
use Rattle.layout.specs.Answers.{Message, accepted, shape, write_answer}
use Rattle.layout.specs.Messages.ApiVersions as Api
use Rattle.layout.specs.Messages.Fetch as Fetch
use Rattle.layout.specs.Messages.Metadata as Metadata
use Rattle.layout.specs.Settled.{Back, all_tables, gone, gone_count, num, part, request_tables, settled_cells, settled_count, settled_row, settled_span, shown_cells, shown_span}
use Rattle.layout.proofs.AllRows.{Follows, followed, follows, mute, returned, unlacked}
use Rattle.layout.proofs.Calls as Calls
use Rattle.layout.proofs.Calls.{made_inv, seen_inv, write_inv}
use Rattle.layout.proofs.Proper.{avoids, proper}

-- ---- what each owes

-- an ApiVersions response has tags from version 3 on
abbrev pub response_tables : ℕ → ℕ → Bool
response_tables v t = cond (eqb t 2) (leb 3 v) true

pub api_response_follows : (v : ℕ) → v ≤ 3 → Follows Api.response (response_tables v) v
unfolding shape at stands standing tag_rows Api.response_rows Api.key_rows kind_of kind_in arrays row_width width good good_row good_cells adds_up asked rows_at all sum from followed follows unlacked mute avoids
api_response_follows zero h = record { kinds = (refl, tt, tt); no_null = ((refl, tt), (refl, tt)); judged = λ size st. refl; test = refl }
api_response_follows (suc zero) h = record { kinds = (refl, tt, tt); no_null = ((refl, tt), (refl, tt)); judged = λ size st. refl; test = refl }
api_response_follows (suc (suc zero)) h = record { kinds = (refl, tt, tt); no_null = ((refl, tt), (refl, tt)); judged = λ size st. refl; test = refl }
api_response_follows (suc (suc (suc zero))) h = record { kinds = (refl, (refl, tt, tt), (refl, tt, tt)); no_null = ((tt, tt), (tt, tt)); judged = λ size st. refl; test = refl }
api_response_follows (suc (suc (suc (suc v)))) h = absurd (omega arith)

pub api_request_follows : (v : ℕ) → v ≤ 3 → Follows Api.request (request_tables v) v
unfolding shape at stands standing tag_rows Api.request_rows kind_of kind_in arrays row_width width good good_row good_cells adds_up asked rows_at all sum from followed follows unlacked mute avoids
api_request_follows zero h = record { kinds = tt; no_null = (refl, tt); judged = λ size st. refl; test = refl }
api_request_follows (suc zero) h = record { kinds = tt; no_null = (refl, tt); judged = λ size st. refl; test = refl }
api_request_follows (suc (suc zero)) h = record { kinds = tt; no_null = (refl, tt); judged = λ size st. refl; test = refl }
api_request_follows (suc (suc (suc zero))) h = record { kinds = (refl, tt, tt); no_null = (tt, tt); judged = λ size st. refl; test = refl }
api_request_follows (suc (suc (suc (suc v)))) h = absurd (omega arith)

pub metadata_request_follows : (v : ℕ) → v ≤ 4 → Follows Metadata.request (all_tables v) v
unfolding shape at stands standing Metadata.request_rows Metadata.name_rows kind_of kind_in arrays row_width width good good_row good_cells adds_up asked rows_at all sum from followed follows unlacked mute avoids
metadata_request_follows zero h = record { kinds = (refl, tt, tt); no_null = (tt, tt); judged = λ size st. refl; test = refl }
metadata_request_follows (suc zero) h = record { kinds = (refl, tt, tt); no_null = (tt, tt); judged = λ size st. refl; test = refl }
metadata_request_follows (suc (suc zero)) h = record { kinds = (refl, tt, tt); no_null = (tt, tt); judged = λ size st. refl; test = refl }
metadata_request_follows (suc (suc (suc zero))) h = record { kinds = (refl, tt, tt); no_null = (tt, tt); judged = λ size st. refl; test = refl }
metadata_request_follows (suc (suc (suc (suc zero)))) h = record { kinds = (refl, tt, tt); no_null = (tt, tt); judged = λ size st. refl; test = refl }
metadata_request_follows (suc (suc (suc (suc (suc v))))) h = absurd (omega arith)

pub fetch_request_follows : (v : ℕ) → v ≤ 4 → Follows Fetch.request (all_tables v) v
unfolding shape at stands standing Fetch.request_rows Fetch.ask_topic_rows Fetch.ask_rows kind_of kind_in arrays row_width width good good_row good_cells adds_up asked rows_at all sum from followed follows unlacked mute avoids
fetch_request_follows zero h = record { kinds = (refl, (refl, tt, tt), tt); no_null = ((tt, tt), tt); judged = λ size st. refl; test = refl }
fetch_request_follows (suc zero) h = record { kinds = (refl, (refl, tt, tt), tt); no_null = ((tt, tt), tt); judged = λ size st. refl; test = refl }
fetch_request_follows (suc (suc zero)) h = record { kinds = (refl, (refl, tt, tt), tt); no_null = ((tt, tt), tt); judged = λ size st. refl; test = refl }
fetch_request_follows (suc (suc (suc zero))) h = record { kinds = (refl, (refl, tt, tt), tt); no_null = ((tt, tt), tt); judged = λ size st. refl; test = refl }
fetch_request_follows (suc (suc (suc (suc zero)))) h = record { kinds = (refl, (refl, tt, tt), tt); no_null = ((tt, tt), tt); judged = λ size st. refl; test = refl }
fetch_request_follows (suc (suc (suc (suc (suc v))))) h = absurd (omega arith)

-- ---- what was written is read again, prefix (false) and whole (true), with every byte used

pub comes_back : (m : Message) → proper m ≡ true → (F : ℕ → ℕ → Bool) → ((v : ℕ) → v ≤ m.last → Follows m (F v) v) → (v : ℕ) (lent : List ℕ) (st : Tables) (out r : List ℕ) (n : ℕ) (after : List ℕ) →
    length st ≡ suc m.tables → write_answer m (pos v) lent st out ≡ (accepted r n, after) → (w : Bool) → Back m F v lent st (take n after) w
comes_back m h F o v lent st out r n after as_many e w =
    let bs = take n after in
    let c = (Calls.comes_back m h (pos v) lent st out r n after e).1 in
    let i = write_inv m (pos v) lent st out r n after e in
    let g = made_inv m (pos v) lent st i.bs n i.is_made in
    let s = seen_inv w m (pos v) bs (c.su w) (length bs) (c.is_seen w) in
    let same = s.is in
    let x : s.version ≡ v = cc in
    let known : v ≤ m.last = subst (λ (k : ℕ). k ≤ m.last) x s.known in
    let reads : read_rows w append (shape m v) 0 (replicate (suc m.tables) []) 0 bs ≡ ok (c.su w) (length bs) =
    subst (λ (k : ℕ). read_rows w append (shape m k) 0 (replicate (suc m.tables) []) 0 bs ≡ ok (c.su w) (length bs)) x s.reads in
    record {
      known = known;
      su = c.su w;
      is_seen = c.is_seen w;
      rows = returned m h (F v) v known (o v known) w lent st bs (length bs) as_many (let k = s.short in omega arith) g.good_tables (record { st = c.su w; reads = reads; means = c.equal w });
    }

-- ---- in numbers

-- −1, unset, as 0
abbrev pub set : ℕ → ℕ
set c = cond (eqb c minus) 0 c

-- An ApiVersions response: error, number of items, throttle (kind, number), number of tags; an item: key, minimum, maximum, number of tags; a tag.
-- Version 0 lacks throttle time and tags. 1 and 2 lack tags; an unset throttle time comes back present and 0. 3 has them all; unset tags come back as none.
module _ (lent : List ℕ) (e n k t g : ℕ) where
  pub responses : (settled_row lent (shape Api.response 0) (e ∷ n ∷ k ∷ t ∷ g ∷ []) ≡ num e ∷ num (set n) ∷ num 0 ∷ num 0 ∷ num minus ∷ []) ×
      (settled_row lent (shape Api.response 1) (e ∷ n ∷ 0 ∷ t ∷ g ∷ []) ≡ num e ∷ num (set n) ∷ num 2 ∷ num 0 ∷ num minus ∷ []) ×
      (settled_row lent (shape Api.response 1) (e ∷ n ∷ 2 ∷ t ∷ g ∷ []) ≡ num e ∷ num (set n) ∷ num 2 ∷ num t ∷ num minus ∷ []) ×
      (settled_row lent (shape Api.response 3) (e ∷ n ∷ 0 ∷ t ∷ g ∷ []) ≡ num e ∷ num (set n) ∷ num 2 ∷ num 0 ∷ num (set g) ∷ []) ×
      (settled_row lent (shape Api.response 3) (e ∷ n ∷ 2 ∷ t ∷ g ∷ []) ≡ num e ∷ num (set n) ∷ num 2 ∷ num t ∷ num (set g) ∷ []) ×
      (settled_row lent (kind_of 1 (shape Api.response 0)) (e ∷ n ∷ t ∷ g ∷ []) ≡ num e ∷ num n ∷ num t ∷ num minus ∷ []) ×
      (settled_row lent (kind_of 1 (shape Api.response 1)) (e ∷ n ∷ t ∷ g ∷ []) ≡ num e ∷ num n ∷ num t ∷ num minus ∷ []) ×
      (settled_row lent (kind_of 1 (shape Api.response 3)) (e ∷ n ∷ t ∷ g ∷ []) ≡ num e ∷ num n ∷ num t ∷ num (set g) ∷ []) ×
      (settled_row lent (kind_of 2 (shape Api.response 3)) (e ∷ n ∷ t ∷ []) ≡ num e ∷ part (slice lent (n, t)) ∷ [])
  unfolding kind_of kind_in arrays shape at stands standing tag_rows Api.response_rows Api.key_rows settled_row settled_cells settled_span shown_cells shown_span settled_count gone gone_count width
  responses = (refl, refl, refl, refl, refl, refl, refl, refl, refl)

-- An ApiVersions request: name and version of the client's software (kind, start, length), number of tags. Below 3 all is absent; unset texts are empty.
module _ (lent : List ℕ) (k a n j b m g : ℕ) where
  pub requests : (settled_row lent (shape Api.request 0) (k ∷ a ∷ n ∷ j ∷ b ∷ m ∷ g ∷ []) ≡ num 0 ∷ part [] ∷ num 0 ∷ part [] ∷ num minus ∷ []) ×
      (settled_row lent (shape Api.request 3) (0 ∷ a ∷ n ∷ 0 ∷ b ∷ m ∷ g ∷ []) ≡ num 2 ∷ part [] ∷ num 2 ∷ part [] ∷ num (set g) ∷ []) ×
      (settled_row lent (shape Api.request 3) (2 ∷ a ∷ n ∷ 2 ∷ b ∷ m ∷ g ∷ []) ≡ num 2 ∷ part (slice lent (a, n)) ∷ num 2 ∷ part (slice lent (b, m)) ∷ num (set g) ∷ [])
  unfolding shape at stands standing tag_rows Api.request_rows settled_row settled_cells settled_span shown_cells shown_span settled_count gone gone_count width slice
  requests = (refl, refl, refl)

-- A Metadata request: number of topics, null as it is; auto-creation (kind, flag), absent below 4, and true where it is unset. A topic: its name.
module _ (lent : List ℕ) (c k b : ℕ) where
  pub metadata_requests : (settled_row lent (shape Metadata.request 3) (c ∷ k ∷ b ∷ []) ≡ num c ∷ num 0 ∷ num 0 ∷ []) ×
      (settled_row lent (shape Metadata.request 4) (c ∷ 0 ∷ b ∷ []) ≡ num c ∷ num 2 ∷ num 1 ∷ []) ×
      (settled_row lent (shape Metadata.request 4) (c ∷ 2 ∷ b ∷ []) ≡ num c ∷ num 2 ∷ num (cond (ltb 0 b) 1 0) ∷ []) ×
      (settled_row lent (kind_of 1 (shape Metadata.request 4)) (c ∷ k ∷ []) ≡ part (slice lent (c, k)) ∷ [])
  unfolding kind_of kind_in arrays shape at stands standing Metadata.request_rows Metadata.name_rows settled_row settled_cells settled_span shown_cells shown_span settled_count gone gone_count width
  metadata_requests = (refl, refl, refl, refl)

-- A Fetch request: replica, wait, min bytes, max bytes (kind, number), isolation (kind, number), number of topics; a topic: its name, number of partitions; a partition: index, offset, max bytes.
-- Max bytes are absent below 3, and 2,147,483,647 where they are unset; the isolation level is absent below 4, and 0 where it is unset.
module _ (lent : List ℕ) (r w m k x j i c : ℕ) where
  pub fetch_requests : (settled_row lent (shape Fetch.request 2) (r ∷ w ∷ m ∷ k ∷ x ∷ j ∷ i ∷ c ∷ []) ≡ num r ∷ num w ∷ num m ∷ num 0 ∷ num 0 ∷ num 0 ∷ num 0 ∷ num (set c) ∷ []) ×
      (settled_row lent (shape Fetch.request 3) (r ∷ w ∷ m ∷ 0 ∷ x ∷ j ∷ i ∷ c ∷ []) ≡ num r ∷ num w ∷ num m ∷ num 2 ∷ num 2147483647 ∷ num 0 ∷ num 0 ∷ num (set c) ∷ []) ×
      (settled_row lent (shape Fetch.request 3) (r ∷ w ∷ m ∷ 2 ∷ x ∷ j ∷ i ∷ c ∷ []) ≡ num r ∷ num w ∷ num m ∷ num 2 ∷ num x ∷ num 0 ∷ num 0 ∷ num (set c) ∷ []) ×
      (settled_row lent (shape Fetch.request 4) (r ∷ w ∷ m ∷ 0 ∷ x ∷ 0 ∷ i ∷ c ∷ []) ≡ num r ∷ num w ∷ num m ∷ num 2 ∷ num 2147483647 ∷ num 2 ∷ num 0 ∷ num (set c) ∷ []) ×
      (settled_row lent (shape Fetch.request 4) (r ∷ w ∷ m ∷ 2 ∷ x ∷ 2 ∷ i ∷ c ∷ []) ≡ num r ∷ num w ∷ num m ∷ num 2 ∷ num x ∷ num 2 ∷ num i ∷ num (set c) ∷ []) ×
      (settled_row lent (kind_of 1 (shape Fetch.request 4)) (r ∷ w ∷ c ∷ []) ≡ part (slice lent (r, w)) ∷ num (set c) ∷ []) ×
      (settled_row lent (kind_of 2 (shape Fetch.request 4)) (r ∷ w ∷ m ∷ []) ≡ num r ∷ num w ∷ num m ∷ [])
  unfolding kind_of kind_in arrays shape at stands standing Fetch.request_rows Fetch.ask_topic_rows Fetch.ask_rows settled_row settled_cells settled_span shown_cells shown_span settled_count gone gone_count width
  fetch_requests = (refl, refl, refl, refl, refl, refl, refl)
