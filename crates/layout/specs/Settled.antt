-- The mission's third demand: a value that the writer accepted at some version comes back, "with fields that version lacks absent and unset ones at their defaults".
-- Said of the rows, cell by cell: `settled_row` is what comes back of a row that was lent to the writer, `shown_row` what stands in a row that a read filled. Neither uses
-- the reader's or the writer's own word for absent, null or unset, so that a slip there is refused by the law. Assumes nothing.
use Rattle.std.specs.Prelude.{Bool, true, false, cond, List, [], ◌∷◌, ◌++◌, map, ◌≡◌, ℕ, suc, ◌-◌, ◌≤◌, drop, get_or, length, take, eqb, leb, ltb, pos}
use Rattle.layout.specs.Reading.{ok}
use Rattle.layout.specs.Primitives.{minus, Size, fixed, compact, plain, keeps}
use Rattle.layout.specs.Rows.{Basic, number, boolean, level, natural, text, blob, optional, Shape, end, field, absent, array, lacking}
use Rattle.layout.specs.Tables.{Tables, kind_of, rows_at, slice, width}
use Rattle.layout.specs.Answers.{Message, seen, shape}
use Rattle.layout.specs.Frames.{Header, frame_seen, with_size}

-- a cell; or, in place of a start and a length, the bytes that they show
pub data Shown : Type 0 where
  num : ℕ → Shown
  part : List ℕ → Shown

-- texts and data are parts of `bytes`
module _ (bytes : List ℕ) where
  -- ---- cells as they stand

  unfoldable pub shown_span : Bool → List ℕ → List Shown
  shown_span true cs = num (get_or cs 0 0) ∷ part (slice bytes (get_or cs 1 0, get_or cs 2 0)) ∷ []
  shown_span false cs = part (slice bytes (get_or cs 0 0, get_or cs 1 0)) ∷ []

  unfoldable pub shown_cells : Basic → List ℕ → List Shown
  shown_cells (number w) cs = num (get_or cs 0 0) ∷ []
  shown_cells boolean cs = num (get_or cs 0 0) ∷ []
  shown_cells level cs = num (get_or cs 0 0) ∷ []
  shown_cells natural cs = num (get_or cs 0 0) ∷ []
  shown_cells (text z) cs = shown_span (keeps z) cs
  shown_cells (blob z) cs = shown_span (keeps z) cs
  shown_cells (optional d k) cs = num (get_or cs 0 0) ∷ shown_cells k (drop 1 cs)

  -- ---- cells as they come back

  -- where null is a value: what is not present (2) comes back null (1)
  unfoldable pub settled_span : Bool → List ℕ → List Shown
  settled_span true cs = cond (eqb (get_or cs 0 0) 2) (shown_span true cs) (num 1 ∷ part [] ∷ [])
  settled_span false cs = shown_span false cs

  -- a Boolean comes back as 0 or 1; what may be unset comes back present (2), and if it was unset (0) with its default's cells d
  unfoldable pub settled_cells : Basic → List ℕ → List Shown
  settled_cells (number w) cs = shown_cells (number w) cs
  settled_cells boolean cs = num (cond (ltb 0 (get_or cs 0 0)) 1 0) ∷ []
  settled_cells level cs = shown_cells level cs
  settled_cells natural cs = shown_cells natural cs
  settled_cells (text z) cs = settled_span (keeps z) cs
  settled_cells (blob z) cs = settled_span (keeps z) cs
  settled_cells (optional d k) cs = num 2 ∷ settled_cells k (cond (eqb (get_or cs 0 0) 0) d (drop 1 cs))

-- null items stay null (−1); unset tags (−1) come back as no tags (0)
unfoldable pub settled_count : Size → ℕ → ℕ
settled_count z c = cond (keeps z) c (cond (eqb c minus) 0 c)

-- a field that the version lacks: −1 for a number; else every cell is 0: the kind is 0, absent, and no bytes are shown
unfoldable pub gone : Basic → List Shown
gone (number w) = num minus ∷ []
gone boolean = num minus ∷ []
gone level = num minus ∷ []
gone natural = num minus ∷ []
gone (text z) = shown_cells [] (text z) []
gone (blob z) = shown_cells [] (blob z) []
gone (optional d k) = shown_cells [] (optional d k) []

-- the count of an array that the version lacks: −1 for tags, −2 where null is a value, else 0
unfoldable pub gone_count : Size → ℕ
gone_count (fixed w m) = cond (keeps (fixed w m)) (minus - 1) 0
gone_count (compact m) = cond (keeps (compact m)) (minus - 1) 0
gone_count plain = minus

-- ---- rows

unfoldable pub shown_row : List ℕ → Shape → List ℕ → List Shown
shown_row bytes end cs = []
shown_row bytes (field k r) cs = shown_cells bytes k (take (width k) cs) ++ shown_row bytes r (drop (width k) cs)
shown_row bytes (absent k r) cs = shown_cells bytes k (take (width k) cs) ++ shown_row bytes r (drop (width k) cs)
shown_row bytes (array z t i r) cs = num (get_or cs 0 0) ∷ shown_row bytes r (drop 1 cs)
shown_row bytes (lacking z t i r) cs = num (get_or cs 0 0) ∷ shown_row bytes r (drop 1 cs)

unfoldable pub settled_row : List ℕ → Shape → List ℕ → List Shown
settled_row lent end cs = []
settled_row lent (field k r) cs = settled_cells lent k (take (width k) cs) ++ settled_row lent r (drop (width k) cs)
settled_row lent (absent k r) cs = gone k ++ settled_row lent r (drop (width k) cs)
settled_row lent (array z t i r) cs = num (settled_count z (get_or cs 0 0)) ∷ settled_row lent r (drop 1 cs)
settled_row lent (lacking z t i r) cs = num (gone_count z) ∷ settled_row lent r (drop 1 cs)

-- ---- a message that was written and is read again

-- The tables su, read from the body bs at version v, hold what was lent settled: the own row, and every row of each table that the version has, in its place. They hold no other row.
pub record Returned (m : Message) (F : ℕ → Bool) (v : ℕ) (lent : List ℕ) (st : Tables) (bs : List ℕ) (su : Tables) : Type 0 where
  pub tables : length su ≡ suc m.tables
  pub own_row : shown_row bs (shape m v) (get_or su 0 []) ≡ settled_row lent (shape m v) (get_or st 0 [])
  pub rows : (t : ℕ) → 1 ≤ t → t ≤ m.tables → F t ≡ true → map (shown_row bs (kind_of t (shape m v))) (rows_at (shape m v) su t) ≡ map (settled_row lent (kind_of t (shape m v))) (rows_at (shape m v) st t)
  pub none : (t : ℕ) → 1 ≤ t → t ≤ m.tables → F t ≡ false → get_or su t [] ≡ []

-- bs, written at version v, is read there again, as a prefix (false) or whole (true), with every byte used
pub record Back (m : Message) (F : ℕ → ℕ → Bool) (v : ℕ) (lent : List ℕ) (st : Tables) (bs : List ℕ) (w : Bool) : Type 0 where
  pub known : v ≤ m.last
  pub su : Tables
  pub is_seen : seen w m (pos v) bs ≡ ok su (length bs)
  pub rows : Returned m (F v) v lent st bs su

-- The tables whose rows a version has. Tags of ApiVersions requests are there from version 3 on
abbrev pub request_tables : ℕ → ℕ → Bool
request_tables v t = leb 3 v

-- Metadata and Fetch requests have all their tables at every version
abbrev pub all_tables : ℕ → ℕ → Bool
all_tables v t = true

-- ---- a frame that was written and is read again

-- With header number v, whatever bytes follow the frame: the header's row and tags as they were lent, settled, with the size before them; and after the header the body
pub record FrameBack (h : Header) (F : ℕ → ℕ → Bool) (v : ℕ) (lent row : List ℕ) (tags : Tables) (rest frame : List ℕ) : Type 0 where
  pub su : Tables
  pub used : ℕ
  pub is_seen : (t : List ℕ) → frame_seen h (pos v) (frame ++ t) ≡ ok ((drop 1 (get_or su 0 []) ++ (used ∷ length rest ∷ [])) ∷ drop 1 su) (length frame)
  pub rows : Returned (with_size h.rows) (F v) v lent (((length frame - 4) ∷ row) ∷ tags) frame su
  pub body_is : drop used frame ≡ rest

-- Request header 2 and response header 1 have tags
abbrev pub request_header_tables : ℕ → ℕ → Bool
request_header_tables v t = leb 2 v

abbrev pub response_header_tables : ℕ → ℕ → Bool
response_header_tables v t = leb 1 v
