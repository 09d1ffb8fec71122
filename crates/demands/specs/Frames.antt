-- Frames: what an accepted one says of its bytes, what can be written, and a header that was written as it comes back, "with fields that header lacks absent and unset tagged fields as count 0".
-- Assumes nothing.
use Rattle.std.specs.Prelude.{Bool, cond, false, true, List, [], ◌++◌, ◌∷◌, ◌≡◌, ◌+◌, ◌-◌, ◌≤◌, ℕ, eqb, leb, pos, drop, get_or, length, take}
use Rattle.std.proofs.Math.Option.{none}
use Rattle.layout.specs.Reading.{ok}
use Rattle.layout.specs.Primitives.{bytes, cell, minus, w32}
use Rattle.layout.specs.Rows.{Value}
use Rattle.layout.specs.Read.{by_bytes, read}
use Rattle.layout.specs.Write.{fault, write}
use Rattle.layout.specs.Tables.{Tables, good, slice}
use Rattle.layout.specs.Answers.{Answer, accepted, laid, meant, most, needed, shape, widths}
use Rattle.layout.specs.Frames.{Header, frame_read, with_size}
use Rattle.layout.specs.Settled.{FrameBack, Shown, num, part, shown_row}
use Rattle.primitives.specs.declared.Field.{Field}
use Rattle.frame.specs.declared.RequestHeader.{RequestHeader}
use Rattle.frame.specs.declared.ResponseHeader.{ResponseHeader}

-- A read of the bytes s with header number v that showed `row`, used n bytes and left `after` in place of `room`. The frame is those n bytes, four and as many as its size says.
-- The rows that were filled mean what the reader of the layout says of it, with the size before the header; and the body is what is left after the `header` bytes of both.
pub record FrameSays (h : Header) (v : ℕ) (s : List ℕ) (room : Tables) (row : List ℕ) (n : ℕ) (after : Tables) : Type 0 where
  pub size : ℕ
  pub is_size : cell w32 0 s ≡ ok size 4
  pub all : n ≡ 4 + size
  pub rows : Tables
  pub header : ℕ
  pub own_row : row ≡ drop 1 (get_or rows 0 []) ++ (header ∷ (n - header) ∷ [])
  pub filled : after ≡ laid (drop 1 rows) room
  pub says : read (by_bytes false) (shape (with_size h.rows) v) 0 (take n s) ≡ ok (meant (take n s) rows (shape (with_size h.rows) v)) header

-- The reader of the layout says x of the frame of n bytes that is at the front of s: into a table with room the same is accepted, with the body after the `header` bytes.
pub record FrameTaken (h : Header) (v : ℕ) (s : List ℕ) (n header : ℕ) (x : Value (List ℕ) (shape (with_size h.rows) v)) : Type 0 where
  pub rows : Tables
  pub means : meant (take n s) rows (shape (with_size h.rows) v) ≡ x
  pub taken : (room : Tables) → needed (widths (with_size h.rows)) (drop 1 rows) room ≡ none →
      frame_read h (pos v) room s ≡ (accepted (drop 1 (get_or rows 0 []) ++ (header ∷ (n - header) ∷ [])) n, laid (drop 1 rows) room)

-- what is accepted, of a struct of numbers r, made of the answer by F
pub record FrameAccepted {N : Type 0} (F : Answer → N) (h : Header) (v : ℕ) (s : List ℕ) (room : Tables) (r : N) (after : Tables) : Type 0 where
  pub row : List ℕ
  pub used : ℕ
  pub reply : r ≡ F (accepted row used)
  pub says : FrameSays h v s room row used after

-- header and body, and before them their size
abbrev pub header_of : Header → ℕ → List ℕ → Tables → List ℕ
header_of h v lent st = write (shape h.rows v) (meant lent st (shape h.rows v))

abbrev pub frame_of : Header → ℕ → List ℕ → Tables → List ℕ → List ℕ
frame_of h v lent st body = bytes 4 (length (header_of h v lent st) + length body) ++ (header_of h v lent st ++ body)

-- tables and a body that can be written with header number v: 13 is not given, no field has a fault, and they are not too many bytes
pub record FrameWritable (h : Header) (v : ℕ) (lent : List ℕ) (st : Tables) (body : List ℕ) : Type 0 where
  pub taken : h.first ≤ v
  pub known : v ≤ h.rows.last
  pub good_tables : good (length lent) h.rows.tables (shape h.rows 0) st ≡ true
  pub no_fault : fault (shape h.rows v) (meant lent st (shape h.rows v)) ≡ 0
  pub short : length (header_of h v lent st) + length body ≤ most

-- ---- as it comes back: `num` is a number, `part` the bytes of a text (layout/specs/Settled.antt); the size comes first

-- a client name that is unset, or null, is null
abbrev pub client_back : List ℕ → Field → List Shown
client_back lent Field.Absent = num 1 ∷ part [] ∷ []
client_back lent Field.Null = num 1 ∷ part [] ∷ []
client_back lent (Field.Present x) = num 2 ∷ part (slice lent (x.start, x.len)) ∷ []

-- headers from `first` on have tags; unset they are none, and the others show −1
abbrev pub header_tags_back : ℕ → ℕ → ℕ → ℕ
header_tags_back first v g = cond (leb first v) (cond (eqb g minus) 0 g) minus

abbrev pub request_header_back : ℕ → ℕ → List ℕ → RequestHeader → List Shown
request_header_back size v lent x = num size ∷ num x.request_api_key ∷ num x.request_api_version ∷ num x.correlation_id ∷ (client_back lent x.client_id ++ (num (header_tags_back 2 v x.tags) ∷ []))

abbrev pub response_header_back : ℕ → ℕ → ResponseHeader → List Shown
response_header_back size v x = num size ∷ num x.correlation_id ∷ num (header_tags_back 1 v x.tags) ∷ []

-- What was written with header number v is read so, whatever follows the frame: row, tags and body (`FrameBack`); and the header's row is `own`.
pub record HeaderBack (h : Header) (F : ℕ → ℕ → Bool) (v : ℕ) (lent row : List ℕ) (tags : Tables) (body frame : List ℕ) (own : List Shown) : Type 0 where
  pub back : FrameBack h F v lent row tags body frame
  pub own_row : shown_row frame (shape (with_size h.rows) v) (get_or back.su 0 []) ≡ own
