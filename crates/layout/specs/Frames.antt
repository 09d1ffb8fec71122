-- Frames, from the common structure in Kafka's guide: RequestOrResponse => Size (RequestMessage | ResponseMessage), the size an INT32 that does not count its own four bytes, and a message a header and a body, which is not read.
-- Stricter than the guide: no size is over 1,048,576. Places count from the frame's first byte. Assumes nothing.
use Rattle.std.specs.Prelude.{false, cond, List, [], ◌∷◌, ◌++◌, ℕ, zero, suc, ◌+◌, ◌-◌, length, take, drop, leb, ltb, ℤ, pos, negsuc}
use Rattle.layout.specs.Reading.{Refusal, because, naming, nowhere, Res, ok, bad}
use Rattle.layout.specs.Primitives.{w32, bytes, cell}
use Rattle.layout.specs.Rows.{row, int32}
use Rattle.layout.specs.Write.{fault}
use Rattle.layout.specs.Names.{name_at}
use Rattle.layout.specs.Tables.{Tables, append, read_rows}
use Rattle.layout.specs.Answers.{Message, Answer, shape, most, at_version, judged, judged_good, limited, meant, no_rows, none_yet, body, stored}

-- a header: its rows, with its numbers as their versions, and the lowest number that is taken
pub record Header : Type 0 where
  pub rows : Message
  pub first : ℕ

-- 1: a number below the first
abbrev pub numbered : {A : Type 0} → ℕ → ℤ → Res A → Res A
numbered first (pos h) r = cond (ltb h first) (bad (because 1 0)) r
numbered first (negsuc h) r = bad (because 1 0)

-- ---- reading

-- the size, of z bytes lent: 3 where it is cut; 14 below 0 or over the limit (the cell of a number below 0 is over every limit); 3 where fewer bytes follow
abbrev pub size_of : ℕ → Res ℕ → Res ℕ
size_of z (bad e) = bad e
size_of z (ok n k) = cond (leb n most) (cond (leb (k + n) z) (ok n (k + n)) (bad (because 3 0))) (bad (because 14 0))

unfoldable pub frame_size : List ℕ → Res ℕ
frame_size s = size_of (length s) (cell w32 0 s)

-- the header with the size before it
abbrev pub with_size : Message → Message
with_size m = record { layout = row 0 m.last int32 m.layout; last = m.last; flexible = m.flexible; tables = m.tables; number = m.number }

-- the header's row without the size; and the body's start and length, which is what is left of the frame's z bytes after the k of size and header
abbrev pub with_body : ℕ → Res Tables → Res Tables
with_body z (bad e) = bad e
with_body z (ok [] k) = ok [] z
with_body z (ok (cs ∷ st) k) = ok ((drop 1 cs ++ (k ∷ (z - k) ∷ [])) ∷ st) z

-- read from the frame's bytes alone: those after it are the next frame's
abbrev pub in_frame : List ℕ → (List ℕ → Res Tables) → Res ℕ → Res Tables
in_frame s f (bad e) = bad e
in_frame s f (ok n z) = with_body z (f (take z s))

unfoldable pub frame_seen : Header → ℤ → List ℕ → Res Tables
frame_seen h v s =
    numbered h.first v (at_version (with_size h.rows) v (λ l. in_frame s (read_rows false append l 0 (no_rows h.rows) 0) (frame_size s)))

-- the frame's bytes; none where its size is refused
abbrev pub frame_bytes : List ℕ → Res ℕ → List ℕ
frame_bytes s (bad e) = []
frame_bytes s (ok n z) = take z s

-- the refusal e of the bytes s, with its name: the header's fields begin after the four bytes of the size
unfoldable pub frame_named : Header → ℤ → List ℕ → Refusal → Refusal
frame_named h (pos v) s e = name_at h.rows.number (shape h.rows v) none_yet 4 (drop 4 (frame_bytes s (frame_size s))) e
frame_named h (negsuc v) s e = naming h.rows.number nowhere nowhere e

-- the answer with header number v to the bytes s, and the table of tags after it
unfoldable pub frame_read : Header → ℤ → Tables → List ℕ → Answer × Tables
frame_read h v room s = judged (with_size h.rows) room (frame_seen h v s)

-- ---- writing

-- the header's fault, 11 or 7; then 2, of header and body together
abbrev pub framed : ℕ → List ℕ → List ℕ → Res (List ℕ)
framed zero header rest = limited (length header + length rest) (ok (bytes 4 (length header + length rest) ++ (header ++ rest)) (4 + (length header + length rest)))
framed (suc e) header rest = bad (because (suc e) 0)

-- 1, 13 and these, before any room is asked for
unfoldable pub frame_made : Header → ℤ → List ℕ → Tables → List ℕ → Res (List ℕ)
frame_made h v lent st rest =
    numbered h.first v (at_version h.rows v (λ l. judged_good h.rows lent st (framed (fault l (meant lent st l)) (body lent st l) rest)))

unfoldable pub frame_written : Header → ℤ → List ℕ → Tables → List ℕ → List ℕ → Answer × List ℕ
frame_written h v lent st rest out = stored out (frame_made h v lent st rest)
