-- What a call gives back, once for all messages and any number of lent tables: the whole reply, and what the tables or the output hold afterwards.
-- Assumes nothing.
use Rattle.std.specs.Prelude.{Bool, true, false, cond, List, [], ◌∷◌, ◌++◌, map, ℕ, zero, suc, ◌/◌, length, drop, get_or, replicate, leb, ltb, eqb, ℤ, pos, negsuc}
use Rattle.std.proofs.Math.Option.{Option, none, some}
use Rattle.layout.specs.Reading.{Refusal, because, no_room, naming, nowhere, Res, ok, bad, Reader}
use Rattle.layout.specs.Rows.{Shape, Layout, done, tagged, at, Value}
use Rattle.layout.specs.Write.{write, fault}
use Rattle.layout.specs.Names.{name_at, name_fault}
use Rattle.layout.specs.Tables.{Tables, read_rows, append, value_of, row_width, kind_of, from, good}

-- a message of versions 0 to `last`, with compact forms from `flexible` on; `tables` is the number of tables lent beside the body's own row,
-- and `number` that by which refusals name the message, 0 for none
pub record Message : Type 0 where
  pub layout : Layout
  pub last : ℕ
  pub flexible : ℕ
  pub tables : ℕ
  pub number : ℕ

unfoldable pub shape : Message → ℕ → Shape
shape m v = at m.flexible v m.layout

-- messages and written bodies over this size are refused
abbrev pub most : ℕ
most = 1048576

-- 1: outside the message's versions
abbrev pub at_version : {A : Type 0} → Message → ℤ → (Shape → Res A) → Res A
at_version m (pos v) f = cond (leb v m.last) (f (shape m v)) (bad (because 1 0))
at_version m (negsuc v) f = bad (because 1 0)

-- 2: n is the size of what is read or would be written
abbrev pub limited : {A : Type 0} → ℕ → Res A → Res A
limited n r = cond (leb n most) r (bad (because 2 0))

-- the body's own row and the bytes used or written, or a refusal
pub data Answer : Type 0 where
  accepted : List ℕ → ℕ → Answer
  refused : Refusal → Answer

-- ---- reading

-- 9: bytes left over, of z in all, in a whole read
abbrev pub ended : {A : Type 0} → Bool → ℕ → Res A → Res A
ended w z (bad e) = bad e
ended false z (ok x n) = ok x n
ended true z (ok x n) = cond (ltb n z) (bad (because 9 n)) (ok x n)

-- tables with no rows yet, the body's own among them
abbrev pub no_rows : Message → Tables
no_rows m = replicate (suc m.tables) []

-- what is made of the message s before any room is looked at: the rows of all tables. w: a whole read
unfoldable pub seen : Bool → Message → ℤ → List ℕ → Res Tables
seen w m v s = at_version m v (λ l. limited (length s) (ended w (length s) (read_rows w append l 0 (no_rows m) 0 s)))

-- the row widths of the lent tables, the same at all versions
unfoldable pub widths : Message → List ℕ
widths m = map (λ t. row_width (kind_of t (shape m 0))) (from 1 m.tables)

-- the rows needed of the first table that is too small: widths, rows read, tables lent
unfoldable pub needed : List ℕ → Tables → Tables → Option ℕ
needed [] st room = none
needed (w ∷ ws) [] room = none
needed (w ∷ ws) (cs ∷ st) [] = cond (eqb (length cs / w) 0) (needed ws st []) (some (length cs / w))
needed (w ∷ ws) (cs ∷ st) (old ∷ room) = cond (leb (length cs / w) (length old / w)) (needed ws st room) (some (length cs / w))

-- rows behind those filled stay as they were
unfoldable pub laid : Tables → Tables → Tables
laid [] room = room
laid (cs ∷ st) [] = []
laid (cs ∷ st) (old ∷ room) = (cs ++ drop (length cs) old) ∷ laid st room

-- 10
abbrev pub roomy : Tables → Tables → ℕ → Option ℕ → Answer × Tables
roomy st room n none = (accepted (get_or st 0 []) n, laid (drop 1 st) room)
roomy st room n (some k) = (refused (no_room k), room)

abbrev pub judged : Message → Tables → Res Tables → Answer × Tables
judged m room (bad e) = (refused e, room)
judged m room (ok st n) = roomy st room n (needed (widths m) (drop 1 st) room)

-- the answer at version v to the message s, and the tables behind it
unfoldable pub read_answer : Bool → Message → ℤ → Tables → List ℕ → Answer × Tables
read_answer w m v room s = judged m room (seen w m v s)

-- no rows yet of any table: no message has more than eight with its own row
abbrev pub none_yet : List ℕ
none_yet = replicate 8 0

-- the refusal e of the message s at version v, with its name
unfoldable pub named : Message → ℤ → List ℕ → Refusal → Refusal
named m (pos v) s e = name_at m.number (shape m v) none_yet 0 s e
named m (negsuc v) s e = naming m.number nowhere nowhere e

unfoldable pub prefix_read : Message → ℤ → Tables → List ℕ → Answer × Tables
prefix_read m v room s = read_answer false m v room s

unfoldable pub whole_read : Message → ℤ → Tables → List ℕ → Answer × Tables
whole_read m v room s = read_answer true m v room s

-- ---- writing

-- the value that the row and tables mean, and its bytes
unfoldable pub meant : List ℕ → Tables → (l : Shape) → Value (List ℕ) l
meant lent st l = (value_of lent l 0 st).0

unfoldable pub body : List ℕ → Tables → Shape → List ℕ
body lent st l = write l (meant lent st l)

-- 7 and 11, where the bytes have a fault; then 2. Between them stands 12, which has no case: a seven-bit group always fits a byte
abbrev pub offered : ℕ → List ℕ → Res (List ℕ)
offered zero bs = limited (length bs) (ok bs (length bs))
offered (suc e) bs = bad (because (suc e) 0)

-- the refusal e of the row and tables st at version v, with its name
unfoldable pub named_fault : Message → ℤ → List ℕ → Tables → Refusal → Refusal
named_fault m (pos v) lent st e = name_fault m.number (shape m v) none_yet (meant lent st (shape m v)) e
named_fault m (negsuc v) lent st e = naming m.number nowhere nowhere e

-- 13, the same at all versions
abbrev pub judged_good : {A : Type 0} → Message → List ℕ → Tables → Res A → Res A
judged_good m lent st r = cond (good (length lent) m.tables (shape m 0) st) r (bad (because 13 0))

-- the bytes of the row and tables st, whose texts are parts of `lent`, before any room is looked at
unfoldable pub made : Message → ℤ → List ℕ → Tables → Res (List ℕ)
made m v lent st = at_version m v (λ l. judged_good m lent st (offered (fault l (meant lent st l)) (body lent st l)))

-- 10
abbrev pub stored : List ℕ → Res (List ℕ) → Answer × List ℕ
stored out (bad e) = (refused e, out)
stored out (ok bs n) = cond (leb n (length out)) (accepted [] n, bs ++ drop n out) (refused (no_room n), out)

-- the answer at version v, with no row to show, and the output behind it
unfoldable pub write_answer : Message → ℤ → List ℕ → Tables → List ℕ → Answer × List ℕ
write_answer m v lent st out = stored out (made m v lent st)

-- ---- a primitive called by itself: no version, and only tagged fields fill a table

-- read: 2 first, and then from place 0
unfoldable pub alone : {A : Type 0} → Reader A → List ℕ → Res A
alone r s = limited (length s) (r 0 s)

-- written: a field's value, or bytes with a fault (0 for none)
unfoldable pub write_alone : ℕ → List ℕ → List ℕ → Answer × List ℕ
write_alone e bs out = stored out (offered e bs)

-- tagged fields: own row, the number of tags; table 1, tags (tag, start, length)
abbrev pub tags_alone : Message
tags_alone = record { layout = tagged 0 0 1 done; last = 0; flexible = 0; tables = 1; number = 0 }
