-- The second demand, as far as it is proved: "reading and writing .. are proved against definitions from Kafka's protocol guide and RFC 3629". What a call accepts means just those bytes,
-- and what the reader or the writer of the layout accepts within the limits is not refused. `read` and `write` (layout/specs/Read.antt, Write.antt) know nothing of tables. Assumes nothing.
use Rattle.std.specs.Prelude.{Bool, true, List, [], ◌≡◌, ◌≤◌, ℕ, pos, drop, get_or, length}
use Rattle.std.proofs.Math.Option.{none}
use Rattle.layout.specs.Reading.{ok}
use Rattle.layout.specs.Rows.{Value}
use Rattle.layout.specs.Read.{by_bytes, read}
use Rattle.layout.specs.Write.{fault, write}
use Rattle.layout.specs.Tables.{Tables, good}
use Rattle.layout.specs.Answers.{Answer, Message, accepted, laid, meant, most, needed, read_answer, shape, widths}

-- A read of the message s at version v that showed `row`, used n bytes and left `after` in place of `room`: the rows that it filled mean what the reader of the layout says of the bytes.
pub record Says (w : Bool) (m : Message) (v : ℕ) (s : List ℕ) (room : Tables) (row : List ℕ) (n : ℕ) (after : Tables) : Type 0 where
  pub rows : Tables
  pub own_row : row ≡ get_or rows 0 []
  pub filled : after ≡ laid (drop 1 rows) room
  pub says : read (by_bytes w) (shape m v) 0 s ≡ ok (meant s rows (shape m v)) n

-- The reader of the layout says x of n bytes, all of them in a whole read: into tables with room the same is accepted.
pub record Taken (w : Bool) (m : Message) (v : ℕ) (s : List ℕ) (n : ℕ) (x : Value (List ℕ) (shape m v)) : Type 0 where
  pub rows : Tables
  pub means : meant s rows (shape m v) ≡ x
  pub taken : (room : Tables) → needed (widths m) (drop 1 rows) room ≡ none → read_answer w m (pos v) room s ≡ (accepted (get_or rows 0 []) n, laid (drop 1 rows) room)

-- the bytes of what the tables st mean, with texts in `lent`
abbrev pub bytes_of : (m : Message) → ℕ → List ℕ → Tables → List ℕ
bytes_of m v lent st = write (shape m v) (meant lent st (shape m v))

-- tables that can be written at version v: 13 is not given, no field has a fault, and the bytes are not too many
pub record Writable (m : Message) (v : ℕ) (lent : List ℕ) (st : Tables) : Type 0 where
  pub known : v ≤ m.last
  pub good_tables : good (length lent) m.tables (shape m 0) st ≡ true
  pub no_fault : fault (shape m v) (meant lent st (shape m v)) ≡ 0
  pub short : length (bytes_of m v lent st) ≤ most

-- A struct of numbers r, made of the answer by F, with what the tables hold after the call: an acceptance, whose rows say what the bytes say.
pub record Accepted {N : Type 0} (F : Answer → N) (w : Bool) (m : Message) (v : ℕ) (s : List ℕ) (room : Tables) (r : N) (after : Tables) : Type 0 where
  pub row : List ℕ
  pub used : ℕ
  pub reply : r ≡ F (accepted row used)
  pub says : Says w m v s room row used after
