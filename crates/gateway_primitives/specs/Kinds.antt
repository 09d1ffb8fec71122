-- The primitives that are read and written by themselves, and the number of each. What is right for one is the definition that its own call promises:
-- `alone` for reading, `write_alone` for writing. Assumes nothing.
use Rattle.std.specs.Prelude.{Bool, true, false, cond, List, [], ◌∷◌, ℕ, zero, suc, ◌^◌, ltb, ℤ, Ok, Err, Some, None, Option as Nullable}
use Rattle.std.proofs.Math.Option.{Option, none, some}
use Rattle.std.proofs.Math.ListN.{get_elem?}
use Rattle.layout.specs.Reading.{Res, ok, bad, because}
use Rattle.layout.specs.Primitives as Kafka
use Rattle.layout.specs.Primitives.{Width, w8, w16, w32, w64, Size, fixed, compact, never, kept, empty, keeps, Maybe, cell_of, signed, holds, integer_bytes, flag_bytes, unsigned_bytes, zigzag, zigzag_bytes}
use Rattle.layout.specs.Rows as Rows
use Rattle.layout.specs.Read.{by_place, read_basic}
use Rattle.layout.specs.Tables.{Span}
use Rattle.layout.specs.Write.{basic_fault, unless, write_basic}
use Rattle.layout.specs.Answers.{Answer, accepted, refused, alone, write_alone}
use Rattle.primitives.specs.Parts.{counted}
use Rattle.primitives_put.specs.Answers.{count_bytes, count_fault}
use Rattle.primitives.specs.Answers.{Read, is_set, of_refusal}
use Rattle.gateway_primitives.specs.declared.kinds.Shown.{Shown}

-- a number of a width, the others by their names in Kafka's guide, a length or count, data, text
pub data Primitive : Type 0 where
  integer : Width → Primitive
  boolean : Primitive
  unsigned : Primitive
  varint : Primitive
  varlong : Primitive
  count : Size → Primitive
  blob : Size → Primitive
  text : Size → Primitive

-- the kinds by their numbers
abbrev pub kinds : List Primitive
kinds =
    integer w8  -- 0 INT8
    ∷ integer w16  -- 1 INT16
    ∷ integer w32  -- 2 INT32
    ∷ integer w64  -- 3 INT64
    ∷ boolean  -- 4 BOOLEAN
    ∷ unsigned  -- 5 UNSIGNED_VARINT
    ∷ varint  -- 6 VARINT
    ∷ varlong  -- 7 VARLONG
    ∷ count (fixed w32 kept)  -- 8 the count of an ARRAY
    ∷ count (compact kept)  -- 9 the count of a COMPACT_ARRAY
    ∷ blob (fixed w32 never)  -- 10 BYTES
    ∷ blob (fixed w32 kept)  -- 11 NULLABLE_BYTES
    ∷ blob (compact never)  -- 12 COMPACT_BYTES
    ∷ blob (fixed w32 empty)  -- 13 RECORDS
    ∷ text (fixed w16 never)  -- 14 STRING
    ∷ text (fixed w16 kept)  -- 15 NULLABLE_STRING
    ∷ text (compact never)  -- 16 COMPACT_STRING
    ∷ text (compact kept)  -- 17 COMPACT_NULLABLE_STRING
    ∷ []

-- ---- read: form (2 a value, 1 null), value, length

abbrev pub cells_of : Shown → List ℕ
cells_of x = x.form ∷ x.value ∷ x.length ∷ []

abbrev pub of_reply : Read Shown → Answer
of_reply (Ok t) = accepted (cells_of t.value) t.next
of_reply (Err e) = refused (of_refusal e)

abbrev pub shown : {A : Type 0} → (A → List ℕ) → Res A → Answer
shown f (ok x n) = accepted (f x) n
shown f (bad e) = refused e

abbrev pub number_cells : ℕ → List ℕ
number_cells n = 2 ∷ n ∷ 0 ∷ []

abbrev pub integer_cells : ℤ → List ℕ
integer_cells z = number_cells (cell_of z)

abbrev pub flag_cells : Bool → List ℕ
flag_cells b = number_cells (cond b 1 0)

-- a count is read as one more than it is, and 0 is null
abbrev pub count_cells : ℕ → List ℕ
count_cells zero = 1 ∷ 0 ∷ 0 ∷ []
count_cells (suc n) = number_cells n

-- a part of the message
abbrev pub part_cells : Span → List ℕ
part_cells x = 2 ∷ x.0 ∷ x.1 ∷ []

-- where null is a value of its own
abbrev pub nullable_cells : (b : Bool) → Maybe b Span → List ℕ
nullable_cells true none = 1 ∷ 0 ∷ 0 ∷ []
nullable_cells true (some x) = part_cells x
nullable_cells false x = part_cells x

-- a field as the code holds it: absent, null or a part
abbrev pub field_cells : Option (Option Span) → List ℕ
field_cells none = 0 ∷ 0 ∷ 0 ∷ []
field_cells (some x) = nullable_cells true x

unfoldable pub read_of : Primitive → List ℕ → Answer
read_of (integer w) s = shown integer_cells (alone (Kafka.integer w) s)
read_of boolean s = shown flag_cells (alone Kafka.flag s)
read_of unsigned s = shown number_cells (alone Kafka.unsigned s)
read_of varint s = shown integer_cells (alone Kafka.varint s)
read_of varlong s = shown integer_cells (alone Kafka.varlong s)
read_of (count z) s = shown count_cells (alone (counted z) s)
read_of (blob z) s = shown (nullable_cells (keeps z)) (alone (read_basic (by_place false) (Rows.blob z)) s)
read_of (text z) s = shown (nullable_cells (keeps z)) (alone (read_basic (by_place false) (Rows.text z)) s)

-- a kind that there is not is refused with 1
abbrev pub read_if : Option Primitive → List ℕ → Answer
read_if none s = refused (because 1 0)
read_if (some p) s = read_of p s

unfoldable pub read_kind : ℕ → List ℕ → Answer
read_kind k s = read_if (get_elem? kinds k) s

-- ---- written: whether it is null, the number as a cell or the count, and the text or data

-- null is looked at where it is a value of its own
abbrev pub given : (b : Bool) → Bool → List ℕ → Maybe b (List ℕ)
given true null x = cond null none (some x)
given false null x = x

abbrev pub given_count : Bool → ℕ → Nullable ℕ
given_count null c = cond null None (Some c)

unfoldable pub write_of : Primitive → Bool → ℕ → List ℕ → List ℕ → Answer × List ℕ
write_of (integer w) null c x out = write_alone (unless (holds w (cell_of (signed w64 c))) 11) (integer_bytes w (signed w64 c)) out
write_of boolean null c x out = write_alone 0 (flag_bytes (is_set c)) out
write_of unsigned null c x out = write_alone 0 (unsigned_bytes c) out
write_of varint null c x out = write_alone (unless (ltb (zigzag (signed w64 c)) (2 ^ 32)) 11) (zigzag_bytes (signed w64 c)) out
write_of varlong null c x out = write_alone 0 (zigzag_bytes (signed w64 c)) out
write_of (count z) null c x out = write_alone (count_fault z (given_count null c)) (count_bytes z (given_count null c)) out
write_of (blob z) null c x out = write_alone (basic_fault (Rows.blob z) (given (keeps z) null x)) (write_basic (Rows.blob z) (given (keeps z) null x)) out
write_of (text z) null c x out = write_alone (basic_fault (Rows.text z) (given (keeps z) null x)) (write_basic (Rows.text z) (given (keeps z) null x)) out

abbrev pub write_if : Option Primitive → Bool → ℕ → List ℕ → List ℕ → Answer × List ℕ
write_if none null c x out = (refused (because 1 0), out)
write_if (some p) null c x out = write_of p null c x out

unfoldable pub write_kind : ℕ → Bool → ℕ → List ℕ → List ℕ → Answer × List ℕ
write_kind k null c x out = write_if (get_elem? kinds k) null c x out
