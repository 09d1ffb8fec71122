-- What the answers about counts, data and texts say in the definition's words: the number and values of docs/RULES.md for each case of each enum.
use Rattle.std.proofs.Math.Option.{Option, none, some}
use Rattle.std.specs.Prelude.{◌+◌, ℕ, drop, eqb, ltb, Bool, cond, false, true, List, Some, None, Ok, Err, Option as Maybe}
use Rattle.layout.specs.Reading.{Reader, Res, bad, because, more, ok, placed}
use Rattle.layout.specs.Primitives.{Size, checked, length_of, unsigned}
use Rattle.layout.specs.Read.{by_place, read_blob, read_text}
use Rattle.layout.specs.Tables.{Span}
use Rattle.primitives.specs.declared.Field.{Field}
use Rattle.primitives.specs.declared.Span as Part
use Rattle.primitives.specs.Answers.{Read, of_read, of_refusal}

-- one more than the length, and 0 for null
abbrev pub counted_as : Maybe ℕ → ℕ
counted_as None = 0
counted_as (Some k) = k + 1

abbrev pub of_count : Read (Maybe ℕ) → Res ℕ
of_count r = of_read counted_as r

abbrev pub of_span : Part.Span → Span
of_span x = (x.start, x.len)

abbrev pub of_part : Read Part.Span → Res Span
of_part r = of_read of_span r

-- absent, null, or a part of the message
abbrev pub of_field : Field → Option (Option Span)
of_field Field.Absent = none
of_field Field.Null = some none
of_field (Field.Present x) = some (some (of_span x))

abbrev pub of_nullable : Read Field → Res (Option (Option Span))
of_nullable r = of_read of_field r

-- a number looked at as a length: below −1 it is refused
abbrev pub of_length : ℕ → ℕ → Read ℕ → Res ℕ
of_length half null (Ok t) = cond (ltb t.value half) (ok (t.value + 1) t.next) (cond (eqb t.value null) (ok 0 t.next) (bad (because 4 0)))
of_length half null (Err e) = bad (of_refusal e)

-- a length or count with its null, refused at its own start
unfoldable pub counted : Size → Reader ℕ
counted z = checked true 4 (length_of unsigned z)

-- data of n bytes at place u, behind their length at place p, where they are refused
unfoldable pub data_behind : ℕ → ℕ → ℕ → List ℕ → Res Span
data_behind p u n s = placed false p (more u (read_blob (by_place false) n u (drop u s)))

-- text of n bytes behind the u bytes of its length, likewise, but for text that is not well-formed, which is refused there
unfoldable pub text_behind : ℕ → ℕ → List ℕ → Res Span
text_behind u n s = placed true 0 (more u (read_text (by_place false) n u (drop u s)))

abbrev pub some_part : Res Span → Res (Option Span)
some_part (ok x n) = ok (some x) n
some_part (bad e) = bad e

-- what b reads behind a length: with a null is as if the length were 0, else it is refused with e
abbrev pub shown_or : (ℕ → ℕ → List ℕ → Res Span) → Bool → ℕ → List ℕ → ℕ → Maybe ℕ → Res Span
shown_or b a e s n (Some k) = b n k s
shown_or b a e s n None = cond a (b n 0 s) (bad (because e 0))

abbrev pub shown_behind : (ℕ → ℕ → List ℕ → Res Span) → Bool → ℕ → List ℕ → Read (Maybe ℕ) → Res Span
shown_behind b a e s (Ok t) = shown_or b a e s t.next t.value
shown_behind b a e s (Err c) = bad (of_refusal c)

-- the same, where null is a value of its own
abbrev pub kept_or : (ℕ → ℕ → List ℕ → Res Span) → List ℕ → ℕ → Maybe ℕ → Res (Option Span)
kept_or b s n (Some k) = some_part (b n k s)
kept_or b s n None = ok none n

abbrev pub kept_behind : (ℕ → ℕ → List ℕ → Res Span) → List ℕ → Read (Maybe ℕ) → Res (Option Span)
kept_behind b s (Ok t) = kept_or b s t.next t.value
kept_behind b s (Err c) = bad (of_refusal c)

-- a field that the version has
abbrev pub there : Res (Option Span) → Res (Option (Option Span))
there (ok x n) = ok (some x) n
there (bad e) = bad e
