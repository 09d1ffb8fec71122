-- The same for counts, and for data and texts: what an enum says in the definition's words gives the enum back. One law for all calls that answer with it.
use mathlib.Core.Bool.{cond}
use mathlib.Core.Option.{Option, none, some}
use mathlib.Core.Path.{◌≡◌, ap, refl}
use Prim.Native.Nat.{◌+◌, ◌-◌, ℕ}
use native.Mathlib.Omega.{arith}
use lib.Dec.{eqb}
use Rattle.layout.specs.Reading.{Res}
use Rattle.layout.specs.Tables.{Span}
use Rattle.layout.proofs.Tests.{one_more}
use Rattle.std.specs.Prelude.{Some, None, Option as Maybe}
use Rattle.primitives.specs.Answers.{Read}
use Rattle.primitives.specs.Parts.{counted_as, of_count, of_field, of_nullable, of_part, of_span}
use Rattle.primitives.specs.declared.Field.{Field}
use Rattle.primitives.specs.declared.Span as Part
use Rattle.primitives.proofs.Unique.{same_reads}

abbrev pub count_of : ℕ → Maybe ℕ
count_of k = cond (eqb k 0) None (Some (k - 1))

count_back : (c : Maybe ℕ) → count_of (counted_as c) ≡ c
count_back None = refl
count_back (Some k) = let m : k + 1 - 1 ≡ k = omega arith in rw (one_more k) (ap (λ (j : ℕ). Some j) m)

pub count_unique : (o : Res ℕ) (r s : Read (Maybe ℕ)) → of_count r ≡ o → of_count s ≡ o → r ≡ s
count_unique = same_reads counted_as count_of count_back

abbrev pub span_of : Span → Part.Span
span_of x = record { start = x.0; len = x.1 }

pub part_unique : (o : Res Span) (r s : Read Part.Span) → of_part r ≡ o → of_part s ≡ o → r ≡ s
part_unique = same_reads of_span span_of (λ v. refl)

abbrev pub field_of : Option (Option Span) → Field
field_of none = Field.Absent
field_of (some none) = Field.Null
field_of (some (some x)) = Field.Present (span_of x)

pub field_back : (f : Field) → field_of (of_field f) ≡ f
field_back Field.Absent = refl
field_back Field.Null = refl
field_back (Field.Present x) = refl

pub nullable_unique : (o : Res (Option (Option Span))) (r s : Read Field) → of_nullable r ≡ o → of_nullable s ≡ o → r ≡ s
nullable_unique = same_reads of_field field_of field_back
