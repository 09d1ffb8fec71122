-- What a primitive's answer on the rest of a message says of the message: it used the bytes before the rest too, and it refuses at the place where the rest starts; a text may be refused inside.
use Rattle.std.specs.Prelude.{Bool, cond, List, [], ◌+◌, ◌-◌, ◌<◌, ◌^◌, suc, zero, ℕ, ltb, drop, length, take, ◌≡◌}
use Rattle.std.proofs.Math.Option.{Option, none, some}
use Rattle.layout.specs.Reading.{Reader, Refusal, Res, bad, because, ok}
use Rattle.layout.specs.Rows.{items, nullable_items}
use Rattle.layout.specs.Tables.{Span}
use Rattle.primitives.specs.Parts.{counted}
use Rattle.body_reading.specs.Walk.{item_count}

-- g tells what becomes of the value, where it has places in it
abbrev pub from_place : {A : Type 0} → (ℕ → A → A) → ℕ → Res A → Res A
from_place g p (ok x n) = ok (g p x) (p + n)
from_place g p (bad e) = bad (because e.number p)

-- the same of a text or data, whose refusal has a place of its own in the rest
abbrev pub from_part : {A : Type 0} → (ℕ → A → A) → ℕ → Res A → Res A
from_part g p (ok x n) = ok (g p x) (p + n)
from_part g p (bad e) = bad (because e.number (p + e.place))

-- the place behind it is a number of the machine
pub record Fits {A : Type 0} (p : ℕ) (o : Res A) : Type 0 where
  pub law : (x : A) (n : ℕ) → o ≡ ok x n → p + n < 2 ^ 64

-- a part, and a field that may be null
abbrev pub further : ℕ → Span → Span
further d x = (d + x.0, x.1)

abbrev pub further_field : ℕ → Option (Option Span) → Option (Option Span)
further_field d none = none
further_field d (some none) = some none
further_field d (some (some x)) = some (some (further d x))

-- the part's start, or the place where it is refused, is a number of the machine too
pub record PartFits (p : ℕ) (o : Res Span) : Type 0 where
  pub law : (x : Span) (n : ℕ) → o ≡ ok x n → (p + x.0 < 2 ^ 64) × (p + n < 2 ^ 64)
  pub inside : (e : Refusal) → o ≡ bad e → p + e.place < 2 ^ 64

pub record StartFits (p : ℕ) (f : Option (Option Span)) : Type 0 where
  pub law : (x : Span) → f ≡ some (some x) → p + x.0 < 2 ^ 64

pub record FieldFits (p : ℕ) (o : Res (Option (Option Span))) : Type 0 where
  pub behind : (x : Option (Option Span)) (n : ℕ) → o ≡ ok x n → p + n < 2 ^ 64
  pub start : (x : Option (Option Span)) (n : ℕ) → o ≡ ok x n → StartFits p x
  pub inside : (e : Refusal) → o ≡ bad e → p + e.place < 2 ^ 64

-- the number of items, from a count that is read as one more, with 0 for null: null is none, or refused (w: a whole read)
abbrev pub items_of : Bool → Res ℕ → Res ℕ
items_of w (ok zero n) = cond w (bad (because 8 0)) (ok 0 n)
items_of w (ok (suc k) n) = ok k n
items_of w (bad e) = bad e

-- the count of an array, compact or not, with its null
unfoldable pub array_count : Bool → Reader ℕ
array_count f = counted (nullable_items f)

-- the number of its items, where null is none or, in a whole read, refused
unfoldable pub array_items : Bool → Bool → Reader ℕ
array_items f w = item_count w (items f)

-- the byte at place p and m more behind it; none where they are not all there
unfoldable pub front_at : ℕ → ℕ → List ℕ → List ℕ
front_at p m s = cond (ltb p (length s - m)) (take (m + 1) (drop p s)) []
