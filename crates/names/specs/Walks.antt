-- What a walk to the field in which a place lies answers, in the definition's words. Assumes nothing.
use Rattle.std.specs.Prelude.{◌≡◌, ℕ, zero, suc, false, cond, List, nat_lt, slice_index, Result, Ok, Err, Some, None, Option as Maybe}
use Rattle.std.specs.Borrow.{MutBor}
use Rattle.std.proofs.Math.Option.{Option, none, some}
use Rattle.layout.specs.Reading.{Reader, Refusal, Res, bad, naming, nowhere, ok}
use Rattle.layout.specs.Read.{by_place, read_basic}
use Rattle.layout.specs.Primitives.{Width, w16, w32, w64}
use Rattle.layout.specs.Rows.{Basic, Shape, end, field, number}
use Rattle.layout.specs.Names.{begun, found, seek}
use Rattle.body_reading.specs.Walk.{on}
use Rattle.primitives.specs.declared.Taken.{Taken}
use Rattle.names.specs.declared.Found.{Found}
use Rattle.names.specs.declared.Named.{Named}
use Rattle.names.specs.declared.runs.Element.{Element}

-- the place after a field, if it is not refused
abbrev pub extent : {A : Type 0} → Res A → Option ℕ
extent (ok x n) = some n
extent (bad e) = none

-- and if q is not in front of it
abbrev pub up_to : ℕ → Option ℕ → Option ℕ
up_to q none = none
up_to q (some n) = cond (nat_lt q n) none (some n)

unfoldable pub ends : ℕ → Basic → List ℕ → ℕ → Option ℕ
ends q k s p = up_to q (extent (on (read_basic (by_place false) k) s p))

abbrev pub of_passed : Maybe ℕ → Option ℕ
of_passed (Some n) = some n
of_passed None = none

-- what was read, as the number of an array's elements, and the place after it
abbrev pub count_up_to : {A : Type 0} → ℕ → Res A → Option (A × ℕ)
count_up_to q (ok k n) = cond (nat_lt q n) none (some (k, n))
count_up_to q (bad e) = none

abbrev pub of_counted : {A : Type 0} → Maybe (Taken A) → Option (A × ℕ)
of_counted (Some t) = some (t.value, t.next)
of_counted None = none

-- the next row of table t, and one more that is begun
pub record Begins (t : ℕ) (before after : List ℕ) (r : ℕ) : Type 0 where
  pub row : r ≡ slice_index before t
  pub counted : after ≡ begun t before

-- j rows of table t, one after the other
unfoldable pub many_begun : ℕ → ℕ → List ℕ → List ℕ
many_begun zero t c = c
many_begun (suc j) t c = many_begun j t (begun t c)

-- one element of an array: a row of table t, of which c counts those begun
unfoldable pub element : ℕ → Shape → ℕ → List ℕ → Reader (List ℕ)
element q l t c = seek q l (slice_index c t) 0 (begun t c)

-- the row and the field that a walk came to
abbrev pub lies : Res (List ℕ) → Option (ℕ × ℕ)
lies (bad x) = some (x.row, x.field)
lies (ok c n) = none

-- the place after all that was walked over, or the field that was found
abbrev pub Sought : Type 0
Sought = Result ℕ Found

abbrev pub found_at : ℕ → ℕ → Sought
found_at y f = Err (record { row = y; field = f })

-- c: how many rows of each table were begun
abbrev pub of_sought : List ℕ → Sought → Res (List ℕ)
of_sought c (Err x) = bad (found x.row x.field)
of_sought c (Ok n) = ok c n

-- the refusal e of message m, at a row and a field or at none
abbrev pub named_by : ℕ → Refusal → Option (ℕ × ℕ) → Refusal
named_by m e (some x) = naming m x.0 x.1 e
named_by m e none = naming m nowhere nowhere e

-- a row with no arrays in it: whatever rows were begun
pub record Flat (q : ℕ) (l : Shape) (row : ℕ) (s : List ℕ) (p : ℕ) (r : Sought) : Type 0 where
  pub law : (c : List ℕ) → of_sought c r ≡ on (seek q l row 0 c) s p

-- what is made of each element, by its place and its row: a walk over the row's layout
pub record Each (q : ℕ) (l : Shape) (s : List ℕ) (step : ℕ → ℕ → MutBor (List ℕ) → Sought → MutBor (List ℕ) → Type 0) : Type 0 where
  pub law : (n row : ℕ) (c : MutBor (List ℕ)) (r : Sought) (d : MutBor (List ℕ)) → step n row c r d → of_sought d.now r ≡ on (seek q l row 0 c.now) s n

-- k numbers of one width
unfoldable pub numbers : ℕ → Width → Shape
numbers zero w = end
numbers (suc k) w = field (number w) (numbers k w)

abbrev pub numbers_of : Element → ℕ
numbers_of Element.Int32 = 1
numbers_of Element.Int64Pair = 2
numbers_of Element.Int16Triple = 3

abbrev pub width_of : Element → Width
width_of Element.Int32 = w32
width_of Element.Int64Pair = w64
width_of Element.Int16Triple = w16

abbrev pub element_shape : Element → Shape
element_shape x = numbers (numbers_of x) (width_of x)

abbrev pub of_named : Named → Refusal
of_named r = record { number = r.number; place = r.place; need = r.need; message = r.message; row = r.row; field = r.field }
