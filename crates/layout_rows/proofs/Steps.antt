-- What one row says of the list that it is in: laws for a walk over rows, for any row.
use mathlib.Core.Bool.{Bool}
use mathlib.Core.List.{List, [], ◌∷◌}
use mathlib.Core.Path.{◌∙◌, ◌≡◌, ap, refl, sym}
use Prim.Native.Nat.{◌+◌, ◌-◌, ◌<◌, suc, zero, ℕ}
use native.Mathlib.Nat.{add-zero, lt_of_not-le}
use native.Mathlib.Numerals.{add-one}
use native.Mathlib.Omega.{arith}
use lib.ListN.{get_or-eq_default, drop, get_or, length}
use lib.Seq.{drop-cons, get_or-drop}
use Rattle.layout.specs.Rows.{Shape, end, standing, stands}
use Rattle.layout_rows.specs.declared.Kind.{Kind}
use Rattle.layout_rows.specs.declared.Many.{Many}
use Rattle.layout_rows.specs.declared.Row.{Row}
use Rattle.layout_rows.specs.Rows.{row_at, row_count, table}
use Rattle.layout_rows.specs.Shapes.{basic_of, between, listed, maybe_of, shape_of, size_of}

-- ---- a row that is no end is inside the table

abbrev goes_on : Row → ℕ
goes_on (Row.Field k a b) = 1
goes_on (Row.Maybe k d a b) = 1
goes_on (Row.Array z a b t j) = 1
goes_on Row.End = 0

inside : (i : ℕ) → goes_on (row_at i) ≡ 1 → i < length table
inside i e = lt_of_not-le (λ h. omega (arith, e, ap goes_on (get_or-eq_default table Row.End h)))

pub field_inside : (i : ℕ) (k : Kind) (a b : ℕ) → row_at i ≡ Row.Field k a b → i < row_count
unfolding table
field_inside i k a b e = inside i (ap goes_on e)

pub maybe_inside : (i : ℕ) (k : Kind) (d a b : ℕ) → row_at i ≡ Row.Maybe k d a b → i < row_count
unfolding table
maybe_inside i k d a b e = inside i (ap goes_on e)

pub array_inside : (i : ℕ) (z : Many) (a b t j : ℕ) → row_at i ≡ Row.Array z a b t j → i < row_count
unfolding table
array_inside i z a b t j e = inside i (ap goes_on e)

front : (i : ℕ) (r : Row) → goes_on r ≡ 1 → row_at i ≡ r → drop i table ≡ r ∷ drop (i + 1) table
front i r g e = rw (add-one, drop-cons table i Row.End (inside i (ap goes_on e ∙ g)), e)

-- ---- the list from row i on, by its first row. f: does the version have the field?

module _ (c : Bool) (v : ℕ) where
  pub no_levels : (n i : ℕ) → n ≡ 0 → shape_of c v n i ≡ end
  unfolding shape_of
  no_levels zero i e = refl
  no_levels (suc n) i e = absurd (omega (arith, e))

  from_row : (n i : ℕ) → 0 < n → shape_of c v n i ≡ listed c v (shape_of c v (n - 1)) (drop i table)
  unfolding shape_of
  from_row zero i h = absurd (omega arith)
  from_row (suc n) i h = let e : suc n - 1 ≡ n = omega arith in rw e

  ends : (inner : ℕ → Shape) (l : List Row) → get_or l 0 Row.End ≡ Row.End → listed c v inner l ≡ end
  unfolding listed
  ends inner [] e = refl
  ends inner (r ∷ l) e = ap (λ (x : Row). listed c v inner (x ∷ l)) e

  module _ (n i : ℕ) (h : 0 < n) where
    first : (r : Row) → goes_on r ≡ 1 → row_at i ≡ r → shape_of c v n i ≡ listed c v (shape_of c v (n - 1)) (r ∷ drop (i + 1) table)
    first r g e = from_row n i h ∙ ap (listed c v (shape_of c v (n - 1))) (front i r g e)

    pub row_field : (k : Kind) (a b : ℕ) → row_at i ≡ Row.Field k a b → (f : Bool) → f ≡ between a b v → shape_of c v n i ≡ stands f (basic_of c k) (shape_of c v n (i + 1))
    unfolding listed
    row_field k a b e f g = first _ refl e ∙ (λ x. stands (sym g x) (basic_of c k) (sym (from_row n (i + 1) h) x))

    pub row_maybe : (k : Kind) (d a b : ℕ) → row_at i ≡ Row.Maybe k d a b → (f : Bool) → f ≡ between a b v → shape_of c v n i ≡ stands f (maybe_of c k d) (shape_of c v n (i + 1))
    unfolding listed
    row_maybe k d a b e f g = first _ refl e ∙ (λ x. stands (sym g x) (maybe_of c k d) (sym (from_row n (i + 1) h) x))

    pub row_array : (z : Many) (a b t j : ℕ) → row_at i ≡ Row.Array z a b t j → (f : Bool) → f ≡ between a b v → shape_of c v n i ≡ standing f (size_of c z) t (shape_of c v (n - 1) j) (shape_of c v n (i + 1))
    unfolding listed
    row_array z a b t j e f g = first _ refl e ∙ (λ x. standing (sym g x) (size_of c z) t (shape_of c v (n - 1) j) (sym (from_row n (i + 1) h) x))

    pub row_end : row_at i ≡ Row.End → shape_of c v n i ≡ end
    row_end e = from_row n i h ∙ ends _ (drop i table) (rw (get_or-drop, add-zero) e)
