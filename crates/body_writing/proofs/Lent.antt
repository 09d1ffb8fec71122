-- 13 of a message with one table and with two, as code judges it: the own row's count, the rows' ranges, and counts that add up. For any layout.
use mathlib.Core.Bool.{Bool, ◌&&◌, and-false, and-true, cond, false, true}
use mathlib.Core.List.{List, [], ◌∷◌}
use mathlib.Core.Logic.{◌≢◌}
use mathlib.Core.Path.{◌∙◌, ◌≡◌, ap, ap₂, refl, sym}
use Prim.Native.Nat.{◌*◌, ◌+◌, ◌/◌, ◌<◌, ◌^◌, ℕ}
use native.Mathlib.Nat.{add-zero}
use native.Mathlib.Omega.{arith}
use lib.Dec.{eqb, ltb}
use lib.ListN.{get_or, length}
use lib.Seq.{get_or-take}
use borrow.Author.Tests.{eq-eqb, ne_eqb}
use Rattle.layout.specs.Primitives.{fixed, minus, never, w16}
use Rattle.layout.specs.Rows.{Shape, end, field, text}
use Rattle.layout.specs.Tables.{adds_up, all, asked, basic_of, count, from, good, good_count, good_row, kind_of, pop, row_width, rows_at, rows_of, slice, span_of, sum, value_of, width}
use Rattle.layout.specs.Write.{basic_fault, fault, sized_fault, too_long}
use Rattle.layout.proofs.Sums.{sum_eq, sum_zero}
use Rattle.body_writing.specs.Writes.{fault_at, row_fault}
use Rattle.layout.proofs.Chunks.{row_cell, rows_many}
use Rattle.body_writing.proofs.Faults.{or_none}
use Rattle.body_writing.proofs.Judged.{all_both, all_eq}
use Rattle.body_writing.proofs.Counts.{few_good, few_told}
use Rattle.body_writing.specs.Asked.{all_ranged, ranged, string_fault, tells, told, told_good}

-- one table, whose rows have a range and no counts. x is what is asked of the own row, and c what it tells
module _ (size : ℕ) (l i : Shape) (w at c : ℕ) (x : Bool) (own items : List ℕ) (kind : kind_of 1 l ≡ i) (wide : row_width i ≡ w)
    (own_good : good_row size l own ≡ x) (own_told : asked 1 l own ≡ c) (row-good : (r : List ℕ) → good_row size i r ≡ ranged at size r) (none_told : (r : List ℕ) → asked 1 i r ≡ 0) where
  pub good_one : good size 1 l (own ∷ items ∷ []) ≡ (x && (all_ranged w at size items && eqb c (length items / w)))
  unfolding good all_ranged adds_up all from sum rows_at
  good_one =
      rw (kind, wide, own_good, own_told, rows_many w items, sum_zero (asked 1 i) none_told (rows_of w items), all_eq (good_row size i) (ranged at size) row-good (rows_of w items), and-true (all (ranged at size) (rows_of w items)), add-zero c)
      (ap (λ (b : Bool). x && (all (ranged at size) (rows_of w items) && b)) (and-true (eqb c (length items / w))))

pub all_true : (rs : List (List ℕ)) → all (λ r. true) rs ≡ true
unfolding all
all_true [] = refl
all_true (r ∷ rs) = all_true rs

-- two tables: the rows of the first have a range and a count of rows of the second, which have none. y is what is asked of these
module _ (size : ℕ) (l i j : Shape) (w v at n c : ℕ) (b x y : Bool) (own items others : List ℕ) (kind : kind_of 1 l ≡ i) (item-kind : kind_of 2 l ≡ j) (wide : row_width i ≡ w) (item-wide : row_width j ≡ v)
    (own_good : good_row size l own ≡ x) (own_told : asked 1 l own ≡ c) (own-none : asked 2 l own ≡ 0)
    (row-good : (r : List ℕ) → good_row size i r ≡ (ranged at size r && told_good b n r)) (row_told : (r : List ℕ) → asked 2 i r ≡ told n r) (row_none : (r : List ℕ) → asked 1 i r ≡ 0)
    (item_good : all (good_row size j) (rows_of v others) ≡ y) (item-none : (r : List ℕ) → asked 1 j r ≡ 0) (item-none' : (r : List ℕ) → asked 2 j r ≡ 0) where
  shuffle : (x u t y p q : Bool) → (x && (((u && t) && (y && true)) && (p && (q && true)))) ≡ (x && (p && ((t && q) && (u && y))))
  shuffle false u t y p q = refl
  shuffle true false t y p q = sym (rw (and-false (t && q)) (and-false p))
  shuffle true true false y p q = sym (and-false p)
  shuffle true true true false p q = sym (rw (and-false q) (and-false p))
  shuffle true true true true p q = ap (λ (z : Bool). p && z) refl

  first : asked 1 l own + (sum (asked 1 i) (rows_of w items) + (sum (asked 1 j) (rows_of v others) + 0)) ≡ c
  first = omega (arith, own_told, sum_zero (asked 1 i) row_none (rows_of w items), sum_zero (asked 1 j) item-none (rows_of v others))

  second : asked 2 l own + (sum (asked 2 i) (rows_of w items) + (sum (asked 2 j) (rows_of v others) + 0)) ≡ sum (told n) (rows_of w items)
  second = omega (arith, own-none, sum_eq (asked 2 i) (told n) row_told (rows_of w items), sum_zero (asked 2 j) item-none' (rows_of v others))

  pub good_two : good size 2 l (own ∷ items ∷ others ∷ []) ≡ (x && (eqb c (length items / w) && (tells b n (length others / v) (rows_of w items) && (all_ranged w at size items && y))))
  unfolding good all_ranged tells adds_up all from sum rows_at
  good_two =
      rw (kind, item-kind, wide, item-wide, own_good, first, second, rows_many w items, rows_many v others, item_good, all_eq (good_row size i) (λ r. ranged at size r && told_good b n r) row-good (rows_of w items), all_both (ranged at size) (told_good b n) (rows_of w items))
      (shuffle x (all (ranged at size) (rows_of w items)) (all (told_good b n) (rows_of w items)) y (eqb c (length items / w)) (eqb (sum (told n) (rows_of w items)) (length others / v)))

-- an own row whose count may not be −1, and t, what else is asked
module _ (c n : ℕ) (t : Bool) where
  pub rows_differ : c ≢ n → false ≡ (good_count false c && (eqb (count c) n && t))
  unfolding good_count count
  rows_differ h = go (eqb c minus) refl
    where
      go : (b : Bool) → eqb c minus ≡ b → false ≡ (cond b false (ltb c (2 ^ 63)) && (eqb (cond b 0 c) n && t))
      go true e = refl
      go false e = sym (rw (ne_eqb c n h) (and-false (ltb c (2 ^ 63))))

  pub rows_agree : c ≡ n → n < 2 ^ 63 → (good_count false c && (eqb (count c) n && t)) ≡ t
  rows_agree h s = rw (few_good c (omega arith) false, few_told c (omega arith), eq-eqb c n h)

-- ---- a row that is a STRING

module _ (lent : List ℕ) where
  pub string_fault_lem : (r : List ℕ) → row_fault lent (field (text (fixed w16 never)) end) r ≡ string_fault (slice lent (get_or r 0 0, get_or r 1 0))
  unfolding row_fault fault_at fault basic_fault sized_fault too_long value_of pop width basic_of span_of string_fault
  string_fault_lem r = or_none _ ∙ ap₂ (λ (a b : ℕ). string_fault (slice lent (a, b))) (get_or-take 2 r 0 0 (omega arith)) (get_or-take 2 r 1 0 (omega arith))

  -- that of row i of a table
  pub string_told : (w : ℕ) → 1 < w → (table : List ℕ) (i : ℕ) → i < length table / w → (x : List ℕ) → x ≡ slice lent (get_or table (i * w) 0, get_or table (i * w + 1) 0) → (e : ℕ) → e ≡ string_fault x →
      e ≡ row_fault lent (field (text (fixed w16 never)) end) (get_or (rows_of w table) i [])
  string_told w v table i h x j e d =
      d
      ∙ ap string_fault (j ∙ sym (ap₂ (λ (a b : ℕ). slice lent (a, b)) (row_cell w table i h 0 (omega arith) ∙ ap (λ (k : ℕ). get_or table k 0) (add-zero (i * w))) (row_cell w table i h 1 v)))
      ∙ sym (string_fault_lem (get_or (rows_of w table) i []))
