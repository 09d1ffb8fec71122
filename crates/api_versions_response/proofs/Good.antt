-- 13 of a response: what is asked of all tables, each way out of the judgement, and what tables hold that are good.
use mathlib.Core.Bool.{Bool, ◌&&◌, and-false, and-true, cond, false, true}
use mathlib.Core.List.{List, [], ◌∷◌}
use mathlib.Core.Logic.{◌≢◌}
use mathlib.Core.Path.{◌∙◌, ◌≡◌, ap, refl, sym}
use Prim.Native.Nat.{◌+◌, ◌-◌, ◌/◌, ◌<◌, ◌^◌, ◌≤◌, ℕ}
use native.Mathlib.Nat.{add-zero}
use native.Mathlib.Omega.{arith}
use lib.Dec.{eqb, lit<, ltb}
use lib.ListN.{drop, get_or, length}
use lib.Seq.{get_or-drop}
use borrow.Author.Tests.{eq-eqb, ne_eqb}
use Rattle.layout.specs.Primitives.{minus}
use Rattle.layout.specs.Tables.{adds_up, all, arrays, asked, count, from, good, good_cells, good_count, good_row, good_span, kind_in, kind_of, row_width, rows_at, rows_of, sum, width}
use Rattle.layout.proofs.Proper.{both}
use Rattle.layout.proofs.Sums.{sum_eq, sum_zero}
use Rattle.layout.proofs.Tests.{of_eq, of_lt}
use Rattle.layout.proofs.Chunks.{rows_many}
use Rattle.body_writing.proofs.Judged.{all_eq, always}
use Rattle.body_writing.specs.Asked.{all_ranged, ranged, tells, told, told_good}
use Rattle.body_writing.proofs.Counts.{count_good, few_good, few_told, same_test}
use Rattle.tagged_fields.proofs.Tags.{tag_good}
use Rattle.api_versions_response.specs.Shapes.{response_shape}

module _ (size c own : ℕ) (items tags : List ℕ) where
  -- the items' counts, the tags' ranges, and counts that add up
  abbrev asks : Bool
  asks =
      (good_count false c && good_count true own)
      && ((all (told_good true 3) (rows_of 4 items) && all_ranged 3 1 size tags) && (eqb (count c) (length items / 4) && eqb (count own + sum (told 3) (rows_of 4 items)) (length tags / 3)))

  item_good : (r : List ℕ) → (good_count true (get_or (drop 1 (drop 1 (drop 1 r))) 0 0) && true) ≡ told_good true 3 r
  unfolding told_good
  item_good r = and-true _ ∙ ap (good_count true) (get_or-drop 1 (drop 1 (drop 1 r)) 0 0 ∙ get_or-drop 1 (drop 1 r) 1 0 ∙ get_or-drop 1 r 2 0)

  item_told : (r : List ℕ) → count (get_or (drop 1 (drop 1 (drop 1 r))) 0 0) + 0 ≡ told 3 r
  unfolding told
  item_told r = add-zero _ ∙ ap count (get_or-drop 1 (drop 1 (drop 1 r)) 0 0 ∙ get_or-drop 1 (drop 1 r) 1 0 ∙ get_or-drop 1 r 2 0)

  fewer : (x z u v p q : Bool) → ((x && (true && (z && true))) && ((u && (v && true)) && (p && (q && true)))) ≡ ((x && z) && ((u && v) && (p && q)))
  fewer x z u v p q = rw (and-true z, and-true v, and-true q)

  items_add : count c + 0 + (sum (λ (r : List ℕ). 0) (rows_of 4 items) + (sum (λ (r : List ℕ). 0) (rows_of 3 tags) + 0)) ≡ count c
  items_add = omega (arith, sum_zero (λ (r : List ℕ). 0) (λ r. refl) (rows_of 4 items), sum_zero (λ (r : List ℕ). 0) (λ r. refl) (rows_of 3 tags))

  tags_add : 0 + (count own + 0) + (sum (λ (r : List ℕ). count (get_or (drop 1 (drop 1 (drop 1 r))) 0 0) + 0) (rows_of 4 items) + (sum (λ (r : List ℕ). 0) (rows_of 3 tags) + 0)) ≡ count own + sum (told 3) (rows_of 4 items)
  tags_add = omega (arith, sum_eq (λ (r : List ℕ). count (get_or (drop 1 (drop 1 (drop 1 r))) 0 0) + 0) (told 3) item_told (rows_of 4 items), sum_zero (λ (r : List ℕ). 0) (λ r. refl) (rows_of 3 tags))

  -- whatever the error and the throttle time are
  pub is_good : (error k m : ℕ) → good size 2 (response_shape false false) ((error ∷ c ∷ k ∷ m ∷ own ∷ []) ∷ items ∷ tags ∷ []) ≡ asks
  unfolding good all_ranged adds_up all from sum rows_at kind_of kind_in arrays asked good_row good_cells row_width width
  is_good error k m =
      (λ i.
      (good_count false c && (always (eqb k 0) i && (good_count true own && true)))
      && ((all_eq (λ (r : List ℕ). good_count true (get_or (drop 1 (drop 1 (drop 1 r))) 0 0) && true) (told_good true 3) item_good (rows_of 4 items) i && (all_eq (λ (r : List ℕ). good_span size false (drop 1 r) && true) (ranged 1 size) (tag_good size) (rows_of 3 tags) i && true))
      && (eqb (items_add i) (rows_many 4 items i) && (eqb (tags_add i) (rows_many 3 tags i) && true))))
      ∙ fewer (good_count false c) (good_count true own) (all (told_good true 3) (rows_of 4 items)) (all (ranged 1 size) (rows_of 3 tags)) (eqb (count c) (length items / 4)) (eqb (count own + sum (told 3) (rows_of 4 items)) (length tags / 3))

  abbrev pub judged : Bool
  judged = good size 2 (response_shape false false) ((0 ∷ c ∷ 0 ∷ 0 ∷ own ∷ []) ∷ items ∷ tags ∷ [])

  -- ---- each way out

  -- another number of items than there are rows
  pub good_other : c ≢ length items / 4 → false ≡ judged
  unfolding good_count count
  good_other h = go (eqb c minus) refl ∙ sym (is_good 0 0 0)
    where
      go : (b : Bool) → eqb c minus ≡ b → false ≡ asks
      go true e = sym (rw e)
      go false e = sym (rw (e, ne_eqb c (length items / 4) h, and-false (all (told_good true 3) (rows_of 4 items) && all_ranged 3 1 size tags)) (and-false (ltb c (2 ^ 63) && good_count true own)))

  module _ {k : ℕ} (e : k ≡ count own) where
    -- more tags of the body's own than there are rows
    pub good_few : length tags / 3 < k → false ≡ judged
    good_few h =
        sym (is_good 0 0 0 ∙ rw (ne_eqb (count own + sum (told 3) (rows_of 4 items)) (length tags / 3) (λ d. omega arith), and-false (eqb (count c) (length items / 4)), and-false (all (told_good true 3) (rows_of 4 items) && all_ranged 3 1 size tags)) (and-false (good_count false c && good_count true own)))

    module _ (h : c ≡ length items / 4) (l : k ≤ length tags / 3) (r : length tags < 2 ^ 64) (s : length items < 2 ^ 64) where
      shuffle : (a b r : Bool) → ((a && r) && b) ≡ ((a && b) && r)
      shuffle true true r = and-true r
      shuffle true false r = and-false r
      shuffle false b r = refl

      left : judged ≡ (tells true 3 (length tags / 3 - k) (rows_of 4 items) && all_ranged 3 1 size tags)
      unfolding tells
      left =
          is_good 0 0 0
          ∙ rw (count_good own (omega arith), few_good c (omega arith) false, few_told c (omega arith), eq-eqb c (length items / 4) h) (
          ap (λ (b : Bool). (all (told_good true 3) (rows_of 4 items) && all_ranged 3 1 size tags) && b)
          (same_test (count own + sum (told 3) (rows_of 4 items)) (length tags / 3) (sum (told 3) (rows_of 4 items)) (length tags / 3 - k) (λ d. omega arith) (λ d. omega arith))
          ∙ shuffle (all (told_good true 3) (rows_of 4 items)) (eqb (sum (told 3) (rows_of 4 items)) (length tags / 3 - k)) (all_ranged 3 1 size tags))

      pub good_untold : (b : Bool) → b ≡ tells true 3 (length tags / 3 - k) (rows_of 4 items) → b ≡ false → false ≡ judged
      good_untold b i f = sym (left ∙ ap (λ (t : Bool). t && all_ranged 3 1 size tags) (sym i ∙ f))

      pub good_last : (b : Bool) → b ≡ tells true 3 (length tags / 3 - k) (rows_of 4 items) → b ≡ true → (t : Bool) → t ≡ all_ranged 3 1 size tags → t ≡ judged
      good_last b i f t j = j ∙ sym (left ∙ ap (λ (t : Bool). t && all_ranged 3 1 size tags) (sym i ∙ f))

  -- ---- the counts of good tables add up

  module _ (g : judged ≡ true) where
    counted : (eqb (count c) (length items / 4) ≡ true) × (eqb (count own + sum (told 3) (rows_of 4 items)) (length tags / 3) ≡ true)
    counted = both (eqb (count c) (length items / 4)) _ (both (all (told_good true 3) (rows_of 4 items) && all_ranged 3 1 size tags) _ (both (good_count false c && good_count true own) _ (sym (is_good 0 0 0) ∙ g)).1).1

    pub good_own : count own < 2 ^ 63
    unfolding good_count count
    good_own = go (eqb own minus) (both (good_count false c) _ (both (good_count false c && good_count true own) _ (sym (is_good 0 0 0) ∙ g)).0).1
      where
        go : (b : Bool) → cond b true (ltb own (2 ^ 63)) ≡ true → cond b 0 own < 2 ^ 63
        go true h = lit< tt
        go false h = of_lt own (2 ^ 63) h

    pub good_items : count c ≡ length items / 4
    good_items = of_eq (count c) (length items / 4) counted.0

    pub good_tags : count own + sum (told 3) (rows_of 4 items) ≡ length tags / 3
    good_tags = of_eq (count own + sum (told 3) (rows_of 4 items)) (length tags / 3) counted.1

-- no number is given: the tables are good, and their counts add up
pub none_tags : (size c own : ℕ) (items tags : List ℕ) (x : ℕ) {e : ℕ} → e ≡ cond (judged size c own items tags) x 13 → e ≡ 0 → count own + sum (told 3) (rows_of 4 items) ≡ length tags / 3
none_tags size c own items tags x {e} i h = good_tags size c own items tags (go (judged size c own items tags) refl)
  where
    go : (b : Bool) → judged size c own items tags ≡ b → judged size c own items tags ≡ true
    go true g = g
    go false g = absurd (let y : e ≡ 13 = i ∙ rw g in omega arith)
