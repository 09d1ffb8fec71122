-- The walk to the first field that has a fault, step by step: a field, an array, a row in two parts, rows with no arrays, and the loop over these.
use mathlib.Core.Bool.{Bool, cond, false, true}
use mathlib.Core.List.{List, [], ◌∷◌, map}
use mathlib.Core.Logic.{◌≢◌}
use mathlib.Core.Option.{none, some}
use mathlib.Core.Path.{◌∙◌, ◌≡◌, ap, refl, sym}
use Prim.Native.Nat.{◌+◌, ◌-◌, ◌/◌, ◌<◌, ◌^◌, ◌≤◌, suc, ℕ}
use native.Mathlib.Nat.{add-zero}
use native.Mathlib.Numerals.{add-one}
use native.Mathlib.Omega.{arith}
use lib.Dec.{eqb}
use lib.ListN.{drop, drop_of_length-le, get_or, length, set, take}
use lib.Seq.{drop-cons, drop-drop, get_or-drop, get_or-take}
use borrow.Author.Tests.{eq-eqb, ne_eqb}
use Rattle.layout.specs.Names.{Sought, begun, blame, blame_each, blame_items, else, past, there}
use Rattle.layout.specs.Primitives.{Size, Width, bits, holds, keeps, minus}
use Rattle.layout.specs.Rows.{Basic, Shape, Value, absent, array, end, field, lacking, number}
use Rattle.layout.specs.Tables.{Tables, basic_of, chunks, count, items_of, pop, row_width, rows_of, times, value_of, width}
use Rattle.layout.specs.Write.{basic_fault, fault, too_long, unless}
use Rattle.layout.proofs.Chunks.{rows_many}
use Rattle.layout.proofs.Tests.{by_test}
use Rattle.primitives_put.specs.Answers.{within}
use Rattle.primitives_put.proofs.Carried.{is_held}
use Rattle.body_reading.proofs.Front.{Flat, onto}
use Rattle.std.specs.Prelude.{Ok, Err}
use Rattle.names.specs.declared.Found.{Found}
use Rattle.body_writing.specs.Blames.{Blamed, blame_at, items_blame, of_blamed, row_blame, rows_blame}
use Rattle.body_writing.specs.Writes.{fault_at, row_fault}
use Rattle.body_writing.proofs.Faults.{or_none}
use Rattle.body_writing.proofs.Writes.{flat_items, flat_own, row_value, some_fault}

-- ---- one part after another

-- nothing follows
pub else_past : (s : Sought) → else s (λ d. past d) ≡ s
else_past (there row f) = refl
else_past (past c) = refl

-- two walks that go on alike
pub else_same : (s : Sought) (g h : List ℕ → Sought) → ((d : List ℕ) → g d ≡ h d) → else s g ≡ else s h
else_same s g h e = λ i. else s (λ d. e d i)

-- ---- a row's fields

-- how many the version has
unfoldable pub fields_of : Shape → ℕ
fields_of end = 0
fields_of (field k r) = suc (fields_of r)
fields_of (absent k r) = fields_of r
fields_of (array z t i r) = suc (fields_of r)
fields_of (lacking z t i r) = fields_of r

module _ (lent : List ℕ) (e row f : ℕ) (c : List ℕ) (o : ℕ) (st : Tables) where
  -- the next field, and the cells after it
  module _ (k : Basic) (r : Shape) where
    abbrev after : Tables
    after = set st o (drop (width k) (get_or st o []))

    pub absent_blame : blame_at lent e (absent k r) o st row f c ≡ blame_at lent e r o after row f c
    unfolding blame_at blame value_of pop
    absent_blame = refl

    module _ (n : ℕ) (h : n ≡ basic_fault k (basic_of lent k (take (width k) (get_or st o [])))) where
      pub field_here : n ≡ e → there row f ≡ blame_at lent e (field k r) o st row f c
      unfolding blame_at blame value_of pop
      field_here g = sym (rw (eq-eqb (basic_fault k (basic_of lent k (take (width k) (get_or st o [])))) e (sym h ∙ g)))

      pub field_next : n ≢ e → blame_at lent e (field k r) o st row f c ≡ blame_at lent e r o after row (suc f) c
      unfolding blame_at blame value_of pop
      field_next g = rw (ne_eqb (basic_fault k (basic_of lent k (take (width k) (get_or st o [])))) e (λ d. g (h ∙ d)))

  -- ---- an array, whose count is the next cell, and what follows it in its row

  module _ (z : Size) (t : ℕ) (i r : Shape) where
    abbrev cell : ℕ
    cell = get_or (get_or st o []) 0 0

    -- the tables after the count
    abbrev su : Tables
    su = set st o (drop 1 (get_or st o []))

    -- null has no items
    some_items : (b : Bool) → blame_items b (λ j d y. blame e i j 0 d y) t (items_of b cell (value_of lent i t) su).0 c ≡ items_blame lent e i (count cell) t su c
    unfolding blame_items blame_each items_of count times items_blame
    some_items false = refl
    some_items true = go (eqb cell minus)
      where
        go : (b : Bool) → blame_items true (λ j d y. blame e i j 0 d y) t (cond b none (some (times (cond b 0 cell) (value_of lent i t) su).0)) c ≡ blame_each (λ j d y. blame e i j 0 d y) t (times (cond b 0 cell) (value_of lent i t) su).0 c
        go true = refl
        go false = refl

    pub array_blame : too_long z (count cell) ≢ e → blame_at lent e (array z t i r) o st row f c ≡ else (items_blame lent e i (count cell) t su c) (λ d. blame_at lent e r o (value_of lent (array z t i end) o st).1 row (suc f) d)
    unfolding blame_at blame value_of pop
    array_blame g =
        let first : get_or (take 1 (get_or st o [])) 0 0 ≡ cell = get_or-take 1 (get_or st o []) 0 0 (omega arith) in
        rw (first, some_fault lent z (value_of lent i t) cell su (keeps z) (λ xs. 0) refl, or_none (too_long z (count cell)), ne_eqb (too_long z (count cell)) e g, some_items (keeps z))

-- ---- a row with no arrays: its cells alone decide, and it leaves the counts as they were

module _ (lent : List ℕ) (e : ℕ) where
  pub flat_blame : (l : Shape) → Flat l → (o : ℕ) (st : Tables) → o < length st → (row f : ℕ) (c : List ℕ) → blame_at lent e l o st row f c ≡ row_blame lent e l row f c (get_or st o [])
  unfolding blame_at row_blame
  flat_blame l h o st i row f c = ap (blame e l row f c) (flat_own lent l h o st i)

  -- a field, or the counts c
  abbrev recount : List ℕ → Sought → Sought
  recount c (there row f) = there row f
  recount c (past d) = past c

  flat_counts : (l : Shape) → Flat l → (row f : ℕ) (c : List ℕ) (x : Value (List ℕ) l) → blame e l row f c x ≡ recount c (blame e l row f [] x)
  unfolding blame
  flat_counts end h row f c x = refl
  flat_counts (field k r) h row f c x = by_test (eqb (basic_fault k x.0) e) (λ t. rw t) (λ t. rw t (flat_counts r h row (suc f) c x.1))
  flat_counts (absent k r) h row f c x = flat_counts r h row f c x
  flat_counts (array z t i r) h row f c x = absurd h
  flat_counts (lacking z t i r) h row f c x = flat_counts r h row f c x

  pub any_counts : (l : Shape) → Flat l → (row f : ℕ) (cells : List ℕ) (x : Blamed) → of_blamed [] x ≡ row_blame lent e l row f [] cells → (c : List ℕ) → of_blamed c x ≡ row_blame lent e l row f c cells
  unfolding row_blame blame_at
  any_counts l h row f cells x g c = as_counted x ∙ ap (recount c) g ∙ sym (flat_counts l h row f c (row_value lent l cells))
    where
      as_counted : (x : Blamed) → of_blamed c x ≡ recount c (of_blamed [] x)
      as_counted (Err a) = refl
      as_counted (Ok u) = refl

  -- ---- a row in two parts, the first with no arrays

  pub joined_blame : (r l : Shape) → Flat l → (o : ℕ) (st : Tables) (row f : ℕ) (c : List ℕ) → blame_at lent e (onto l r) o st row f c ≡ else (blame_at lent e l o st row f c) (λ d. blame_at lent e r o (value_of lent l o st).1 row (f + fields_of l) d)
  unfolding blame_at blame value_of fields_of
  joined_blame r end h o st row f c = let none : f ≡ f + 0 = omega arith in ap (λ (j : ℕ). blame_at lent e r o st row j c) none
  joined_blame r (field k l) h o st row f c =
      let next : suc f + fields_of l ≡ f + suc (fields_of l) = omega arith in
      let su : Tables = (pop o (width k) st).1 in
      by_test (eqb (basic_fault k (basic_of lent k (pop o (width k) st).0)) e) (λ t. rw t)
      (λ t. rw t (joined_blame r l h o su row (suc f) c ∙ ap (λ (j : ℕ). else (blame_at lent e l o su row (suc f) c) (λ d. blame_at lent e r o (value_of lent l o su).1 row j d)) next))
  joined_blame r (absent k l) h o st row f c = joined_blame r l h o (pop o (width k) st).1 row f c
  joined_blame r (array z t i l) h o st row f c = absurd h
  joined_blame r (lacking z t i l) h o st row f c = joined_blame r l h o (pop o 1 st).1 row f c

  -- ---- rows with no arrays, one after the other

  -- values that are each made of a row
  each_made : {A : Type 0} (g : ℕ → List ℕ → A → Sought) (m : List ℕ → A) (t : ℕ) (rs : List (List ℕ)) (c : List ℕ) → blame_each g t (map m rs) c ≡ blame_each (λ j d r. g j d (m r)) t rs c
  unfolding blame_each
  each_made g m t [] c = refl
  each_made g m t (r ∷ rs) c = else_same (g (get_or c t 0) (begun t c) (m r)) _ _ (each_made g m t rs)

  pub items_blame_lem : (l : Shape) → Flat l → (w : ℕ) → row_width l ≡ w → (n t : ℕ) (st : Tables) → t < length st → (c : List ℕ) → items_blame lent e l n t st c ≡ blame_each (λ j d r. row_blame lent e l j 0 d r) t (chunks n w (get_or st t [])) c
  unfolding items_blame row_blame blame_at
  items_blame_lem l h w q n t st i c =
      ap (λ (x : List (Value (List ℕ) l) × Tables). blame_each (λ j d y. blame e l j 0 d y) t x.0 c) (flat_items lent l h w q n t st i)
      ∙ each_made (λ j d y. blame e l j 0 d y) (row_value lent l) t (chunks n w (get_or st t [])) c

  -- a row that is one field
  module _ (k : Basic) (row f : ℕ) (c r : List ℕ) (n : ℕ) (h : n ≡ row_fault lent (field k end) r) where
    only_fault : n ≡ basic_fault k (basic_of lent k (take (width k) r))
    unfolding row_fault fault_at fault value_of pop
    only_fault = h ∙ or_none _

    pub only_here : n ≡ e → there row f ≡ row_blame lent e (field k end) row f c r
    unfolding row_blame
    only_here g = field_here lent e row f c 0 (r ∷ []) k end n only_fault g

    pub only_past : n ≢ e → past c ≡ row_blame lent e (field k end) row f c r
    unfolding row_blame blame_at blame
    only_past g = sym (field_next lent e row f c 0 (r ∷ []) k end n only_fault g)

  -- a number, after j other cells of its row
  module _ (row f : ℕ) (c r : List ℕ) (j : ℕ) (w : Width) (l : Shape) (n : ℕ) (h : n ≡ unless (within (2 ^ (bits w - 1)) (get_or r j 0)) 11) where
    number_fault : n ≡ basic_fault (number w) (basic_of lent (number w) (take (width (number w)) (drop j r)))
    unfolding basic_fault basic_of width
    number_fault =
        let cell : get_or (take 1 (drop j r)) 0 0 ≡ get_or r j 0 = get_or-take 1 (drop j r) 0 0 (omega arith) ∙ get_or-drop j r 0 0 ∙ ap (λ (i : ℕ). get_or r i 0) (add-zero j) in
        h ∙ ap (λ (b : Bool). unless b 11) (is_held w (get_or r j 0) ∙ ap (holds w) (sym cell))

    pub number_here : n ≡ e → there row f ≡ row_blame lent e (field (number w) l) row f c (drop j r)
    unfolding row_blame
    number_here g = field_here lent e row f c 0 (drop j r ∷ []) (number w) l n number_fault g

    pub number_next : n ≢ e → row_blame lent e (field (number w) l) row f c (drop j r) ≡ row_blame lent e l row (suc f) c (drop (j + 1) r)
    unfolding row_blame width
    number_next g = field_next lent e row f c 0 (drop j r ∷ []) (number w) l n number_fault g ∙ ap (λ (x : List ℕ). blame_at lent e l 0 (x ∷ []) row (suc f) c) (drop-drop 1 j r)

  -- ---- the loop over such rows: the first i do not have the fault, and those left decide

  module _ (l : Shape) (w t : ℕ) (table k₀ : List ℕ) where
    pub record Searched (i : ℕ) (k : List ℕ) : Type 0 where
      pub below : i ≤ length table / w
      pub same : blame_each (λ j d r. row_blame lent e l j 0 d r) t (drop i (rows_of w table)) k ≡ rows_blame lent e l w t table k₀

    pub searched_start : Searched 0 k₀
    unfolding rows_blame
    searched_start = record { below = omega arith; same = refl }

    module _ (i : ℕ) (k : List ℕ) (a : Searched i k) where
      pub searched_end : length table / w ≤ i → past k ≡ rows_blame lent e l w t table k₀
      unfolding blame_each
      searched_end h = sym (rw (drop_of_length-le (rows_of w table) {i = i} (omega (arith, rows_many w table)))) ∙ a.same

      -- the next row
      module _ (h : i < length table / w) (row : ℕ) (g : row ≡ get_or k t 0) (k₁ : List ℕ) (d : k₁ ≡ begun t k) where
        split : else (row_blame lent e l row 0 k₁ (get_or (rows_of w table) i [])) (blame_each (λ j d r. row_blame lent e l j 0 d r) t (drop (suc i) (rows_of w table))) ≡ rows_blame lent e l w t table k₀
        unfolding blame_each
        split =
            (λ s. else (row_blame lent e l (g s) 0 (d s) (get_or (rows_of w table) i [])) (blame_each (λ j d r. row_blame lent e l j 0 d r) t (drop (suc i) (rows_of w table))))
            ∙ sym (rw (drop-cons (rows_of w table) i [] (omega (arith, rows_many w table))))
            ∙ a.same

        pub searched_found : (y f : ℕ) → there y f ≡ row_blame lent e l row 0 k₁ (get_or (rows_of w table) i []) → there y f ≡ rows_blame lent e l w t table k₀
        searched_found y f p = ap (λ (s : Sought). else s (blame_each (λ j d r. row_blame lent e l j 0 d r) t (drop (suc i) (rows_of w table)))) p ∙ split

        pub searched_more : past k₁ ≡ row_blame lent e l row 0 k₁ (get_or (rows_of w table) i []) → Searched (i + 1) k₁
        searched_more p = record {
          below = omega arith;
          same =
              ap (λ (j : ℕ). blame_each (λ j d r. row_blame lent e l j 0 d r) t (drop j (rows_of w table)) k₁) (add-one i)
              ∙ ap (λ (s : Sought). else s (blame_each (λ j d r. row_blame lent e l j 0 d r) t (drop (suc i) (rows_of w table)))) p
              ∙ split;
        }

        -- as a function of the row answers it
        module _ (flat : Flat l) (x : Blamed) (u : of_blamed [] x ≡ row_blame lent e l row 0 [] (get_or (rows_of w table) i [])) where
          pub flat_found : (a : Found) → x ≡ Err a → there a.row a.field ≡ rows_blame lent e l w t table k₀
          flat_found a p = searched_found a.row a.field (sym (ap (of_blamed k₁) p) ∙ any_counts l flat row 0 (get_or (rows_of w table) i []) x u k₁)

          pub flat_more : (v : Unit {0}) → x ≡ Ok v → Searched (i + 1) k₁
          flat_more v p = searched_more (sym (ap (of_blamed k₁) p) ∙ any_counts l flat row 0 (get_or (rows_of w table) i []) x u k₁)
