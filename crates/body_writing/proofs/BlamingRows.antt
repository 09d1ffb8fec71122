-- The walk to the first field that has a fault, over rows of one table that each take rows of another from its front, as topics take partitions: such a row, and the loop over them.
use mathlib.Core.List.{List, [], ◌∷◌}
use mathlib.Core.Logic.{◌≢◌}
use mathlib.Core.Path.{◌∙◌, ◌≡◌, ap, ap₂, refl, sym}
use Prim.Native.Nat.{◌+◌, ◌-◌, ◌/◌, ◌<◌, ◌≤◌, suc, ℕ}
use native.Mathlib.Nat.{div-eq_of_lt, div-eq-sub-div}
use native.Mathlib.Numerals.{add-one}
use native.Mathlib.Omega.{arith}
use lib.Dec.{lit<}
use lib.ListN.{drop, get_or, length, length-drop, take}
use lib.Seq.{take_all}
use Rattle.layout.specs.Names.{Sought, begun, blame, blame_each, else, past, there}
use Rattle.layout.specs.Rows.{array, end}
use Rattle.layout.specs.Tables.{Tables, chunks, count, rows_of, sum, times, value_of}
use Rattle.layout.specs.Write.{too_long}
use Rattle.std.specs.Prelude.{Ok, Err}
use Rattle.names.specs.declared.Found.{Found}
use Rattle.body_writing.specs.Blames.{Blamed, blame_at, items_blame, of_blamed, row_blame, rows_blame}
use Rattle.body_writing.specs.Writes.{takes}
use Rattle.body_writing.proofs.Blaming.{array_blame, else_past, else_same, fields_of, flat_blame, items_blame_lem, joined_blame}
use Rattle.body_writing.proofs.Nested.{Enough, Nest, count_cell_lem, enough_here, enough_more, enough_start, fields_left, nest, one, taken_rows, takes_first}

module _ (x : Nest) (lent : List ℕ) (e : ℕ) where
  abbrev n : ℕ
  n = x.before

  abbrev w : ℕ
  w = x.wide

  -- ---- a row: its fields, and then the rows that it takes

  module _ (items others : List ℕ) (v : 0 < w) (k : takes w n items ≤ length others) (short : too_long x.size (count (get_or items n 0)) ≢ e) where
    -- the rows that it takes
    items_taken : (row f : ℕ) (c : List ℕ) → blame_at lent e (array x.size 2 x.item end) 1 (value_of lent x.fields 1 ([] ∷ items ∷ others ∷ [])).1 row f c ≡ rows_blame lent e x.item w 2 (take (takes w n items) others) c
    unfolding rows_blame blame_at blame
    items_taken row f c =
        let z = x.size in
        let i = x.item in
        let cell = count_cell_lem lent z i x.flat_item w x.is_wide x.fields x.flat_fields n x.is_before items others in
        ap (λ (st : Tables). blame_at lent e (array z 2 i end) 1 st row f c) (fields_left lent z i x.flat_item w x.is_wide x.fields x.flat_fields n x.is_before items others)
        ∙ array_blame lent e row f c 1 ([] ∷ drop n items ∷ others ∷ []) z 2 i end (λ d. short (ap (λ (j : ℕ). too_long z (count j)) (sym cell) ∙ d))
        ∙ else_past _
        ∙ items_blame_lem lent e i x.flat_item w x.is_wide (count (get_or (drop n items) 0 0)) 2 ([] ∷ drop 1 (drop n items) ∷ others ∷ []) (lit< tt) c
        ∙ ap (λ (j : ℕ). blame_each (λ j d r. row_blame lent e i j 0 d r) 2 (chunks (count j) w others) c) cell
        ∙ ap (λ (rs : List (List ℕ)). blame_each (λ j d r. row_blame lent e i j 0 d r) 2 rs c) (sym (taken_rows lent z i x.flat_item w x.is_wide x.fields x.flat_fields n x.is_before items others v k))

    pub row_blame_lem : (row : ℕ) (c : List ℕ) → blame_at lent e (nest x) 1 ([] ∷ items ∷ others ∷ []) row 0 c ≡ else (row_blame lent e x.fields row 0 c items) (λ d. rows_blame lent e x.item w 2 (take (takes w n items) others) d)
    row_blame_lem row c =
        joined_blame lent e (array x.size 2 x.item end) x.fields x.flat_fields 1 ([] ∷ items ∷ others ∷ []) row 0 c
        ∙ ap (λ (s : Sought). else s (λ d. blame_at lent e (array x.size 2 x.item end) 1 (value_of lent x.fields 1 ([] ∷ items ∷ others ∷ [])).1 row (0 + fields_of x.fields) d)) (flat_blame lent e x.fields x.flat_fields 1 ([] ∷ items ∷ others ∷ []) (lit< tt) row 0 c)
        ∙ else_same (row_blame lent e x.fields row 0 c items) _ _ (items_taken row (0 + fields_of x.fields))

  -- ---- such rows one by one: `left` and `free` are what is left of the tables

  module _ (items others k₀ : List ℕ) where
    abbrev rest : List ℕ → List ℕ → List ℕ → Sought
    rest left free k = items_blame lent e (nest x) (length left / suc n) 1 ([] ∷ left ∷ free ∷ []) k

    -- no row so far has the fault, and those left decide
    pub record Searching (left free k : List ℕ) : Type 0 where
      pub same : rest left free k ≡ rest items others k₀
      pub room : Enough (suc n) (takes w n) others left free

    pub searching_start : sum (takes w n) (rows_of (suc n) items) ≤ length others → Searching items others k₀
    searching_start h = record { same = refl; room = enough_start (suc n) (takes w n) others items h }

    module _ {left free k : List ℕ} (a : Searching left free k) where
      pub searching_end : length left < suc n → past k ≡ rest items others k₀
      unfolding items_blame times blame_each
      searching_end h = sym (rw (div-eq_of_lt h)) ∙ a.same

      module _ (h : suc n ≤ length left) where
        pub searching_enough : takes w n left ≤ length free
        searching_enough = enough_here (suc n) (takes w n) others (omega arith) (takes_first x lent) a.room h

        module _ (row : ℕ) (g : row ≡ get_or k 1 0) (k₁ : List ℕ) (d : k₁ ≡ begun 1 k) where
          split : else (blame_at lent e (nest x) 1 ([] ∷ left ∷ free ∷ []) row 0 k₁) (λ c. rest (drop (suc n) left) (drop (takes w n left) free) c) ≡ rest items others k₀
          unfolding items_blame blame_at times blame_each
          split =
              let next : length left / suc n ≡ suc (length (drop (suc n) left) / suc n) = div-eq-sub-div (omega arith) h ∙ add-one ((length left - suc n) / suc n) ∙ ap (λ (j : ℕ). suc (j / suc n)) (sym (length-drop (suc n) left)) in
              (λ s. else (blame_at lent e (nest x) 1 ([] ∷ left ∷ free ∷ []) (g s) 0 (d s)) (λ c. rest (drop (suc n) left) (drop (takes w n left) free) c))
              ∙ sym (rw (next, one x lent [] left free))
              ∙ a.same

          -- what the walk over the next row came to
          module _ (k₂ : List ℕ) (y : Blamed) (p : of_blamed k₂ y ≡ blame_at lent e (nest x) 1 ([] ∷ left ∷ free ∷ []) row 0 k₁) where
            onward : else (of_blamed k₂ y) (λ c. rest (drop (suc n) left) (drop (takes w n left) free) c) ≡ rest items others k₀
            onward = ap (λ (s : Sought). else s (λ c. rest (drop (suc n) left) (drop (takes w n left) free) c)) p ∙ split

            pub searching_found : (a : Found) → y ≡ Err a → there a.row a.field ≡ rest items others k₀
            searching_found a q = sym (ap (λ (z : Blamed). else (of_blamed k₂ z) (λ c. rest (drop (suc n) left) (drop (takes w n left) free) c)) q) ∙ onward

            pub searching_more : (u : Unit {0}) → y ≡ Ok u → (j : ℕ) → j ≡ takes w n left → Searching (take (length left - suc n) (drop (suc n) left)) (take (length free - j) (drop j free)) k₂
            searching_more o q j t =
                let u : take (length left - suc n) (drop (suc n) left) ≡ drop (suc n) left = take_all (length left - suc n) (drop (suc n) left) (omega (arith, length-drop (suc n) left)) in
                let v : take (length free - j) (drop j free) ≡ drop (takes w n left) free = take_all (length free - j) (drop j free) (omega (arith, length-drop j free)) ∙ ap (λ (i : ℕ). drop i free) t in
                record {
                  same = ap₂ (λ (l o : List ℕ). rest l o k₂) u v ∙ sym (ap (λ (z : Blamed). else (of_blamed k₂ z) (λ c. rest (drop (suc n) left) (drop (takes w n left) free) c)) q) ∙ onward;
                  room = rw u (enough_more (suc n) (takes w n) others (omega arith) (takes_first x lent) a.room h j (omega (arith, t)));
                }
