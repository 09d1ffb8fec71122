-- Items without tags: all have the same width, and where no tags are lent all items are such.
use mathlib.Core.Bool.{Bool, cond, false, true}
use mathlib.Core.List.{List, [], ◌++◌, ◌∷◌}
use mathlib.Core.Path.{◌∙◌, ◌≡◌, ap, ap₂, refl, sym}
use Prim.Native.Nat.{◌*◌, ◌+◌, ◌-◌, ◌/◌, ◌<◌, ◌^◌, ◌≤◌, min, suc, zero, ℕ}
use native.Mathlib.Nat.{add-zero}
use native.Mathlib.Omega.{arith}
use lib.Dec.{lit<}
use lib.ListN.{drop, get_or, length, length-append, take}
use lib.Seq.{get_or-take}
use borrow.Rule.Slice.PartMut.{mid_of, put_mid}
use Rattle.layout.specs.Primitives.{bytes, length_bytes, plain, shortest, sized_bytes, unsigned_bytes, w16}
use Rattle.layout.specs.Tables.{chunks, count, items_of, pop, rows_of, sum, times, value_of, width}
use Rattle.layout.specs.Write.{each, write}
use Rattle.primitives_put.specs.Step.{Capped, cap}
use Rattle.body_reading.specs.Tagged.{tag_shape, tags_shape}
use Rattle.body_writing.specs.Writes.{bytes_at, counted_bytes, items_bytes, row_bytes, rows_bytes}
use Rattle.primitives_put.proofs.Capped.{capped, capped_as, capped_behind}
use Rattle.layout.proofs.Chunks.{row_cell}
use Rattle.body_writing.proofs.Writes.{joined_bytes}
use Rattle.primitives_put.specs.Put.{Put}
use Rattle.body_writing.proofs.Even.{numbers_bytes, numbers_wide, rows_wide}
use Rattle.primitives_put.proofs.Stored.{put_step}
use Rattle.body_writing.specs.Asked.{told}
use Rattle.api_versions_response.specs.Shapes.{item_shape}
use Rattle.api_versions_response.specs.ItemShapes.{key_front}
use Rattle.api_versions_response.proofs.ItemsWritten.{cells_most, item_bytes, item_value, item_cells}

-- no count is the count of none
count_none : (f : Bool) (r : List ℕ) → bytes_at [] (tags_shape f 2) 0 (value_of [] key_front 0 (take 3 r ∷ [])).1 ≡ cond f (0 ∷ []) []
unfolding bytes_at write sized_bytes value_of pop width items_of count times each length_bytes unsigned_bytes shortest bytes
count_none true [] = refl
count_none true (a ∷ []) = refl
count_none true (a ∷ b ∷ []) = refl
count_none true (a ∷ b ∷ c ∷ r) = refl
count_none false r = refl

-- ---- an item's bytes, whatever its count says

abbrev pub untagged_bytes : Bool → List ℕ → List ℕ
untagged_bytes f r = row_bytes [] (item_shape f) (take 3 r)

untagged_bytes_lem : (f : Bool) (r : List ℕ) → untagged_bytes f r ≡ row_bytes [] key_front r ++ cond f (0 ∷ []) []
unfolding row_bytes
untagged_bytes_lem f r =
    joined_bytes [] (tags_shape f 2) 0 key_front (take 3 r ∷ [])
    ∙ ap₂ (λ (x y : List ℕ). x ++ y)
    (numbers_bytes [] w16 w16 w16 (take 3 r) ∙ (λ t. bytes 2 (get_or-take 3 r 0 0 (lit< tt) t) ++ (bytes 2 (get_or-take 3 r 1 0 (lit< tt) t) ++ bytes 2 (get_or-take 3 r 2 0 (lit< tt) t))) ∙ sym (numbers_bytes [] w16 w16 w16 r))
    (count_none f r)

pub none_there : (f : Bool) → f ≡ true → {d d' : List ℕ} {r : ℕ} → Put (bytes 1 0) d r d' → Capped (cond f (0 ∷ []) []) d r d'
unfolding bytes
none_there f h p = rw h (capped (put_step p))

-- a row's cells stand in the table from four times its number on
pub untagged_put : (f : Bool) (table : List ℕ) (i : ℕ) → i < length table / 4 → {d d₁ e : List ℕ} {n m : ℕ} (at : ℕ) → at ≡ min n (length d₁) → (r : ℕ) → cap r ≡ cap (n + m) → Capped (row_bytes [] key_front (get_or table (i * 4) 0 ∷ get_or table (i * 4 + 1) 0 ∷ get_or table (i * 4 + 2) 0 ∷ [])) d n d₁ →
    Capped (cond f (0 ∷ []) []) (mid_of at (length d₁ - at) d₁) m e → Capped (untagged_bytes f (get_or (rows_of 4 table) i [])) d r (put_mid at (length d₁ - at) d₁ e)
untagged_put f table i l at h r k p q =
    capped_as (sym (untagged_bytes_lem f (get_or (rows_of 4 table) i []))) (capped_behind
    (capped_as
    (numbers_bytes [] w16 w16 w16 (get_or table (i * 4) 0 ∷ get_or table (i * 4 + 1) 0 ∷ get_or table (i * 4 + 2) 0 ∷ [])
    ∙ sym (λ t. bytes 2 ((row_cell 4 table i l 0 (lit< tt) ∙ ap (λ (j : ℕ). get_or table j 0) (add-zero (i * 4))) t) ++ (bytes 2 (row_cell 4 table i l 1 (lit< tt) t) ++ bytes 2 (row_cell 4 table i l 2 (lit< tt) t)))
    ∙ sym (numbers_bytes [] w16 w16 w16 (get_or (rows_of 4 table) i [])))
    p)
    at h q r k)

-- ---- all have the same width

none_wide : (f : Bool) → 6 + length {A = ℕ} (cond f (0 ∷ []) []) ≡ cond f 7 6
none_wide true = refl
none_wide false = refl

untagged_wide : (f : Bool) (r : List ℕ) → length (untagged_bytes f r) ≡ cond f 7 6
untagged_wide f r = ap length (untagged_bytes_lem f r) ∙ length-append (row_bytes [] key_front r) (cond f (0 ∷ []) []) ∙ ap (λ (n : ℕ). n + length {A = ℕ} (cond f (0 ∷ []) [])) (numbers_wide [] w16 w16 w16 r) ∙ none_wide f

-- k is told to be the width
module _ (f : Bool) {k : ℕ} (e : k ≡ cond f 7 6) where
  pub told_some : 0 < k
  told_some = rw e (go f)
    where
      go : (g : Bool) → 0 < cond g 7 6
      go true = lit< tt
      go false = lit< tt

  pub told_fits : (n : ℕ) → n < 2 ^ 60 → n * k < 2 ^ 64
  told_fits n h = rw e (go f)
    where
      go : (g : Bool) → n * cond g 7 6 < 2 ^ 64
      go true = omega arith
      go false = omega arith

  pub told_wide : (r : List ℕ) → length (untagged_bytes f r) ≡ k
  told_wide r = untagged_wide f r ∙ sym e

  pub told_items : (items : List ℕ) → length (each (untagged_bytes f) (rows_of 4 items)) ≡ length items / 4 * k
  told_items items = rows_wide (untagged_bytes f) k told_wide 4 items

-- in a branch that knows whether the version is flexible
pub known_version : (f g : Bool) → f ≡ g → (items : List ℕ) {d d' : List ℕ} {r : ℕ} → Capped (each (untagged_bytes g) (rows_of 4 items)) d r d' → Capped (each (untagged_bytes f) (rows_of 4 items)) d r d'
known_version f g h items s = capped_as (ap (λ (b : Bool). each (untagged_bytes b) (rows_of 4 items)) (sym h)) s

-- ---- where no tags are told, all items are such

none_bytes : (f : Bool) (lent : List ℕ) → cond f (counted_bytes lent tag_shape plain 3 []) [] ≡ cond f (0 ∷ []) []
unfolding counted_bytes rows_bytes length_bytes unsigned_bytes shortest bytes rows_of chunks each
none_bytes true lent = refl
none_bytes false lent = refl

told_first : (items : List ℕ) → told 3 (take 4 items) ≡ count (get_or items 3 0)
unfolding told
told_first items = ap count (get_or-take 4 items 3 0 (lit< tt))

module _ (f : Bool) (lent tags : List ℕ) where
  first_bytes : (items : List ℕ) → item_cells f items ≡ 0 → bytes_at lent (item_shape f) 1 ([] ∷ items ∷ tags ∷ []) ≡ untagged_bytes f (take 4 items)
  first_bytes items h =
      item_bytes lent f items tags (omega (arith, h))
      ∙ ap₂ (λ (x y : List ℕ). x ++ y)
      (numbers_bytes lent w16 w16 w16 items ∙ sym (λ t. bytes 2 (get_or-take 4 items 0 0 (lit< tt) t) ++ (bytes 2 (get_or-take 4 items 1 0 (lit< tt) t) ++ bytes 2 (get_or-take 4 items 2 0 (lit< tt) t))) ∙ sym (numbers_bytes [] w16 w16 w16 (take 4 items)))
      (ap (λ (k : ℕ). cond f (counted_bytes lent tag_shape plain 3 (take k tags)) []) h ∙ none_bytes f lent)
      ∙ sym (untagged_bytes_lem f (take 4 items))

  each_untagged : (n : ℕ) (items : List ℕ) → sum (told 3) (chunks n 4 items) ≡ 0 → items_bytes lent (item_shape f) n 1 ([] ∷ items ∷ tags ∷ []) ≡ each (untagged_bytes f) (chunks n 4 items)
  unfolding items_bytes bytes_at each times chunks sum
  each_untagged zero items h = refl
  each_untagged (suc n) items h =
      let g : told 3 (take 4 items) + sum (told 3) (chunks n 4 (drop 4 items)) ≡ 0 = h in
      let k : item_cells f items ≡ 0 = omega (arith, cells_most f (get_or items 3 0), told_first items, g) in
      rw (item_value lent f [] items tags, k) (ap₂ (λ (x y : List ℕ). x ++ y) (first_bytes items k) (each_untagged n (drop 4 items) (omega (arith, g))))

  pub all_untagged : (items : List ℕ) → sum (told 3) (rows_of 4 items) * 3 ≤ length tags → length tags < 3 → each (untagged_bytes f) (rows_of 4 items) ≡ items_bytes lent (item_shape f) (length items / 4) 1 ([] ∷ items ∷ tags ∷ [])
  unfolding rows_of
  all_untagged items h l = sym (each_untagged (length items / 4) items (omega arith))
