-- An item of a response, the first row of `items` with the first rows of `tags`: what it takes of the tables, its bytes, its first fault, and the loop over items.
use mathlib.Core.Bool.{Bool, cond, false, true}
use mathlib.Core.List.{List, [], ◌++◌, ◌∷◌, append-nil}
use mathlib.Core.Path.{◌∙◌, ◌≡◌, ap, ap₂, refl, sym}
use Prim.Native.Nat.{◌*◌, ◌+◌, ◌-◌, ◌/◌, ◌<◌, ◌^◌, ◌≤◌, min, suc, zero, ℕ}
use native.Mathlib.Omega.{arith}
use lib.Dec.{lit<}
use lib.ListN.{drop, get_or, length, take}
use lib.Seq.{get_or-drop, get_or-take}
use borrow.Rule.Slice.PartMut.{mid_of, put_mid}
use Rattle.layout.specs.Primitives.{bytes, plain, w16}
use Rattle.layout.specs.Rows.{Value}
use Rattle.layout.specs.Tables.{Tables, basic_of, chunks, count, pop, row_width, rows_of, sum, times, value_of, width}
use Rattle.layout.specs.Write.{basic_fault, fault, first_of, or, write}
use Rattle.primitives_put.specs.Step.{Capped, cap}
use Rattle.body_reading.specs.Tagged.{tag_shape, tags_shape}
use Rattle.body_writing.specs.Writes.{bytes_at, counted_bytes, fault_at, items_bytes, items_fault, row_bytes, row_fault, takes}
use Rattle.primitives_put.proofs.Capped.{capped, capped_as, capped_behind}
use Rattle.body_writing.proofs.Faults.{or_none}
use Rattle.body_writing.proofs.Nested.{Nest, Taking, one, row_bytes_lem, sum_cells, taking_end, taking_enough, taking_more, taking_start}
use Rattle.body_writing.proofs.Writes.{flat_bytes, flat_fault, flat_value, joined_fault}
use Rattle.primitives_put.specs.Put.{Put}
use Rattle.primitives_put.proofs.Stored.{put_step}
use Rattle.body_writing.specs.Asked.{told}
use Rattle.body_writing.proofs.Counts.{Cells, cells_drop, count_most}
use Rattle.body_writing.proofs.Even.{numbers_bytes}
use Rattle.tagged_fields.proofs.Tags.{tag_wide, tags_clean}
use Rattle.api_versions_response.specs.Shapes.{item_shape}
use Rattle.api_versions_response.specs.ItemShapes.{key_front}

key_wide : row_width key_front ≡ 3
unfolding row_width width
key_wide = refl

four_wide : row_width (item_shape false) ≡ 4
unfolding row_width width
four_wide = refl

-- key and versions, and an array of tags
abbrev item_nest : Nest
item_nest = record { fields = key_front; flat_fields = tt; before = 3; is_before = key_wide; size = plain; item = tag_shape; flat_item = tt; wide = 3; is_wide = tag_wide }

-- the cells of tags that the first row takes: a version without tags takes none
abbrev pub item_cells : Bool → List ℕ → ℕ
item_cells f items = cond f (count (get_or items 3 0) * 3) 0

module _ (f : Bool) (c : ℕ) where
  pub cells_there : f ≡ true → {k : ℕ} → k ≡ count c → k * 3 ≡ cond f (count c * 3) 0
  cells_there h e = rw h (ap (λ (n : ℕ). n * 3) e)

  pub cells_lacking : f ≡ false → 0 ≡ cond f (count c * 3) 0
  cells_lacking h = sym (rw h)

pub cells_most : (f : Bool) (c : ℕ) → cond f (count c * 3) 0 ≤ count c * 3
cells_most true c = omega arith
cells_most false c = omega arith

-- ---- key and versions

module _ (lent : List ℕ) where
  key_first : (r : List ℕ) → row_fault lent key_front r ≡ row_fault [] key_front (take 4 r)
  unfolding row_fault fault_at fault basic_fault value_of pop width basic_of
  key_first [] = refl
  key_first (a ∷ []) = refl
  key_first (a ∷ b ∷ []) = refl
  key_first (a ∷ b ∷ c ∷ r) = refl

  -- ---- one item

  -- an item that the version leaves without tags is no more than these
  plain_bytes : (r : List ℕ) → row_bytes lent (item_shape false) r ≡ row_bytes lent key_front r
  unfolding row_bytes bytes_at write value_of pop
  plain_bytes r = refl

  plain_fault : (r : List ℕ) → row_fault lent (item_shape false) r ≡ row_fault lent key_front r
  unfolding row_fault fault_at fault value_of pop
  plain_fault r = refl

  abbrev item_meant : (f : Bool) → List ℕ → List ℕ → Value (List ℕ) (item_shape f)
  item_meant f items tags = (value_of lent (item_shape f) 1 ([] ∷ items ∷ tags ∷ [])).0

  pub item_value : (f : Bool) (own items tags : List ℕ) → value_of lent (item_shape f) 1 (own ∷ items ∷ tags ∷ []) ≡ (item_meant f items tags, own ∷ drop 4 items ∷ drop (item_cells f items) tags ∷ [])
  unfolding takes
  item_value true own items tags = one item_nest lent own items tags
  item_value false own items tags =
      flat_value lent (item_shape false) tt 1 (own ∷ items ∷ tags ∷ []) (lit< tt)
      ∙ (λ i. (sym (ap (λ (x : Value (List ℕ) (item_shape false) × Tables). x.0) (flat_value lent (item_shape false) tt 1 ([] ∷ items ∷ tags ∷ []) (lit< tt))) i, own ∷ drop (four_wide i) items ∷ tags ∷ []))

  pub item_bytes : (f : Bool) (items tags : List ℕ) → item_cells f items ≤ length tags → bytes_at lent (item_shape f) 1 ([] ∷ items ∷ tags ∷ []) ≡ row_bytes lent key_front items ++ cond f (counted_bytes lent tag_shape plain 3 (take (item_cells f items) tags)) []
  unfolding takes
  item_bytes true items tags h = row_bytes_lem lent plain tag_shape tt 3 tag_wide key_front tt 3 key_wide items tags (lit< tt) h refl
  item_bytes false items tags h = flat_bytes lent (item_shape false) tt 1 ([] ∷ items ∷ tags ∷ []) (lit< tt) ∙ plain_bytes items ∙ sym (append-nil _)

  module _ (l : length lent < 2 ^ 64) where
    item_fault : (f : Bool) (items tags : List ℕ) → Cells items → Cells tags → fault_at lent (item_shape f) 1 ([] ∷ items ∷ tags ∷ []) ≡ row_fault [] key_front (take 4 items)
    item_fault true items tags h g =
        joined_fault lent (tags_shape true 2) 1 key_front ([] ∷ items ∷ tags ∷ [])
        ∙ ap₂ or (flat_fault lent key_front tt 1 ([] ∷ items ∷ tags ∷ []) (lit< tt))
        (ap (fault_at lent (tags_shape true 2) 1) (ap (λ (x : Value (List ℕ) key_front × Tables). x.1) (flat_value lent key_front tt 1 ([] ∷ items ∷ tags ∷ []) (lit< tt)) ∙ ap (λ (j : ℕ). [] ∷ drop j items ∷ tags ∷ []) key_wide)
        ∙ tags_clean lent 1 2 ([] ∷ drop 3 items ∷ tags ∷ []) (λ u. omega arith) (lit< tt) (omega (arith, count_most (get_or (drop 3 items) 0 0), get_or-drop 3 items 0 0, h 3)) g l)
        ∙ or_none _
        ∙ key_first items
    item_fault false items tags h g = flat_fault lent (item_shape false) tt 1 ([] ∷ items ∷ tags ∷ []) (lit< tt) ∙ plain_fault items ∙ key_first items

    pub items_fault_lem : (f : Bool) (n : ℕ) (own items tags : List ℕ) → Cells items → Cells tags → items_fault lent (item_shape f) n 1 (own ∷ items ∷ tags ∷ []) ≡ first_of (row_fault [] key_front) (chunks n 4 items)
    unfolding items_fault fault_at times chunks first_of
    items_fault_lem f zero own items tags h g = refl
    items_fault_lem f (suc n) own items tags h g =
        rw (item_value f own items tags) (ap₂ or (item_fault f items tags h g) (items_fault_lem f n own (drop 4 items) (drop (item_cells f items) tags) (cells_drop 4 items h) (cells_drop (item_cells f items) tags g)))

  -- ---- the loop

  module _ (f : Bool) where
    -- a row tells cells of tags at every version
    abbrev told_cells : List ℕ → ℕ
    told_cells items = told 3 items * 3

    told_first : (cs : List ℕ) → told_cells (take 4 cs) ≡ told_cells cs
    unfolding told
    told_first cs = ap (λ (c : ℕ). count c * 3) (get_or-take 4 cs 3 0 (lit< tt))

    told_most : (cs : List ℕ) → item_cells f cs ≤ told_cells cs
    unfolding told
    told_most cs = cells_most f (get_or cs 3 0)

    module _ (items tags : List ℕ) where
      -- the first items stand there; `left` and `free` are what is left of the tables, with enough tags
      abbrev pub Going : List ℕ → ℕ → List ℕ → List ℕ → List ℕ → Type 0
      Going = Taking 4 (item_cells f) (value_of lent (item_shape f) 1) (item_meant f) (item_value f) told_cells (write (item_shape f)) items tags

      pub going_start : (d : List ℕ) → sum (told 3) (rows_of 4 items) * 3 ≤ length tags → Going d 0 d items tags
      going_start d h = taking_start 4 (item_cells f) (value_of lent (item_shape f) 1) (item_meant f) (item_value f) told_cells (write (item_shape f)) items tags d (omega (arith, sum_cells (told 3) 3 (rows_of 4 items)))

      module _ {d : List ℕ} {n : ℕ} {d₁ left free : List ℕ} (a : Going d n d₁ left free) where
        pub going_end : length left < 4 → Capped (items_bytes lent (item_shape f) (length items / 4) 1 ([] ∷ items ∷ tags ∷ [])) d n d₁
        unfolding items_bytes
        going_end = taking_end 4 (item_cells f) (value_of lent (item_shape f) 1) (item_meant f) (item_value f) told_cells (write (item_shape f)) items tags (lit< tt) a

        module _ (h : 4 ≤ length left) where
          pub going_enough : count (get_or left 3 0) * 3 ≤ length free
          unfolding told
          going_enough = taking_enough 4 (item_cells f) (value_of lent (item_shape f) 1) (item_meant f) (item_value f) told_cells (write (item_shape f)) items tags (lit< tt) a told_first told_most h

          pub going_more : (at : ℕ) → at ≡ min n (length d₁) → {m : ℕ} {e : List ℕ} → Capped (bytes_at lent (item_shape f) 1 ([] ∷ left ∷ free ∷ [])) (mid_of at (length d₁ - at) d₁) m e → (r : ℕ) → cap r ≡ cap (n + m) → (k : ℕ) → k ≡ item_cells f left →
              Going d r (put_mid at (length d₁ - at) d₁ e) (take (length left - 4) (drop 4 left)) (take (length free - k) (drop k free))
          unfolding bytes_at
          going_more at i s r j k q =
              taking_more 4 (item_cells f) (value_of lent (item_shape f) 1) (item_meant f) (item_value f) told_cells (write (item_shape f)) items tags (lit< tt) a told_first told_most h at i (bytes_at lent (item_shape f) 1 ([] ∷ left ∷ free ∷ [])) refl s r j k q

-- ---- one behind the other, as calls with `&mut out[at..]` leave it

-- the same key and versions, whatever else the row has
pub key_same : (lent r : List ℕ) → row_bytes [] key_front (get_or r 0 0 ∷ get_or r 1 0 ∷ get_or r 2 0 ∷ []) ≡ row_bytes lent key_front r
key_same lent r = numbers_bytes [] w16 w16 w16 (get_or r 0 0 ∷ get_or r 1 0 ∷ get_or r 2 0 ∷ []) ∙ sym (numbers_bytes lent w16 w16 w16 r)

module _ {d d₁ e : List ℕ} {n m : ℕ} (at : ℕ) (h : at ≡ min n (length d₁)) (r : ℕ) (k : cap r ≡ cap (n + m)) where
  pub key_put : (a b c : ℕ) → Put (bytes 2 a) d n d₁ → Capped (bytes 2 b ++ bytes 2 c) (mid_of at (length d₁ - at) d₁) m e → Capped (row_bytes [] key_front (a ∷ b ∷ c ∷ [])) d r (put_mid at (length d₁ - at) d₁ e)
  key_put a b c p q = capped_as (sym (numbers_bytes [] w16 w16 w16 (a ∷ b ∷ c ∷ []))) (capped_behind (capped (put_step p)) at h q r k)

  pub item_put : (f : Bool) (lent items tags : List ℕ) → count (get_or items 3 0) * 3 ≤ length tags → (j : ℕ) → j ≡ item_cells f items → Capped (row_bytes [] key_front (get_or items 0 0 ∷ get_or items 1 0 ∷ get_or items 2 0 ∷ [])) d n d₁ →
      Capped (cond f (counted_bytes lent tag_shape plain 3 (take j tags)) []) (mid_of at (length d₁ - at) d₁) m e → Capped (bytes_at lent (item_shape f) 1 ([] ∷ items ∷ tags ∷ [])) d r (put_mid at (length d₁ - at) d₁ e)
  item_put f lent items tags l j i p q =
      capped_as (sym (item_bytes lent f items tags (omega (arith, cells_most f (get_or items 3 0)))))
      (capped_behind (capped_as (key_same lent items) p) at h (capped_as (ap (λ (x : ℕ). cond f (counted_bytes lent tag_shape plain 3 (take x tags)) []) i) q) r k)
