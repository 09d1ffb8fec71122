-- Tagged fields have no fault: the walk to the first field with a fault passes them, and counts their rows. So they have no part in the name of a refusal.
use mathlib.Core.Bool.{Bool, cond, false, true}
use mathlib.Core.List.{List, [], ◌∷◌}
use mathlib.Core.Logic.{◌≢◌}
use mathlib.Core.Path.{◌∙◌, ◌≡◌, ap, refl, sym}
use Prim.Native.Nat.{◌+◌, ◌<◌, ◌^◌, suc, zero, ℕ}
use native.Mathlib.Omega.{arith}
use lib.Dec.{lit<}
use lib.ListN.{drop, get_or, length, length-set, set, take}
use lib.Seq.{get_or-set_other, get_or-take}
use borrow.Author.Tests.{ne_eqb}
use Rattle.layout.specs.Names.{Sought, begun, blame, blame_each, blamed, else, fieldless, name_fault, past, there}
use Rattle.layout.specs.Primitives.{plain}
use Rattle.layout.specs.Reading.{Refusal, naming, nowhere}
use Rattle.layout.specs.Rows.{Shape, Value, end}
use Rattle.layout.specs.Tables.{Tables, chunks, count, row_width, value_of}
use Rattle.layout.specs.Write.{basic_fault, or, sized_fault, too_long, unless}
use Rattle.layout.proofs.Tests.{lt-true}
use Rattle.names.specs.Walks.{many_begun}
use Rattle.body_reading.specs.Tagged.{tag_shape, tags_shape}
use Rattle.body_reading.proofs.Front.{Flat, onto}
use Rattle.body_writing.specs.Blames.{blame_at, row_blame}
use Rattle.body_writing.proofs.Blaming.{array_blame, else_past, fields_of, items_blame_lem, joined_blame}
use Rattle.body_writing.proofs.Counts.{Cells, cells_drop}
use Rattle.body_writing.proofs.Writes.{flat_value}
use Rattle.tagged_fields.proofs.Tags.{tag_value, tag_wide}

module _ (lent : List ℕ) (e : ℕ) (some : e ≢ 0) where
  -- a cell is below 2^64
  tag_past : (r : List ℕ) → get_or r 0 0 < 2 ^ 64 → (row : ℕ) (c : List ℕ) → row_blame lent e tag_shape row 0 c r ≡ past c
  unfolding row_blame blame_at blame basic_fault sized_fault too_long unless or
  tag_past r h row c = ap (blame e tag_shape row 0 c) (tag_value lent r) ∙ rw (lt-true (get_or r 0 0) (2 ^ 64) h, ne_eqb 0 e (λ d. some (sym d)))

  rows_past : (n : ℕ) (cs : List ℕ) → Cells cs → (t : ℕ) (c : List ℕ) → blame_each (λ j d r. row_blame lent e tag_shape j 0 d r) t (chunks n 3 cs) c ≡ past (many_begun n t c)
  unfolding blame_each chunks many_begun
  rows_past zero cs h t c = refl
  rows_past (suc n) cs h t c = rw (tag_past (take 3 cs) (omega (arith, get_or-take 3 cs 0 0 (lit< tt), h 0)) (get_or c t 0) (begun t c)) (rows_past n (drop 3 cs) (cells_drop 3 cs h) t (begun t c))

  -- rows of table t, whose number is at the front of table o
  module _ (o t : ℕ) (st : Tables) (apart : t ≢ o) (inside : t < length st) (cells : Cells (get_or st t [])) where
    abbrev cell : ℕ
    cell = get_or (get_or st o []) 0 0

    -- the tables after their number
    abbrev su : Tables
    su = set st o (drop 1 (get_or st o []))

    pub tags_past : (f : Bool) (row g : ℕ) (c : List ℕ) → blame_at lent e (tags_shape f t) o st row g c ≡ past (many_begun (cond f (count cell) 0) t c)
    unfolding blame_at blame too_long many_begun
    tags_past true row g c =
        let same : get_or su t [] ≡ get_or st t [] = get_or-set_other st o t (drop 1 (get_or st o [])) [] apart in
        array_blame lent e row g c o st plain t tag_shape end (λ d. some (sym d))
        ∙ else_past _
        ∙ items_blame_lem lent e tag_shape tt 3 tag_wide (count cell) t su (omega (arith, length-set st o (drop 1 (get_or st o [])))) c
        ∙ rows_past (count cell) (get_or su t []) (λ i. omega (arith, ap (λ (cs : List ℕ). get_or cs i 0) same, cells i)) t c
    tags_past false row g c = refl

-- the rows of other tables are counted as they were
module _ (t : ℕ) where
  pub others_kept : (n u : ℕ) (c : List ℕ) → u ≢ t → get_or (many_begun n t c) u 0 ≡ get_or c u 0
  unfolding many_begun
  others_kept zero u c h = refl
  others_kept (suc n) u c h = others_kept n u (begun t c) h ∙ get_or-set_other c t u _ 0 h

  pub counts_long : (n : ℕ) (c : List ℕ) → length (many_begun n t c) ≡ length c
  unfolding many_begun
  counts_long zero c = refl
  counts_long (suc n) c = counts_long n (begun t c) ∙ length-set c t _

-- at the end of a body row with no arrays
module _ (lent : List ℕ) (l : Shape) (flat : Flat l) (f : Bool) (cs tags : List ℕ) (cells : Cells tags) (m : ℕ) (c : List ℕ) (x : Refusal) (some : x.number ≢ 0) where
  ended : (s : Sought) (u : List ℕ → Sought) (v : List ℕ → List ℕ) → ((d : List ℕ) → u d ≡ past (v d)) → blamed m x (else s u) ≡ blamed m x s
  ended (there row g) u v h = refl
  ended (past d) u v h = ap (blamed m x) (h d)

  same : blamed m x (blame_at lent x.number (onto l (tags_shape f 1)) 0 (cs ∷ tags ∷ []) nowhere 0 c) ≡ blamed m x (blame_at lent x.number l 0 (cs ∷ tags ∷ []) nowhere 0 c)
  same =
      let left : (value_of lent l 0 (cs ∷ tags ∷ [])).1 ≡ drop (row_width l) cs ∷ tags ∷ [] = ap (λ (y : Value (List ℕ) l × Tables). y.1) (flat_value lent l flat 0 (cs ∷ tags ∷ []) (lit< tt)) in
      ap (blamed m x) (joined_blame lent x.number (tags_shape f 1) l flat 0 (cs ∷ tags ∷ []) nowhere 0 c)
      ∙ ended (blame_at lent x.number l 0 (cs ∷ tags ∷ []) nowhere 0 c) _ _
      (λ d. ap (λ (st : Tables). blame_at lent x.number (tags_shape f 1) 0 st nowhere (0 + fields_of l) d) left ∙ tags_past lent x.number some 0 1 (drop (row_width l) cs ∷ tags ∷ []) (λ u. omega arith) (lit< tt) cells f nowhere (0 + fields_of l) d)

  pub front_named : name_fault m l c (value_of lent l 0 (cs ∷ tags ∷ [])).0 x ≡ name_fault m (onto l (tags_shape f 1)) c (value_of lent (onto l (tags_shape f 1)) 0 (cs ∷ tags ∷ [])).0 x
  unfolding name_fault blame_at
  front_named = ap (λ (n : Refusal). cond (fieldless x.number) (naming m nowhere nowhere x) n) (sym same)
