-- A row read as its cells: field by field, and as the front of a walk over the row and what stands behind it.
use mathlib.Core.Bool.{Bool, false}
use mathlib.Core.List.{List, [], ◌++◌, ◌∷◌, append_assoc, append-nil}
use mathlib.Core.Path.{◌∙◌, ◌≡◌, ap, refl, sym}
use Prim.Native.Nat.{ℕ}
use lib.ListN.{drop}
use Rattle.layout.specs.Reading.{Refusal, Res, bad, more, ok, then}
use Rattle.layout.specs.Rows.{Basic, BasicValue, Shape, Value, absent, array, end, field, lacking, stands}
use Rattle.layout.specs.Read.{by_place, read, read_basic}
use Rattle.layout.specs.Tables.{Span, absent_cells, absent_count, cells, read_rows}
use Rattle.layout.proofs.Contents.{row_cells}
use Rattle.layout.proofs.Link.{keep, link, over, over_more, then_assoc}
use Rattle.layout.proofs.Local.{not_ok}
use Rattle.body_reading.specs.Store.{State, add}
use Rattle.body_reading.specs.Walk.{on, row_from, walk}
use Rattle.body_reading.proofs.Front as Front
use Rattle.body_reading.proofs.Front.{Flat, front_no, front_took, keep_flat, onto, stands_flat, stands_onto, then_give}
use Rattle.body_reading.proofs.Chains.{give_took, same_end, same_refusal, same_value, then_no, then_took}

-- ---- field by field

module _ (ds : List ℕ) (k : Basic) (r : Shape) (s : List ℕ) (p : ℕ) where
  pub cells_no : (c : Refusal) → bad c ≡ on (read_basic (by_place false) k) s p → bad c ≡ on (row_from ds (field k r)) s p
  unfolding row_from read_rows
  cells_no c e = then_no (read_basic (by_place false) k) _ s p e

  pub cells_took : (x : BasicValue Span k) (q : ℕ) → ok x q ≡ on (read_basic (by_place false) k) s p → (z : Res (List ℕ)) → z ≡ on (row_from (ds ++ cells k x) r) s q → z ≡ on (row_from ds (field k r)) s p
  unfolding row_from read_rows
  cells_took x q e z d = then_took (read_basic (by_place false) k) _ s p e d

  pub cells_absent : (z : Res (List ℕ)) → z ≡ on (row_from (ds ++ absent_cells k) r) s p → z ≡ on (row_from ds (absent k r)) s p
  unfolding row_from read_rows
  cells_absent z e = e

pub cells_end : (ds s : List ℕ) (p : ℕ) → ok ds p ≡ on (row_from ds end) s p
unfolding row_from read_rows
cells_end ds s p = give_took ds s p

-- ---- in two parts, the second from where the first ended

parted : (l : Shape) → Flat l → (r : Shape) (ds : List ℕ) (p : ℕ) (s : List ℕ) → row_from ds (onto l r) p s ≡ then (row_from ds l) (λ es. row_from es r) p s
unfolding row_from read_rows
parted end h r ds p s = sym (then_give ds (λ es. row_from es r) p s)
parted (field k l) h r ds p s =
    (λ i. then (read_basic (by_place false) k) (λ x q t. parted l h r (ds ++ cells k x) q t i) p s)
    ∙ then_assoc (read_basic (by_place false) k) (λ x. row_from (ds ++ cells k x) l) (λ es. row_from es r) p s
parted (absent k l) h r ds p s = parted l h r (ds ++ absent_cells k) p s
parted (array z t i l) h r ds p s = absurd h
parted (lacking z t i l) h r ds p s = parted l h r (ds ++ (absent_count z ∷ [])) p s

module _ (l : Shape) (h : Flat l) (r : Shape) (ds s : List ℕ) (p : ℕ) where
  on_parts : on (then (row_from ds l) (λ es. row_from es r)) s p ≡ on (row_from ds (onto l r)) s p
  unfolding on
  on_parts = ap (more p) (sym (parted l h r ds p (drop p s)))

  pub first_no : (c : Refusal) → bad c ≡ on (row_from ds l) s p → bad c ≡ on (row_from ds (onto l r)) s p
  first_no c e = then_no (row_from ds l) (λ es. row_from es r) s p e ∙ on_parts

  pub first_took : (cs : List ℕ) (q : ℕ) → ok cs q ≡ on (row_from ds l) s p → (z : Res (List ℕ)) → z ≡ on (row_from cs r) s q → z ≡ on (row_from ds (onto l r)) s p
  first_took cs q e z d = then_took (row_from ds l) (λ es. row_from es r) s p e d ∙ on_parts

-- ---- as the front of a walk

glued : (l : Shape) → Flat l → (o : ℕ) (x : Value Span l) (ds : List ℕ) → keep (λ t cs es. es ++ cs) l o x ds ≡ ds ++ row_cells l x
unfolding keep row_cells
glued end h o x ds = sym (append-nil ds)
glued (field k r) h o x ds = glued r h o x.1 (ds ++ cells k x.0) ∙ append_assoc ds (cells k x.0) (row_cells r x.1)
glued (absent k r) h o x ds = glued r h o x (ds ++ absent_cells k) ∙ append_assoc ds (absent_cells k) (row_cells r x)
glued (array z t i r) h o x ds = absurd h
glued (lacking z t i r) h o x ds = glued r h o x (ds ++ (absent_count z ∷ [])) ∙ append_assoc ds (absent_count z ∷ []) (row_cells r x)

module _ (l : Shape) (h : Flat l) (s : List ℕ) (p : ℕ) where
  -- the value whose cells they are
  pub record Row (cs : List ℕ) (q : ℕ) : Type 0 where
    pub value : Value Span l
    pub is : ok value q ≡ on (read (by_place false) l) s p
    pub told : cs ≡ row_cells l value

  -- its cells behind ds
  abbrev glue : List ℕ → Value Span l → List ℕ
  glue ds x = keep (λ t cs es. es ++ cs) l 0 x ds

  as_read : (ds : List ℕ) → on (row_from ds l) s p ≡ over (glue ds) (on (read (by_place false) l) s p)
  unfolding on row_from
  as_read ds = ap (more p) ((link false (λ t cs es. es ++ cs) l 0 ds).law p (drop p s) tt) ∙ sym (over_more (glue ds) p (read (by_place false) l p (drop p s)))

  pub row_of : (cs : List ℕ) (q : ℕ) → ok cs q ≡ on (row_from [] l) s p → Row cs q
  row_of cs q e = go (on (read (by_place false) l) s p) refl (e ∙ as_read [])
    where
      go : (o : Res (Value Span l)) → on (read (by_place false) l) s p ≡ o → ok cs q ≡ over (glue []) o → Row cs q
      go (ok x n) d g = record { value = x; is = ap (λ (k : ℕ). ok x k) (same_end g) ∙ sym d; told = same_value g ∙ glued l h 0 x [] }
      go (bad c) d g = not_ok (sym g)

  pub no_row_of : (c : Refusal) → bad c ≡ on (row_from [] l) s p → bad c ≡ on (read (by_place false) l) s p
  no_row_of c e = go (on (read (by_place false) l) s p) refl (e ∙ as_read [])
    where
      go : (o : Res (Value Span l)) → on (read (by_place false) l) s p ≡ o → bad c ≡ over (glue []) o → bad c ≡ on (read (by_place false) l) s p
      go (ok x n) d g = not_ok g
      go (bad b) d g = ap bad (same_refusal g) ∙ sym d

  -- the cells of what is read, from other cells on
  pub read_row : (ds : List ℕ) (x : Value Span l) (q : ℕ) → ok x q ≡ on (read (by_place false) l) s p → ok (ds ++ row_cells l x) q ≡ on (row_from ds l) s p
  read_row ds x q e = ap (λ (es : List ℕ). ok es q) (sym (glued l h 0 x ds)) ∙ ap (over (glue ds)) e ∙ sym (as_read ds)

  behind_took : (ds cs : List ℕ) (q : ℕ) → ok cs q ≡ on (row_from [] l) s p → ok (ds ++ cs) q ≡ on (row_from ds l) s p
  behind_took ds cs q e = let a = row_of cs q e in ap (λ (es : List ℕ). ok (ds ++ es) q) a.told ∙ read_row ds a.value q a.is

  behind_no : (ds : List ℕ) (c : Refusal) → bad c ≡ on (row_from [] l) s p → bad c ≡ on (row_from ds l) s p
  behind_no ds c e = ap (over (glue ds)) (no_row_of c e) ∙ sym (as_read ds)

  module _ (r : Shape) (o : ℕ) (st : State) where
    pub row_no : (c : Refusal) → bad c ≡ on (row_from [] l) s p → bad c ≡ on (walk false (onto l r) o st) s p
    row_no c e = front_no false r o l h st s p c (no_row_of c e)

    pub row_took : (cs : List ℕ) (q : ℕ) → ok cs q ≡ on (row_from [] l) s p → (z : Res State) → z ≡ on (walk false r o (add o cs st)) s q → z ≡ on (walk false (onto l r) o st) s p
    row_took cs q e z d = let a = row_of cs q e in front_took false r o l h st s p a.value q a.is z (d ∙ ap (λ (ds : List ℕ). on (walk false r o (add o ds st)) s q) a.told)

-- ---- a field that the version may lack

module _ (b : Bool) (k : Basic) (r : Shape) (ds s : List ℕ) (p : ℕ) where
  in_row : on (row_from ds (onto (stands b k end) r)) s p ≡ on (row_from ds (stands b k r)) s p
  in_row = ap (λ (l : Shape). on (row_from ds l) s p) (stands_onto k b end r)

  flat : Flat (stands b k end)
  flat = stands_flat k b end tt

  pub cells_if_no : (c : Refusal) → bad c ≡ on (row_from [] (stands b k end)) s p → bad c ≡ on (row_from ds (stands b k r)) s p
  cells_if_no c e = first_no (stands b k end) flat r ds s p c (behind_no (stands b k end) flat s p ds c e) ∙ in_row

  pub cells_if_took : (cs : List ℕ) (q : ℕ) → ok cs q ≡ on (row_from [] (stands b k end)) s p → (z : Res (List ℕ)) → z ≡ on (row_from (ds ++ cs) r) s q → z ≡ on (row_from ds (stands b k r)) s p
  cells_if_took cs q e z d = first_took (stands b k end) flat r ds s p (ds ++ cs) q (behind_took (stands b k end) flat s p ds cs q e) z d ∙ in_row

-- ---- alone: a row with nothing behind it

module _ (l : Shape) (h : Flat l) (o : ℕ) (st : State) (s : List ℕ) (p : ℕ) where
  pub alone_no : (c : Refusal) → bad c ≡ on (row_from [] l) s p → bad c ≡ on (walk false l o st) s p
  alone_no c e = Front.row_no false l o st s p c (no_row_of l h s p c e)

  pub alone_took : (cs : List ℕ) (q : ℕ) → ok cs q ≡ on (row_from [] l) s p → ok (add o cs st) q ≡ on (walk false l o st) s p
  alone_took cs q e =
      let a = row_of l h s p cs q e in
      ap (λ (u : State). ok u q) (ap (λ (ds : List ℕ). add o ds st) a.told ∙ sym (keep_flat l h o a.value st)) ∙ Front.row_took false l o st s p a.value q a.is
