-- A row, or the fields at its front, as one read and one store: what code reads is what the walk keeps. What stands behind them, an array or more, is read from there. A row as a whole may have no arrays in it.
use mathlib.Core.Bool.{Bool, false, true}
use mathlib.Core.List.{List, [], ◌∷◌}
use mathlib.Core.Path.{◌∙◌, ◌≡◌, ap, refl, sym}
use Prim.Native.Nat.{◌+◌, ℕ}
use native.Mathlib.Nat.{add-zero, zero-add}
use lib.ListN.{drop}
use lib.Seq.{set-get_or}
use Rattle.layout.specs.Reading.{Reader, Refusal, Res, bad, give, more, ok, pair, then}
use Rattle.layout.specs.Rows.{Basic, BasicValue, Shape, Value, absent, array, end, field, lacking, stands}
use Rattle.layout.specs.Read.{by_place, read, read_basic}
use Rattle.layout.specs.Tables.{Span, absent_cells, absent_count, cells, read_rows}
use Rattle.body_reading.specs.Store.{State, Tab, add, own, store}
use Rattle.body_reading.specs.Walk.{Place, on, walk}
use Rattle.layout.proofs.Contents.{row_cells}
use Rattle.layout.proofs.Link.{keep, link, over, then_assoc}
use Rattle.body_reading.proofs.Stores.{add_two}
use Rattle.body_reading.proofs.Chains.{give_took, then_no, then_took}

pub add_none : (o : ℕ) (st : State) → add o [] st ≡ st
unfolding add store
add_none o st = set-get_or st o (own [])

-- no array stands in the row
abbrev pub Flat : Shape → Type 0
Flat end = Unit {0}
Flat (field k r) = Flat r
Flat (absent k r) = Flat r
Flat (array z t i r) = ⊥
Flat (lacking z t i r) = Flat r

pub keep_flat : (l : Shape) → Flat l → (o : ℕ) (x : Value Span l) (st : State) → keep add l o x st ≡ add o (row_cells l x) st
unfolding keep row_cells
keep_flat end h o x st = sym (add_none o st)
keep_flat (field k r) h o x st = keep_flat r h o x.1 _ ∙ add_two o (cells k x.0) (row_cells r x.1) st
keep_flat (absent k r) h o x st = keep_flat r h o x _ ∙ add_two o (absent_cells k) (row_cells r x) st
keep_flat (array z t i r) h o x st = absurd h
keep_flat (lacking z t i r) h o x st = keep_flat r h o x _ ∙ add_two o (absent_count z ∷ []) (row_cells r x) st

module _ (w : Bool) (l : Shape) (o : ℕ) (st : State) (s : List ℕ) (p : ℕ) where
  walk_kept : more p (over (λ x. keep add l o x st) (read (by_place w) l p (drop p s))) ≡ on (walk w l o st) s p
  unfolding on
  walk_kept = ap (more p) (sym ((link w add l o st).law p (drop p s) tt))

  more_over : {A B : Type 0} (g : A → B) (r : Res A) → over g (more p r) ≡ more p (over g r)
  more_over g (ok x n) = refl
  more_over g (bad e) = refl

  from_read : over (λ x. keep add l o x st) (on (read (by_place w) l) s p) ≡ on (walk w l o st) s p
  unfolding on
  from_read = more_over (λ x. keep add l o x st) (read (by_place w) l p (drop p s)) ∙ walk_kept

  pub row_took : (x : Value Span l) (n : ℕ) → ok x n ≡ on (read (by_place w) l) s p → ok (keep add l o x st) n ≡ on (walk w l o st) s p
  row_took x n e = ap (over (λ x. keep add l o x st)) e ∙ from_read

  pub row_no : (c : Refusal) → bad c ≡ on (read (by_place w) l) s p → bad c ≡ on (walk w l o st) s p
  row_no c e = ap (over (λ x. keep add l o x st)) e ∙ from_read

-- a row with no arrays, stored in its table wherever that stands
pub placed_took : (w : Bool) (l : Shape) → Flat l → (e : Place) (t t' : Tab) (s : List ℕ) (p : ℕ) (x : Value Span l) (n : ℕ) → ok x n ≡ on (read (by_place w) l) s p → t' ≡ store t (row_cells l x) → ok (e.h t') n ≡ on (walk w l e.o (e.h t)) s p
placed_took w l f e t t' s p x n d i =
    ap (λ (u : State). ok u n) (ap e.h i ∙ sym (e.law t (row_cells l x)) ∙ sym (keep_flat l f e.o x (e.h t))) ∙ row_took w l e.o (e.h t) s p x n d

-- the fields of l, and r behind them
abbrev pub onto : Shape → Shape → Shape
onto end r = r
onto (field k l) r = field k (onto l r)
onto (absent k l) r = absent k (onto l r)
onto (array z t i l) r = array z t i (onto l r)
onto (lacking z t i l) r = lacking z t i (onto l r)

-- a field that a version may lack, in front of others
module _ (k : Basic) where
  pub stands_flat : (b : Bool) (l : Shape) → Flat l → Flat (stands b k l)
  unfolding stands
  stands_flat true l h = h
  stands_flat false l h = h

  pub stands_onto : (b : Bool) (l r : Shape) → onto (stands b k l) r ≡ stands b k (onto l r)
  unfolding stands
  stands_onto true l r = refl
  stands_onto false l r = refl

-- a value that is there already
pub then_give : {A B : Type 0} (x : A) (f : A → Reader B) (p : ℕ) (s : List ℕ) → then (give x) f p s ≡ f x p s
unfolding then give
then_give {A} {B} x f p s = nothing (f x (p + 0) s) ∙ ap (λ (q : ℕ). f x q s) (add-zero p)
  where
    nothing : (o : Res B) → more 0 o ≡ o
    nothing (ok y n) = ap (λ (k : ℕ). ok y k) (zero-add n)
    nothing (bad e) = refl

module _ (w : Bool) (r : Shape) (o : ℕ) where
  abbrev behind : (l : Shape) → State → Value Span l → Reader State
  behind l st x = walk w r o (add o (row_cells l x) st)

  front_is : (l : Shape) → Flat l → (st : State) (p : ℕ) (s : List ℕ) → walk w (onto l r) o st p s ≡ then (read (by_place w) l) (behind l st) p s
  unfolding read_rows read row_cells pair
  front_is end h st p s = ap (λ (u : State). walk w r o u p s) (sym (add_none o st)) ∙ sym (then_give tt (behind end st) p s)
  front_is (field k l) h st p s =
      (λ i. then (read_basic (by_place w) k) (λ x q t. front_is l h (add o (cells k x) st) q t i) p s)
      ∙ (λ i. then (read_basic (by_place w) k) (λ x. then (read (by_place w) l) (λ y q t. ((ap (λ (u : State). walk w r o u q t) (add_two o (cells k x) (row_cells l y) st)) ∙ sym (then_give (x, y) (behind (field k l) st) q t)) i)) p s)
      ∙ (λ i. then (read_basic (by_place w) k) (λ x q t. then_assoc (read (by_place w) l) (λ y. give (x, y)) (behind (field k l) st) q t i) p s)
      ∙ then_assoc (read_basic (by_place w) k) (λ x. then (read (by_place w) l) (λ y. give (x, y))) (behind (field k l) st) p s
  front_is (absent k l) h st p s =
      front_is l h (add o (absent_cells k) st) p s
      ∙ (λ i. then (read (by_place w) l) (λ y q t. ap (λ (u : State). walk w r o u q t) (add_two o (absent_cells k) (row_cells l y) st) i) p s)
  front_is (array z t i l) h st p s = absurd h
  front_is (lacking z t i l) h st p s =
      front_is l h (add o (absent_count z ∷ []) st) p s
      ∙ (λ i. then (read (by_place w) l) (λ y q t. ap (λ (u : State). walk w r o u q t) (add_two o (absent_count z ∷ []) (row_cells l y) st) i) p s)

  module _ (l : Shape) (h : Flat l) (st : State) (s : List ℕ) (p : ℕ) where
    on_front : on (then (read (by_place w) l) (behind l st)) s p ≡ on (walk w (onto l r) o st) s p
    unfolding on
    on_front = ap (more p) (sym (front_is l h st p (drop p s)))

    pub front_no : (c : Refusal) → bad c ≡ on (read (by_place w) l) s p → bad c ≡ on (walk w (onto l r) o st) s p
    front_no c e = then_no (read (by_place w) l) (behind l st) s p e ∙ on_front

    pub front_took : (x : Value Span l) (q : ℕ) → ok x q ≡ on (read (by_place w) l) s p → (z : Res State) → z ≡ on (walk w r o (add o (row_cells l x) st)) s q → z ≡ on (walk w (onto l r) o st) s p
    front_took x q e z d = then_took (read (by_place w) l) (behind l st) s p e d ∙ on_front

-- ---- a row read field by field

module _ (w : Bool) (k : Basic) (r : Shape) (s : List ℕ) (p : ℕ) where
  pub reads_no : (c : Refusal) → bad c ≡ on (read_basic (by_place w) k) s p → bad c ≡ on (read (by_place w) (field k r)) s p
  unfolding read pair
  reads_no c e = then_no (read_basic (by_place w) k) _ s p e

  pub reads_took : (x : BasicValue Span k) (q : ℕ) → ok x q ≡ on (read_basic (by_place w) k) s p → (z : Res (Value Span r)) → z ≡ on (read (by_place w) r) s q → over (λ y. (x, y)) z ≡ on (read (by_place w) (field k r)) s p
  unfolding read pair
  reads_took x q e (ok y n) d = then_took (read_basic (by_place w) k) _ s p e (then_took (read (by_place w) r) _ s q d (give_took (x, y) s n))
  reads_took x q e (bad c) d = then_took (read_basic (by_place w) k) _ s p e (then_no (read (by_place w) r) _ s q d)

pub reads_end : (w : Bool) (s : List ℕ) (p : ℕ) → ok tt p ≡ on (read (by_place w) end) s p
unfolding read
reads_end w s p = give_took tt s p
