-- The field that is named where a value is refused is the first that has a fault: for every shape.
use mathlib.Core.Bool.{Bool, cond, false, true}
use mathlib.Core.List.{List, [], ◌∷◌}
use mathlib.Core.Option.{none, some}
use mathlib.Core.Path.{◌∙◌, ◌≡◌, ap, refl, subst, sym}
use Prim.Native.Nat.{suc, zero, ℕ}
use native.Mathlib.Omega.{arith}
use lib.Dec.{eqb}
use lib.ListN.{get_or, length}
use borrow.Author.Tests.{eq-eqb, ne_eqb}
use Rattle.layout.specs.Primitives.{Maybe, Size, keeps}
use Rattle.layout.specs.Rows.{Shape, Value, absent, array, end, field, lacking}
use Rattle.layout.specs.Write.{basic_fault, fault, first_of, or, sized_fault, too_long}
use Rattle.layout.specs.Names.{Sought, begun, blame, blame_each, blame_items, else, past, there}

-- the first field of a value that has a fault, whatever its number
unfoldable pub first : (l : Shape) → ℕ → ℕ → List ℕ → Value (List ℕ) l → Sought
first end row f c x = past c
first (field k r) row f c x = cond (eqb (basic_fault k x.0) 0) (first r row (suc f) c x.1) (there row f)
first (absent k r) row f c x = first r row f c x
first (array z t i r) row f c x =
    cond (eqb (sized_fault (keeps z) z (λ xs. 0) x.0) 0) (else (blame_items (keeps z) (λ j d y. first i j 0 d y) t x.0 c) (λ d. first r row (suc f) d x.1)) (there row f)
first (lacking z t i r) row f c x = first r row f c x

pub record Passed (a b : Sought) : Type 0 where
  pub counts : List ℕ
  pub one : a ≡ past counts
  pub other : b ≡ past counts

pub record Met (a b : Sought) : Type 0 where
  pub row : ℕ
  pub field : ℕ
  pub one : a ≡ there row field
  pub other : b ≡ there row field

-- n is the fault of what is walked over, and the first walk seeks e: with no fault both pass, with e both stop at one field
record Agree (e n : ℕ) (a b : Sought) : Type 0 where
  if_none : n ≡ 0 → Passed a b
  if_sought : n ≡ suc e → Met a b

zero_suc : {X : Type 0} {n : ℕ} → suc n ≡ 0 → X
zero_suc h = absurd (omega arith)

agree_past : (e : ℕ) (c : List ℕ) → Agree e 0 (past c) (past c)
agree_past e c = record { if_none = λ h. record { counts = c; one = refl; other = refl }; if_sought = λ h. zero_suc (sym h) }

-- a field of fault m, and what follows it
agree_field : (e m k row f : ℕ) (a b : Sought) → Agree e k a b → Agree e (or m k) (cond (eqb m (suc e)) (there row f) a) (cond (eqb m 0) b (there row f))
unfolding or
agree_field e zero k row f a b h = rw (ne_eqb 0 (suc e) (λ i. zero_suc (sym i))) h
agree_field e (suc m) k row f a b h = record { if_none = λ i. zero_suc i; if_sought = λ i. record { row = row; field = f; one = rw (eq-eqb (suc m) (suc e) i); other = rw (ne_eqb (suc m) 0 (λ j. zero_suc j)) } }

agree_else : (e m k : ℕ) (a b : Sought) (g h : List ℕ → Sought) → Agree e m a b → ((c : List ℕ) → Agree e k (g c) (h c)) → Agree e (or m k) (else a g) (else b h)
unfolding or
agree_else e zero k a b g h one two = let p = one.if_none refl in subst (λ (x : Sought). Agree e k (else x g) (else b h)) (sym p.one) (subst (λ (x : Sought). Agree e k (g p.counts) (else x h)) (sym p.other) (two p.counts))
agree_else e (suc m) k a b g h one two = record {
  if_none = λ i. zero_suc i;
  if_sought = λ i. let p = one.if_sought i in record { row = p.row; field = p.field; one = ap (λ x. else x g) p.one; other = ap (λ x. else x h) p.other };
}

module _ {A : Type 0} (e : ℕ) (n : A → ℕ) (g h : ℕ → List ℕ → A → Sought) (each : (j : ℕ) (d : List ℕ) (y : A) → Agree e (n y) (g j d y) (h j d y)) (t : ℕ) where
  agree_each : (xs : List A) (c : List ℕ) → Agree e (first_of n xs) (blame_each g t xs c) (blame_each h t xs c)
  unfolding first_of blame_each
  agree_each [] c = agree_past e c
  agree_each (x ∷ xs) c = agree_else e (n x) (first_of n xs) _ _ _ _ (each (get_or c t 0) (begun t c) x) (λ d. agree_each xs d)

  or_none : (m : ℕ) → or m 0 ≡ m
  unfolding or
  or_none zero = refl
  or_none (suc m) = refl

  or_or : (m i k : ℕ) → or (or m i) k ≡ or m (or i k)
  unfolding or
  or_or zero i k = refl
  or_or (suc m) i k = refl

  -- a count of fault m, the elements, and what follows
  agree_counted : (xs : List A) (m row f k : ℕ) (c : List ℕ) (u w : List ℕ → Sought) → ((d : List ℕ) → Agree e k (u d) (w d)) →
      Agree e (or (or m (first_of n xs)) k) (cond (eqb (or m 0) (suc e)) (there row f) (else (blame_each g t xs c) u)) (cond (eqb (or m 0) 0) (else (blame_each h t xs c) w) (there row f))
  agree_counted xs m row f k c u w r = rw (or_none m, or_or m (first_of n xs) k) (agree_field e m (or (first_of n xs) k) row f _ _ (agree_else e (first_of n xs) k _ _ u w (agree_each xs c) r))

  agree_array : (b : Bool) (z : Size) (x : Maybe b (List A)) (row f k : ℕ) (c : List ℕ) (u w : List ℕ → Sought) → ((d : List ℕ) → Agree e k (u d) (w d)) →
      Agree e (or (sized_fault b z (first_of n) x) k) (cond (eqb (sized_fault b z (λ xs. 0) x) (suc e)) (there row f) (else (blame_items b g t x c) u)) (cond (eqb (sized_fault b z (λ xs. 0) x) 0) (else (blame_items b h t x c) w) (there row f))
  unfolding sized_fault blame_items or
  agree_array true z none row f k c u w r = rw (ne_eqb 0 (suc e) (λ i. zero_suc (sym i))) (r c)
  agree_array true z (some xs) row f k c u w r = agree_counted xs (too_long z (length xs)) row f k c u w r
  agree_array false z xs row f k c u w r = agree_counted xs (too_long z (length xs)) row f k c u w r

agree : (e : ℕ) (l : Shape) (row f : ℕ) (c : List ℕ) (x : Value (List ℕ) l) → Agree e (fault l x) (blame (suc e) l row f c x) (first l row f c x)
unfolding fault blame first
agree e end row f c x = agree_past e c
agree e (field k r) row f c x = agree_field e (basic_fault k x.0) (fault r x.1) row f _ _ (agree e r row (suc f) c x.1)
agree e (absent k r) row f c x = agree e r row f c x
agree e (array z t i r) row f c x = agree_array e (fault i) _ _ (λ j d y. agree e i j 0 d y) t (keeps z) z x.0 row f (fault r x.1) c _ _ (λ d. agree e r row (suc f) d x.1)
agree e (lacking z t i r) row f c x = agree e r row f c x

-- a value with the fault suc e is blamed on the first of its fields that has one
pub blamed_first : (e : ℕ) (l : Shape) (row f : ℕ) (c : List ℕ) (x : Value (List ℕ) l) → fault l x ≡ suc e → Met (blame (suc e) l row f c x) (first l row f c x)
blamed_first e l row f c x h = (agree e l row f c x).if_sought h
