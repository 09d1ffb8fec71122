-- Faults that all have the same number: there is one unless all is good.
use mathlib.Core.Bool.{Bool, ◌&&◌, false, true}
use mathlib.Core.List.{List, [], ◌∷◌}
use mathlib.Core.Path.{◌∙◌, ◌≡◌, ap, ap₂, refl, sym}
use Prim.Native.Nat.{suc, zero, ℕ}
use native.Mathlib.Omega.{arith}
use lib.Dec.{eqb}
use borrow.Author.Tests.{ne_eqb}
use Rattle.layout.specs.Rows.{Shape}
use Rattle.layout.specs.Tables.{all, rows_of}
use Rattle.layout.specs.Write.{first_of, or, unless}
use Rattle.body_writing.specs.Writes.{row_fault, rows_fault}

pub or_unless : (a b : Bool) (e : ℕ) → or (unless a (suc e)) (unless b (suc e)) ≡ unless (a && b) (suc e)
unfolding or unless
or_unless true b e = refl
or_unless false b e = refl

pub or_both : (a b : Bool) (e x : ℕ) → or (unless a (suc e)) (or (unless b (suc e)) x) ≡ or (unless (a && b) (suc e)) x
unfolding or unless
or_both true b e x = refl
or_both false b e x = refl

pub or_none : (a : ℕ) → or a 0 ≡ a
unfolding or
or_none zero = refl
or_none (suc a) = refl

-- three numbers, and nothing after them
pub or_three : (a b c : Bool) (e : ℕ) → or (unless a (suc e)) (or (unless b (suc e)) (or (unless c (suc e)) 0)) ≡ unless (a && (b && c)) (suc e)
or_three a b c e = ap (λ (y : ℕ). or (unless a (suc e)) (or (unless b (suc e)) y)) (or_none (unless c (suc e))) ∙ ap (or (unless a (suc e))) (or_unless b c e) ∙ or_unless a (b && c) e

some_eqb : (n : ℕ) → eqb (suc n) 0 ≡ false
some_eqb n = ne_eqb (suc n) 0 (λ d. omega arith)

pub none_is : (b : Bool) (e : ℕ) → eqb (unless b (suc e)) 0 ≡ b
unfolding unless
none_is true e = refl
none_is false e = some_eqb e

-- 0 or one more than e, and nothing else
pub only : (n : ℕ) (b : Bool) (e : ℕ) → n ≡ unless b (suc e) → n ≡ unless (eqb n 0) (suc e)
only n b e f = f ∙ ap (λ (c : Bool). unless c (suc e)) (sym (ap (λ (m : ℕ). eqb m 0) f ∙ none_is b e))

-- the two ways out of a test
module _ (b : Bool) (e x : ℕ) (i : unless b e ≡ x) where
  pub unless_bad : b ≡ false → e ≡ x
  unfolding unless
  unless_bad h = sym (ap (λ (c : Bool). unless c e) h) ∙ i

  pub unless_none : b ≡ true → 0 ≡ x
  unfolding unless
  unless_none h = sym (ap (λ (c : Bool). unless c e) h) ∙ i

pub first_unless : {A : Type 0} (g : A → ℕ) (p : A → Bool) (e : ℕ) → ((x : A) → g x ≡ unless (p x) (suc e)) → (xs : List A) → first_of g xs ≡ unless (all p xs) (suc e)
unfolding first_of all unless
first_unless g p e h [] = refl
first_unless g p e h (x ∷ xs) = ap₂ or (h x) (first_unless g p e h xs) ∙ or_unless (p x) (all p xs) e

pub or_clean : (a b : ℕ) → (eqb a 0 && eqb b 0) ≡ eqb (or a b) 0
unfolding or
or_clean zero b = refl
or_clean (suc a) b = rw (some_eqb a) refl

first_none : {A : Type 0} (g : A → ℕ) (xs : List A) → all (λ x. eqb (g x) 0) xs ≡ eqb (first_of g xs) 0
unfolding first_of all
first_none g [] = refl
first_none g (x ∷ xs) = ap (λ (b : Bool). eqb (g x) 0 && b) (first_none g xs) ∙ or_clean (g x) (first_of g xs)

-- ---- the rows of a table

module _ (lent : List ℕ) (l : Shape) (w : ℕ) (table : List ℕ) where
  pub rows_clean : all (λ r. eqb (row_fault lent l r) 0) (rows_of w table) ≡ eqb (rows_fault lent l w table) 0
  unfolding rows_fault
  rows_clean = first_none (row_fault lent l) (rows_of w table)

  pub rows_only : (p : List ℕ → Bool) (e : ℕ) → ((r : List ℕ) → row_fault lent l r ≡ unless (p r) (suc e)) → rows_fault lent l w table ≡ unless (eqb (rows_fault lent l w table) 0) (suc e)
  unfolding rows_fault
  rows_only p e h = only _ (all p (rows_of w table)) e (first_unless (row_fault lent l) p e h (rows_of w table))
