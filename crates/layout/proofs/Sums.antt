-- Sums over lists, and lists of lists.
use mathlib.Core.Bool.{cond}
use mathlib.Core.List.{List, [], ◌++◌, ◌∷◌, map}
use mathlib.Core.Logic.{◌≢◌}
use mathlib.Core.Path.{◌∙◌, ◌≡◌, ap, refl, sym}
use Prim.Native.Nat.{◌+◌, ◌<◌, ◌≤◌, suc, zero, ℕ}
use native.Mathlib.Nat.{zero-add}
use native.Mathlib.Omega.{arith}
use lib.Dec.{eqb}
use lib.ListN.{length, length-append}
use borrow.Author.Tests.{ne_eqb}
use Rattle.layout.specs.Tables.{from, sum}
use Rattle.layout.proofs.Contents.{flatten}
use Rattle.layout.proofs.Every.{All}
use Rattle.layout.proofs.Tests.{by_test, of_eq, of-ne}

pub sum_add : {A : Type 0} (g h : A → ℕ) (xs : List A) → sum (λ x. g x + h x) xs ≡ sum g xs + sum h xs
unfolding sum
sum_add g h [] = refl
sum_add g h (x ∷ xs) = let r = sum_add g h xs in omega (arith, r)

pub sum_same : {A : Type 0} (P : A → Type 0) (g h : A → ℕ) → ((x : A) → P x → g x ≡ h x) → (xs : List A) → All P xs → sum g xs ≡ sum h xs
unfolding sum
sum_same P g h e [] a = refl
sum_same P g h e (x ∷ xs) a = λ i. e x a.0 i + sum_same P g h e xs a.1 i

pub sum_eq : {A : Type 0} (g h : A → ℕ) → ((x : A) → g x ≡ h x) → (xs : List A) → sum g xs ≡ sum h xs
unfolding sum
sum_eq g h e [] = refl
sum_eq g h e (x ∷ xs) = λ i. e x i + sum_eq g h e xs i

pub sum_zero : {A : Type 0} (g : A → ℕ) → ((x : A) → g x ≡ 0) → (xs : List A) → sum g xs ≡ 0
unfolding sum
sum_zero g e [] = refl
sum_zero g e (x ∷ xs) = λ i. e x i + sum_zero g e xs i

pub sum_map : {A B : Type 0} (g : B → ℕ) (f : A → B) (xs : List A) → sum g (map f xs) ≡ sum (λ x. g (f x)) xs
unfolding sum
sum_map g f [] = refl
sum_map g f (x ∷ xs) = ap (λ (n : ℕ). g (f x) + n) (sum_map g f xs)

pub sum_append : {A : Type 0} (g : A → ℕ) (xs ys : List A) → sum g (xs ++ ys) ≡ sum g xs + sum g ys
unfolding sum
sum_append g [] ys = sym (zero-add (sum g ys))
sum_append g (x ∷ xs) ys = let r = sum_append g xs ys in omega (arith, r)

pub sum_flatten : {A B : Type 0} (g : B → ℕ) (f : A → List B) (xs : List A) → sum g (flatten f xs) ≡ sum (λ x. sum g (f x)) xs
unfolding sum
sum_flatten g f [] = refl
sum_flatten g f (x ∷ xs) = sum_append g (f x) (flatten f xs) ∙ ap (λ (n : ℕ). sum g (f x) + n) (sum_flatten g f xs)

pub length_flatten : {A B : Type 0} (f : A → List B) (xs : List A) → length (flatten f xs) ≡ sum (λ x. length (f x)) xs
unfolding sum
length_flatten f [] = refl
length_flatten f (x ∷ xs) = length-append (f x) (flatten f xs) ∙ ap (λ (n : ℕ). length (f x) + n) (length_flatten f xs)

pub sum_ones : {A : Type 0} (xs : List A) → sum (λ x. 1) xs ≡ length xs
unfolding sum
sum_ones [] = refl
sum_ones (x ∷ xs) = let r = sum_ones xs in omega arith

-- row by row or column by column
pub sum_swap : {A B : Type 0} (g : A → B → ℕ) (xs : List A) (ys : List B) → sum (λ x. sum (g x) ys) xs ≡ sum (λ y. sum (λ x. g x y) xs) ys
unfolding sum
sum_swap g [] ys = sym (sum_zero (λ y. 0) (λ y. refl) ys)
sum_swap g (x ∷ xs) ys = ap (λ (n : ℕ). sum (g x) ys + n) (sum_swap g xs ys) ∙ sym (sum_add (g x) (λ y. sum (λ x. g x y) xs) ys)

-- ---- one of the tables is another

-- v is none of those from s on
pub past : (a f : ℕ → ℕ) (v s n : ℕ) → v < s → sum (λ u. cond (eqb u v) (a u) (f u)) (from s n) ≡ sum f (from s n)
unfolding sum from
past a f v s zero h = refl
past a f v s (suc n) h = λ i. cond (ne_eqb s v (λ e. omega arith) i) (a s) (f s) + past a f v (suc s) n (omega arith) i

-- v is one of them
pub one_of : (a f : ℕ → ℕ) (v s n : ℕ) → s ≤ v → v < s + n → f v ≡ 0 → sum (λ u. cond (eqb u v) (a u) (f u)) (from s n) ≡ a v + sum f (from s n)
unfolding sum from
one_of a f v s zero h g z = absurd (omega arith)
one_of a f v s (suc n) h g z =
    by_test (eqb s v)
    (λ e. let d = of_eq s v e in rw e (omega (arith, ap a d, ap f d, past a f v (suc s) n (omega arith))))
    (λ e. let d : s ≢ v = of-ne s v e in rw e (omega (arith, one_of a f v (suc s) n (omega arith) (omega arith) z)))
