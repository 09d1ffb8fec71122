-- All of a list judged one by one, as a loop does it that stops at the first that is not good.
use mathlib.Core.Bool.{Bool, ◌&&◌, cond, false, true}
use mathlib.Core.List.{List, [], ◌∷◌}
use mathlib.Core.Path.{◌∙◌, ◌≡◌, ap, ap₂, refl, sym}
use Prim.Native.Nat.{◌*◌, ◌+◌, ◌/◌, ◌<◌, ◌≤◌, suc, ℕ}
use native.Mathlib.Numerals.{add-one}
use native.Mathlib.Omega.{arith}
use lib.ListN.{drop, drop_of_length-le, get_or, length}
use lib.Seq.{drop-cons}
use Rattle.layout.specs.Tables.{all, rows_of}
use Rattle.layout.proofs.Chunks.{rows_many}

pub all_eq : {A : Type 0} (p q : A → Bool) → ((x : A) → p x ≡ q x) → (xs : List A) → all p xs ≡ all q xs
unfolding all
all_eq p q h [] = refl
all_eq p q h (x ∷ xs) = ap₂ (λ (a b : Bool). a && b) (h x) (all_eq p q h xs)

-- two tests of each
pub all_both : {A : Type 0} (p q : A → Bool) → (xs : List A) → all (λ x. p x && q x) xs ≡ (all p xs && all q xs)
unfolding all
all_both p q [] = refl
all_both p q (x ∷ xs) = ap (λ (b : Bool). (p x && q x) && b) (all_both p q xs) ∙ swap (p x) (q x) (all p xs) (all q xs)
  where
    swap : (a b c d : Bool) → ((a && b) && (c && d)) ≡ ((a && c) && (b && d))
    swap true true true d = refl
    swap true true false d = refl
    swap true false true d = refl
    swap true false false d = refl
    swap false b c d = refl

-- the first i rows of width w are good, and those left decide
pub record Judged (p : List ℕ → Bool) (w : ℕ) (table : List ℕ) (i : ℕ) : Type 0 where
  pub below : i ≤ length table / w
  pub same : all p (drop i (rows_of w table)) ≡ all p (rows_of w table)

module _ (p : List ℕ → Bool) (w : ℕ) (table : List ℕ) where
  pub judged_start : Judged p w table 0
  judged_start = record { below = omega arith; same = refl }

  module _ (i : ℕ) (a : Judged p w table i) (h : i < length table / w) (b : Bool) (e : b ≡ p (get_or (rows_of w table) i [])) where
    split : all p (drop i (rows_of w table)) ≡ (p (get_or (rows_of w table) i []) && all p (drop (suc i) (rows_of w table)))
    unfolding all
    split = ap (all p) (drop-cons (rows_of w table) i [] (omega (arith, rows_many w table)))

    pub judged_more : b ≡ true → Judged p w table (i + 1)
    judged_more t = record {
      below = omega arith;
      same =
          ap (λ (k : ℕ). all p (drop k (rows_of w table))) (add-one i)
          ∙ sym (split ∙ ap (λ (b : Bool). b && all p (drop (suc i) (rows_of w table))) (sym e ∙ t))
          ∙ a.same;
    }

    pub judged_stop : b ≡ false → false ≡ all p (rows_of w table)
    judged_stop t = sym (split ∙ ap (λ (b : Bool). b && all p (drop (suc i) (rows_of w table))) (sym e ∙ t)) ∙ a.same

  pub judged_end : (i : ℕ) → Judged p w table i → length table / w ≤ i → true ≡ all p (rows_of w table)
  unfolding all
  judged_end i a h = sym (ap (all p) (drop_of_length-le (rows_of w table) {i = i} (omega (arith, rows_many w table)))) ∙ a.same

-- ---- one judged and the rest

module _ {A : Type 0} (p : A → Bool) (x : A) (xs : List A) (b : Bool) (e : b ≡ p x) where
  pub all_stop : b ≡ false → false ≡ all p (x ∷ xs)
  unfolding all
  all_stop h = sym (rw (sym e ∙ h))

  pub all_more : b ≡ true → all p xs ≡ all p (x ∷ xs)
  unfolding all
  all_more h = sym (rw (sym e ∙ h))

pub all_none : {A : Type 0} (p : A → Bool) → true ≡ all p []
unfolding all
all_none p = refl

-- ---- two rows a turn: those before are good, and these decide

module _ {p : List ℕ → Bool} {w : ℕ} {table : List ℕ} {t : ℕ} (g : Judged p w table (t * 2)) {a : Bool} (e : a ≡ p (get_or (rows_of w table) (t * 2) [])) where
  module _ (h : t < length table / w / 2) where
    pub pair_first : a ≡ false → false ≡ all p (rows_of w table)
    pair_first x = judged_stop p w table (t * 2) g (omega arith) a e x

    module _ (x : a ≡ true) {b : Bool} (f : b ≡ p (get_or (rows_of w table) (t * 2 + 1) [])) where
      one : Judged p w table (t * 2 + 1)
      one = judged_more p w table (t * 2) g (omega arith) a e x

      pub pair_second : b ≡ false → false ≡ all p (rows_of w table)
      pair_second y = judged_stop p w table (t * 2 + 1) one (omega arith) b f y

      pub pair_more : b ≡ true → Judged p w table ((t + 1) * 2)
      pair_more y =
          let n : t * 2 + 1 + 1 ≡ (t + 1) * 2 = omega arith in
          rw n at (judged_more p w table (t * 2 + 1) one (omega arith) b f y)

  -- the last, where their number is odd
  pub odd_last : length table / w / 2 ≤ t → t * 2 < length table / w → a ≡ all p (rows_of w table)
  odd_last l h = last a e
    where
      last : (b : Bool) → b ≡ p (get_or (rows_of w table) (t * 2) []) → b ≡ all p (rows_of w table)
      last true f = judged_end p w table (t * 2 + 1) (judged_more p w table (t * 2) g h true f refl) (omega arith)
      last false f = judged_stop p w table (t * 2) g h false f refl

-- ---- two tests in turn, and a test of what a version may lack

module _ (a x y : Bool) (e : a ≡ x) where
  pub and_first : a ≡ false → false ≡ (x && y)
  and_first h = sym (ap (λ (t : Bool). t && y) (sym e ∙ h))

  pub and_second : a ≡ true → (r : Bool) → r ≡ y → r ≡ (x && y)
  and_second h r k = k ∙ sym (ap (λ (t : Bool). t && y) (sym e ∙ h))

module _ (b x : Bool) where
  pub if_there : b ≡ true → (r : Bool) → r ≡ x → r ≡ cond b x true
  if_there h r e = e ∙ sym (rw h)

  pub if_lacking : b ≡ false → true ≡ cond b x true
  if_lacking h = sym (rw h)

-- whatever the test says
pub always : (b : Bool) → cond b true true ≡ true
always true = refl
always false = refl
