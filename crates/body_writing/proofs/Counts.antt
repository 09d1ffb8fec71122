-- Counts: the rows that one tells, that of a table judged by its rows, and those of all rows of a table added up. And cells, which are below 2^64.
use mathlib.Core.List.{List, [], ◌∷◌}
use mathlib.Core.Bool.{Bool, ◌&&◌, and-false, and-true, cond, false, true}
use mathlib.Core.Logic.{◌≢◌}
use mathlib.Core.Path.{◌∙◌, ◌≡◌, ap, refl, sym}
use Prim.Native.Nat.{◌+◌, ◌-◌, ◌<◌, ◌^◌, ◌≤◌, ℕ}
use native.Mathlib.Omega.{arith}
use lib.ListN.{drop, get_or}
use lib.Seq.{get_or-drop}
use lib.Dec.{eqb, ltb}
use borrow.Author.Tests.{eq-eqb, ne_eqb}
use Rattle.layout.specs.Primitives.{minus}
use Rattle.layout.specs.Tables.{all, count, good_count, sum}
use Rattle.body_writing.specs.Asked.{tells, told, told_good}
use Rattle.layout.proofs.Tests.{lt-true, not_minus, of_eq, of-ne}

-- every cell is below 2^64
abbrev pub Cells : List ℕ → Type 0
Cells cs = (i : ℕ) → get_or cs i 0 < 2 ^ 64

pub cells_drop : (k : ℕ) (cs : List ℕ) → Cells cs → Cells (drop k cs)
cells_drop k cs h i = omega (arith, get_or-drop k cs i 0, h (k + i))

-- −1 tells no rows
pub told_none : (c : ℕ) → c ≡ minus → 0 ≡ count c
unfolding count
told_none c e = sym (rw (eq-eqb c minus e))

pub told_some : (c : ℕ) → c ≢ minus → c ≡ count c
unfolding count
told_some c e = sym (rw (ne_eqb c minus e))

pub count_most : (c : ℕ) → count c ≤ c
unfolding count
count_most c = go (eqb c minus)
  where
    go : (b : Bool) → cond b 0 c ≤ c
    go true = omega arith
    go false = omega arith

-- a count of few rows is a good one
pub count_good : (c : ℕ) → count c < 2 ^ 63 → good_count true c ≡ true
unfolding count good_count
count_good c h = go (eqb c minus) h
  where
    go : (b : Bool) → cond b 0 c < 2 ^ 63 → cond b true (ltb c (2 ^ 63)) ≡ true
    go true h = refl
    go false h = lt-true c (2 ^ 63) h

-- one below 2^63 is a good count, and tells itself
module _ (c : ℕ) (h : c < 2 ^ 63) where
  pub few_good : (b : Bool) → good_count b c ≡ true
  unfolding good_count
  few_good b = rw (not_minus c (omega arith), lt-true c (2 ^ 63) h)

  pub few_told : count c ≡ c
  unfolding count
  few_told = rw (not_minus c (omega arith))

-- `b`: it may be −1
module _ (b : Bool) (c : ℕ) where
  pub count_null : c ≡ minus → b ≡ good_count b c
  unfolding good_count
  count_null e = sym (rw (eq-eqb c minus e))

  pub count_some : c ≢ minus → ltb c 9223372036854775808 ≡ good_count b c
  unfolding good_count
  count_some e = sym (rw (ne_eqb c minus e))

-- a table of n rows, and r, what else is asked of it
module _ (c n : ℕ) (r : Bool) {k : ℕ} (e : k ≡ count c) where
  pub rows_other : k ≢ n → false ≡ (good_count true c && (r && eqb (count c) n))
  rows_other h = sym (rw (ne_eqb (count c) n (λ d. h (e ∙ d)), and-false r) (and-false (good_count true c)))

  pub rows_same : k ≡ n → n < 2 ^ 63 → (b : Bool) → b ≡ r → b ≡ (good_count true c && (r && eqb (count c) n))
  rows_same h l b i = i ∙ sym (rw (count_good c (omega arith), eq-eqb (count c) n (sym e ∙ h)) (and-true r))

-- two tests that say the same
pub same_test : (a b c d : ℕ) → (a ≡ b → c ≡ d) → (c ≡ d → a ≡ b) → eqb a b ≡ eqb c d
same_test a b c d f g = go (eqb a b) refl
  where
    go : (t : Bool) → eqb a b ≡ t → eqb a b ≡ eqb c d
    go true e = e ∙ sym (eq-eqb c d (f (of_eq a b e)))
    go false e = e ∙ sym (ne_eqb c d (λ h. of-ne a b e (g h)))

-- ---- row by row: those left decide, with what is left of n

module _ (b : Bool) (at left : ℕ) (r : List ℕ) (rs : List (List ℕ)) (g : Bool) (d : g ≡ good_count b (get_or r at 0)) where
  -- a cell that is no count
  pub tells_bad : g ≡ false → false ≡ tells b at left (r ∷ rs)
  unfolding tells told_good all
  tells_bad f = sym (rw (sym d ∙ f))

  module _ (k : ℕ) (q : k ≡ count (get_or r at 0)) where
    pub tells_over : left < k → false ≡ tells b at left (r ∷ rs)
    unfolding tells told sum
    tells_over m = sym (rw (ne_eqb (count (get_or r at 0) + sum (told at) rs) left (λ e. omega (arith, q))) (and-false (all (told_good b at) (r ∷ rs))))

    pub tells_more : g ≡ true → k ≤ left → tells b at (left - k) rs ≡ tells b at left (r ∷ rs)
    unfolding tells told told_good all sum
    tells_more f m =
        ap (λ (t : Bool). all (told_good b at) rs && t)
        (same_test (sum (told at) rs) (left - k) (count (get_or r at 0) + sum (told at) rs) left (λ e. omega (arith, q)) (λ e. omega (arith, q)))
        ∙ sym (rw (sym d ∙ f))

pub tells_end : (b : Bool) (at left : ℕ) → eqb left 0 ≡ tells b at left []
unfolding tells all sum
tells_end b at left = same_test left 0 0 left (λ e. sym e) (λ e. sym e)
