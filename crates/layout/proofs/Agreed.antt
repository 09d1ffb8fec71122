-- The version that is agreed on is the highest that both sides know; −1 says that there is none.
use mathlib.Core.Bool.{◌&&◌, false, true, true≢false}
use mathlib.Core.Logic.{◌↔◌}
use mathlib.Core.Path.{◌∙◌, ◌≡◌, refl, sym}
use Prim.Native.Nat.{◌-◌, ◌<◌, ◌^◌, ◌≤◌, min, suc, ℕ}
use native.Mathlib.Omega.{arith}
use lib.Dec.{leb, leb→le, le→leb}
use lib.IntN.{negsuc, pos, ℤ}
use lib.Signed.{◌≤ℤ◌}
use borrow.Author.Tests.{leb-false}
use Rattle.layout.specs.Primitives.{minus, signed, w64}
use Rattle.layout.specs.Agreement.{highest, negative, reaches, smaller}
use Rattle.layout.proofs.Proper.{both}
use Rattle.layout.proofs.Tests.{by_test, le-true, lt-false, lt-true, of_le}

-- the number that a cell shows
abbrev pub shown : ℕ → ℤ
shown c = signed w64 c

-- ours are low to high, the broker's b .0 to b.1
pub record Common (low high : ℕ) (b : ℕ × ℕ) (v : ℕ) : Type 0 where
  pub ours_low : low ≤ v
  pub ours_high : v ≤ high
  pub theirs_low : shown b.0 ≤ℤ pos v
  pub theirs_high : pos v ≤ℤ shown b.1

pub data Highest (low high : ℕ) (b : ℕ × ℕ) : ℕ → Type 0 where
  lacking : ((v : ℕ) → ¬ Common low high b v) → Highest low high b minus
  most : (v : ℕ) → Common low high b v → ((u : ℕ) → Common low high b u → u ≤ v) → Highest low high b v

-- ---- the order of cells

shown_pos : (c : ℕ) → negative c ≡ false → shown c ≡ pos c
unfolding negative signed
shown_pos c e = rw (lt-true c (2 ^ 63) (leb-false (2 ^ 63) c e))

shown_neg : (c : ℕ) → negative c ≡ true → shown c ≡ negsuc (2 ^ 64 - suc c)
unfolding negative signed
shown_neg c e = rw (lt-false c (2 ^ 63) (of_le (2 ^ 63) c e))

pub reaches_is : (v c : ℕ) → (reaches v c ≡ true) ↔ (shown c ≤ℤ pos v)
unfolding reaches
reaches_is v c =
    by_test (negative c) (λ e. rw (e, shown_neg c e) (λ h. record { le = tt }, λ h. refl))
    (λ e. rw (e, shown_pos c e) (λ h. record { le = le→leb c v (of_le c v h) }, λ h. le-true c v (leb→le c v h.le)))

reaches_up : (u v c : ℕ) → u ≤ v → reaches u c ≡ true → reaches v c ≡ true
unfolding reaches
reaches_up u v c h e = by_test (negative c) (λ d. rw d) (λ d. let g = of_le c u (rw d at e) in rw d (le-true c v (omega arith)))

reached_is : (v c : ℕ) → negative c ≡ false → (pos v ≤ℤ shown c) ↔ (v ≤ c)
reached_is v c e = rw (shown_pos c e) (λ h. leb→le v c h.le, λ h. record { le = le→leb v c h })

unreached : (v c : ℕ) → negative c ≡ true → ¬ (pos v ≤ℤ shown c)
unreached v c e = rw (shown_neg c e) (λ h. h.le)

smaller_is : (a b : ℕ) → smaller a b ≡ min a b
unfolding smaller
smaller_is a b = by_test (leb a b) (λ e. let h = of_le a b e in rw e (omega arith)) (λ e. let h = leb-false a b e in rw e (omega arith))

-- ---- the highest common version

pub highest_is : (low high : ℕ) (b : ℕ × ℕ) → Highest low high b (highest low high b)
unfolding highest
highest_is low high b = by_test (negative b.1) (λ e. rw e (lacking (λ u k. unreached u b.1 e k.theirs_high))) (λ e. rw e (by_test (leb low v && reaches v b.0) (λ d. rw d (there e d)) (λ d. rw d (none e d))))
  where
    v : ℕ
    v = smaller high b.1

    there : negative b.1 ≡ false → (leb low v && reaches v b.0) ≡ true → Highest low high b v
    there e d =
        let a = both (leb low v) (reaches v b.0) d in
        let m = smaller_is high b.1 in
        most v
        (record {
          ours_low = of_le low v a.0;
          ours_high = omega arith;
          theirs_low = (reaches_is v b.0).0 a.1;
          theirs_high = (reached_is v b.1 e).1 (omega arith);
        })
        (λ u k. let h = (reached_is u b.1 e).0 k.theirs_high in omega arith)

    none : negative b.1 ≡ false → (leb low v && reaches v b.0) ≡ false → Highest low high b minus
    none e d = lacking (λ u k.
        let m = smaller_is high b.1 in
        let h = (reached_is u b.1 e).0 k.theirs_high in
        let r = reaches_up u v b.0 (omega arith) ((reaches_is u b.0).1 k.theirs_low) in
        true≢false (sym (rw (le-true low v (omega arith), r)) ∙ d))

-- −1 is no version of ours: so it says that there is none
pub highest_lacks : (low high : ℕ) (b : ℕ × ℕ) → high < minus → (highest low high b ≡ minus) ↔ ((v : ℕ) → ¬ Common low high b v)
highest_lacks low high b h = go (highest low high b) (highest_is low high b)
  where
    go : (n : ℕ) → Highest low high b n → (n ≡ minus) ↔ ((v : ℕ) → ¬ Common low high b v)
    go n (lacking f) = (λ e. f, λ g. refl)
    go n (most v c f) = (λ e. let g = c.ours_high in absurd (omega arith), λ g. absurd (g v c))
