-- Which header a request has, as code compares key and version.
use mathlib.Core.Bool.{and-false, false, true}
use mathlib.Core.Path.{◌∙◌, ◌≡◌, ap, refl, sym}
use native.Mathlib.Omega.{arith}
use Prim.Native.Nat.{ℕ}
use lib.Dec.{eqb}
use lib.IntN.{negsuc, pos, ℤ}
use lib.Signed.{lt_z}
use mir.Facts.{to_z-of_z}
use mir.Syntax.{w64}
use mir.Val.{SFits, of_z, to_z}
use borrow.Author.Tests.{ne_eqb}
use Rattle.layout.specs.Messages.Headers.{request_number}
use Rattle.layout.proofs.Tests.{le-false, le-true, of_ge, of_lt}

other_key : (k v : ℤ) → (of_z w64 k ≡ 18 → ⊥) → 1 ≡ request_number k v
other_key (pos k) (pos v) h = sym (rw (ne_eqb k 18 h))
other_key (pos k) (negsuc v) h = refl
other_key (negsuc k) v h = refl

early : (k v : ℤ) → lt_z v (pos 3) ≡ true → 1 ≡ request_number k v
early (pos k) (pos v) h = sym (rw (le-false 3 v (of_lt v 3 h), and-false (eqb k 18)))
early (pos k) (negsuc v) h = refl
early (negsuc k) v h = refl

late : (v : ℤ) → lt_z v (pos 3) ≡ false → 2 ≡ request_number (pos 18) v
late (pos v) h = sym (rw (le-true 3 v (of_ge v 3 h)))
late (negsuc v) h = let z : ◌≡◌ {A = ℕ} 0 1 = cc in absurd (omega arith)

-- of numbers that passed an argument
module _ (k v : ℤ) where
  pub number_other : (of_z w64 k ≡ 18 → ⊥) → pos 1 ≡ pos (request_number k v)
  number_other h = ap pos (other_key k v h)

  module _ (g : SFits w64 v) where
    pub number_early : lt_z (to_z w64 (of_z w64 v)) (pos 3) ≡ true → pos 1 ≡ pos (request_number k v)
    number_early h = ap pos (early k v (rw (to_z-of_z g) at h))

    pub number_late : SFits w64 k → of_z w64 k ≡ 18 → lt_z (to_z w64 (of_z w64 v)) (pos 3) ≡ false → pos 2 ≡ pos (request_number k v)
    number_late f e h = ap pos (late v (rw (to_z-of_z g) at h) ∙ ap (λ (y : ℤ). request_number y v) (ap (to_z w64) (sym e) ∙ to_z-of_z f))
