-- What calls are given: a version that is not negative is its own number, and one that a message does not have is refused with 1; and a Boolean as a number, of which 0 is false. What holds of all versions is shown one by one, by `up_to` and `between`.
use Rattle.std.specs.Prelude.{not, ◌==◌}
use mathlib.Core.Bool.{Bool, false, true}
use mathlib.Core.List.{List}
use mathlib.Core.Path.{◌∙◌, ◌≡◌, ap, refl, sym}
use Prim.Native.Nat.{◌<◌, ◌^◌, ◌≤◌, suc, zero, ℕ}
use native.Mathlib.Omega.{arith}
use lib.Dec.{T}
use lib.IntN.{nat_abs, negsuc, pos, ℤ}
use lib.Signed.{lt_z, mag, non_neg}
use mir.Facts.{to_z-of_z}
use mir.Syntax.{w64}
use mir.Val.{Fits, SFits, of_z, to_z}
use borrow.Author.Tests.{le-ltb, ne_eqb}
use Rattle.layout.specs.Reading.{Refusal, bad, because}
use Rattle.layout.specs.Tables.{Tables}
use Rattle.layout.specs.Answers.{Answer, Message, made, prefix_read, read_answer, refused, whole_read, write_answer}
use Rattle.primitives.specs.Answers.{is_set, version_of}
use Rattle.layout.proofs.Calls as Calls
use Rattle.layout.proofs.Calls.{read_refused, version_above}
use Rattle.layout.proofs.Tests.{le-false}
pub use Rattle.utf8.proofs.Lines.{Each, between, up_to}

not_both : {b : Bool} → b ≡ true → b ≡ false → ⊥
not_both {b} e g = let z : ◌≡◌ {A = ℕ} 0 1 = cc in omega arith

below : (z : ℤ) → lt_z z (pos 0) ≡ true → 65536 ≡ version_of z
below (pos n) e = absurd (not_both e (le-ltb n 0 (omega arith)))
below (negsuc n) e = refl

cast : (z : ℤ) → lt_z z (pos 0) ≡ false → mag z < 2 ^ 63 → T (non_neg z) × Fits w64 (nat_abs z)
cast (pos n) e m = (tt, record { fits = omega arith })
cast (negsuc n) e m = absurd (not_both refl e)

itself : (z : ℤ) → lt_z z (pos 0) ≡ false → nat_abs z ≡ version_of z
itself (pos n) e = refl
itself (negsuc n) e = absurd (not_both refl e)

-- the same of a number that passed an argument
module _ (z : ℤ) (f : SFits w64 z) where
  pub version_below : lt_z (to_z w64 (of_z w64 z)) (pos 0) ≡ true → 65536 ≡ version_of z
  version_below e = below z (rw (to_z-of_z f) at e)

  pub version_cast : lt_z (to_z w64 (of_z w64 z)) (pos 0) ≡ false → T (non_neg (to_z w64 (of_z w64 z))) × Fits w64 (nat_abs (to_z w64 (of_z w64 z)))
  version_cast e = rw (to_z-of_z f) (cast z (rw (to_z-of_z f) at e) f.sfits)

  pub version_itself : lt_z (to_z w64 (of_z w64 z)) (pos 0) ≡ false → nat_abs (to_z w64 (of_z w64 z)) ≡ version_of z
  version_itself e = rw (to_z-of_z f) (itself z (rw (to_z-of_z f) at e))

-- ---- a message's versions

module _ (m : Message) (z : ℤ) (v : ℕ) (e : v ≡ version_of z) where
  pub unknown : m.last < v → (w : Bool) (s : List ℕ) (olds : Tables) (c : Refusal) → c ≡ because 1 0 → (refused c, olds) ≡ read_answer w m z olds s
  unknown h w s olds c d = go z e
    where
      go : (z : ℤ) → v ≡ version_of z → (refused c, olds) ≡ read_answer w m z olds s
      go (pos n) i = sym (read_refused m (pos n) s olds w c (version_above w m n s (omega arith) ∙ ap bad (sym d)))
      go (negsuc n) i = sym (read_refused m (negsuc n) s olds w c (Calls.version_below w m n s ∙ ap bad (sym d)))

  -- the same of what is written
  pub unwritten : m.last < v → (lent : List ℕ) (st : Tables) (out : List ℕ) (c : Refusal) → c ≡ because 1 0 → ◌≡◌ {A = Answer × List ℕ} (refused c, out) (write_answer m z lent st out)
  unfolding write_answer made
  unwritten h lent st out c d = go z e
    where
      go : (z : ℤ) → v ≡ version_of z → ◌≡◌ {A = Answer × List ℕ} (refused c, out) (write_answer m z lent st out)
      go (pos n) i = rw (le-false n m.last (omega arith)) (λ t. (refused (d t), out))
      go (negsuc n) i = λ t. (refused (d t), out)

  pub known : v ≤ m.last → m.last < 65536 → pos v ≡ z
  known h k = go z e
    where
      go : (z : ℤ) → v ≡ version_of z → pos v ≡ z
      go (pos n) i = ap pos i
      go (negsuc n) i = absurd (omega arith)

-- ---- a version that passed an argument, in the answer of a call

module _ (m : Message) (z : ℤ) (f : SFits w64 z) (olds : Tables) (s : List ℕ) (o : Answer × Tables) where
  pub prefix_at : o ≡ read_answer false m (to_z w64 (of_z w64 z)) olds s → o ≡ prefix_read m z olds s
  unfolding prefix_read
  prefix_at e = e ∙ ap (λ (y : ℤ). read_answer false m y olds s) (to_z-of_z f)

  pub whole_at : o ≡ read_answer true m (to_z w64 (of_z w64 z)) olds s → o ≡ whole_read m z olds s
  unfolding whole_read
  whole_at e = e ∙ ap (λ (y : ℤ). read_answer true m y olds s) (to_z-of_z f)

  pub again_at : o ≡ whole_read m (to_z w64 (of_z w64 z)) olds s → o ≡ whole_read m z olds s
  again_at e = e ∙ ap (λ (y : ℤ). whole_read m y olds s) (to_z-of_z f)

pub passed : (z : ℤ) → SFits w64 z → (v : ℕ) → v ≡ version_of (to_z w64 (of_z w64 z)) → v ≡ version_of z
passed z f v e = e ∙ ap version_of (to_z-of_z f)

pub is_set_lem : (n : ℕ) → not (n == 0) ≡ is_set n
unfolding is_set
is_set_lem zero = refl
is_set_lem (suc n) = ap not (ne_eqb (suc n) 0 (λ e. omega (arith, e)))
