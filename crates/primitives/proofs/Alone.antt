-- A call of a primitive by itself: its size first, and then what the step gives; and the signed number in place of its cell.
use mathlib.Core.Path.{◌∙◌, ◌≡◌, ap, refl, sym}
use mathlib.Core.Bool.{Bool, cond, false, true}
use mathlib.Core.List.{List}
use Prim.Native.Nat.{◌+◌, ◌<◌, ◌^◌, ◌≤◌, ℕ}
use native.Mathlib.Omega.{arith}
use lib.Dec.{leb}
use lib.IntN.{ℤ}
use lib.ListN.{get_or, length}
use mir.Syntax.{w8}
use mir.Val.{Fits}
use Rattle.layout.specs.Reading.{Reader, Refusal, Res, bad, because, give, next, ok, then}
use Rattle.layout.specs.Primitives.{Width, cell, int, integer, signed, size, w64}
use Rattle.layout.specs.Answers.{alone}
use Rattle.layout.proofs.Strict.{Bytes, canon_int}
use Rattle.layout.proofs.Cells.{extend, extend_shows, powers}
use Rattle.layout.proofs.Link.{over}
use Rattle.layout.proofs.Tests.{le-false, le-true}
use Rattle.std.specs.Prelude.{Ok, Err}
use Rattle.primitives.specs.Answers.{Read, of_number, of_shown, unless_long}
use Rattle.primitives.proofs.Cells.{bytes_of}

-- 2 comes first
module _ {A : Type 0} (s : List ℕ) (o : Res A) where
  pub long : (e : Refusal) → e ≡ because 2 0 → 1048576 < length s → bad e ≡ unless_long s o
  unfolding unless_long
  long e i h = ap bad i ∙ sym (rw (le-false (length s) 1048576 h))

  pub short : length s ≤ 1048576 → o ≡ unless_long s o
  unfolding unless_long
  short h = sym (rw (le-true (length s) 1048576 h))

module _ {A : Type 0} (r : Reader A) (s : List ℕ) where
  -- what is answered unless the message is long, is what the call answers
  pub alone_sized : (o a : Res A) → a ≡ unless_long s o → o ≡ r 0 s → a ≡ alone r s
  unfolding alone unless_long
  alone_sized o a i e = i ∙ ap (unless_long s) e

  pub alone_long : (e : Refusal) → e ≡ because 2 0 → 1048576 < length s → bad e ≡ alone r s
  alone_long e i h = alone_sized (r 0 s) (bad e) (long s (r 0 s) e i h) refl

  pub alone_is : length s ≤ 1048576 → (o : Res A) → o ≡ r 0 s → o ≡ alone r s
  alone_is h o e = alone_sized o o (short s o h) e

-- ---- the signed number of a cell

shows : (w : Width) (s : List ℕ) → Bytes s → over (signed w64) (cell w 0 s) ≡ integer w 0 s
unfolding cell integer then give
shows w s b = go (int (size w) 0 s) refl
  where
    go : (o : Res ℕ) → int (size w) 0 s ≡ o → over (signed w64) (next o (λ n. give (extend w n)) 0 s) ≡ next o (λ n. give (signed w n)) 0 s
    go (ok n m) d =
        let h : n < 256 ^ size w = ((canon_int (size w)).law 0 s n m b d).fact in
        ap (λ (z : ℤ). ok z (m + 0)) (extend_shows w n (let p = powers w in omega (arith, p.power)))
    go (bad e) d = refl

of_shown_lem : (n : Read ℕ) → of_shown n ≡ over (signed w64) (of_number n)
of_shown_lem (Ok t) = refl
of_shown_lem (Err e) = refl

-- a cell judged by the message's size, and then shown
pub shown_sized : (s : List ℕ) (n m : Read ℕ) → of_number m ≡ unless_long s (of_number n) → of_shown m ≡ unless_long s (of_shown n)
unfolding unless_long
shown_sized s n m e = of_shown_lem m ∙ ap (over (signed w64)) e ∙ go (leb (length s) 1048576) ∙ ap (unless_long s) (sym (of_shown_lem n))
  where
    go : (b : Bool) → over (signed w64) (cond b (of_number n) (bad (because 2 0))) ≡ cond b (over (signed w64) (of_number n)) (bad (because 2 0))
    go true = refl
    go false = refl

-- what a cell's step answers, shown, is what the call answers
pub integer_is : (w : Width) (s : List ℕ) (n : Read ℕ) (o : Res ℤ) → ((i : ℕ) → Fits w8 (get_or s i 0)) → of_number n ≡ cell w 0 s → o ≡ unless_long s (of_shown n) → o ≡ alone (integer w) s
integer_is w s n o b e d = alone_sized (integer w) s (of_shown n) o d (of_shown_lem n ∙ ap (over (signed w64)) e ∙ shows w s (bytes_of s b))
