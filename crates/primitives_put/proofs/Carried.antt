-- The cell of a number, and the width that holds it.
use mathlib.Core.Bool.{true}
use mathlib.Core.Path.{◌≡◌, refl, sym}
use Prim.Native.Nat.{◌-◌, ◌<◌, ◌^◌, ◌≤◌, ℕ}
use native.Mathlib.Decide.{dec_lt}
use native.Mathlib.Omega.{arith}
use lib.Dec.{ltb}
use Rattle.layout.specs.Primitives.{Width, bits, holds}
use Rattle.layout.proofs.Tests.{le-false, le-true, lt-false, lt-true}
use Rattle.primitives_put.specs.Answers.{within}

-- what the code asks of a cell is what its width holds
pub is_held : (w : Width) (n : ℕ) → within (2 ^ (bits w - 1)) n ≡ holds w n
unfolding within holds
is_held w n = refl

-- a cell that holds a small number: from 0 on, or below 0
module _ (half c : ℕ) where
  pub within_low : c < half → true ≡ within half c
  unfolding within
  within_low h = sym (rw (lt-true c half h))

  pub within_high : half ≤ c → c < 2 ^ 64 → ltb (18446744073709551615 - c) half ≡ within half c
  unfolding within
  within_high h k =
      elim (dec_lt (18446744073709551615 - c) half) [
        | yes l ↦ rw (lt-false c half h, lt-true c (2 ^ 64) k, le-true (2 ^ 64 - half) c (omega arith)) (lt-true _ _ l)
        | no l ↦ rw (lt-false c half h, le-false (2 ^ 64 - half) c (omega arith)) (lt-false (18446744073709551615 - c) half (omega arith))
      ]
