-- Signed numbers: the number of a cell, and the cell of a number.
use mathlib.Core.Path.{◌∙◌, ◌≡◌, ap, refl, sym}
use Prim.Native.Nat.{◌-◌, ◌<◌, ◌^◌, ◌≤◌, suc, zero, ℕ}
use native.Mathlib.Nat.{zero-add}
use native.Mathlib.Omega.{arith}
use lib.IntN.{◌-ℤ◌, negsuc, pos, ℤ}
use mir.Facts.{sfits_to_z, to_z-of_z, to_z_pos}
use mir.Syntax.{w64}
use mir.Val.{SFits, of_z, to_z}
use borrow.Author.Tests.{le-ltb}
use Rattle.layout.specs.Reading.{ok}
use Rattle.layout.specs.Primitives.{signed}
use Rattle.layout.specs.Primitives as Kafka
use Rattle.layout.proofs.Cells.{signed_is}
use Rattle.primitives.specs.Answers.{Read, of_shown, taken}

minus_pos : (m : ℕ) → negsuc 0 -ℤ pos m ≡ negsuc m
minus_pos zero = refl
minus_pos (suc k) = ap (λ (n : ℕ). negsuc (suc n)) (zero-add k)

-- the number of a cell from 2^63 on
pub record High (c : ℕ) (y : ℤ) : Type 0 where
  pub small : SFits w64 y
  pub is : y ≡ signed Kafka.w64 c

pub high : (c : ℕ) → 2 ^ 63 ≤ c → c < 2 ^ 64 → High c (negsuc 0 -ℤ to_z w64 (18446744073709551615 - c))
high c h k =
    let m : 18446744073709551615 - c < 2 ^ 63 = omega arith in
    rw (to_z_pos w64 m, minus_pos (18446744073709551615 - c))
    (record { small = omega arith; is = rw (signed_is Kafka.w64 c, le-ltb c 9223372036854775808 h) (ap negsuc (omega arith)) })

-- the same number comes back through its 64 bits
pub back : (c : ℕ) (z : ℤ) → c < 2 ^ 64 → z ≡ signed Kafka.w64 c → to_z w64 (of_z w64 z) ≡ signed Kafka.w64 c
back c z h e = ap (λ (y : ℤ). to_z w64 (of_z w64 y)) (e ∙ signed_is Kafka.w64 c) ∙ to_z-of_z {w = w64} (sfits_to_z {w = w64} (record { fits = h })) ∙ sym (signed_is Kafka.w64 c)

-- and is what the cell shows in an answer
pub shown_took : (n : Read ℕ) (c k : ℕ) (z : ℤ) → n ≡ taken c k → z ≡ signed Kafka.w64 c → c < 2 ^ 64 → ok (to_z w64 (of_z w64 z)) k ≡ of_shown n
shown_took n c k z i e h = ap (λ (y : ℤ). ok y k) (back c z h e) ∙ sym (ap of_shown i)
