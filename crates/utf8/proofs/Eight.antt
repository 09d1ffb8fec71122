-- Eight bytes in one number: without the high bit of any they are ASCII. Assumes nothing.
use mathlib.Core.List.{List}
use mathlib.Core.Path.{◌∙◌, ◌≡◌, ap, subst}
use Prim.Native.Nat.{ℕ, zero, suc, ◌+◌, ◌*◌, ◌-◌, ◌<◌}
use native.Mathlib.Decide.{dec_le}
use native.Mathlib.Omega.{arith}
use lib.Bits.{and_block, and_self, and_zero_r, bit_and}
use lib.Dec.{eqb}
use lib.ListN.{get_or}
use mir.Syntax as Mir
use mir.Val.{Fits}
use Rattle.layout.proofs.Tests.{of_eq}
use Rattle.utf8.specs.Class.{Ascii, four_of}

-- a byte without its high bit
low : (r : ℕ) → r < 256 → bit_and r 128 ≡ 0 → r < 128
low r h e =
    elim (dec_le 128 r) [
      | yes l ↦
          let d : 1 * 128 + (r - 128) ≡ r = omega arith in
          let f : bit_and (1 * 128 + (r - 128)) (1 * 128 + 0) ≡ bit_and 1 1 * 128 + bit_and (r - 128) 0 = and_block 7 1 1 (r - 128) 0 (omega arith) (omega arith) in
          let g : bit_and (1 * 128 + (r - 128)) 128 ≡ bit_and r 128 = ap (λ (n : ℕ). bit_and n 128) d in
          absurd (omega (arith, f, g, e, and_self 1, and_zero_r (r - 128)))
      | no l ↦ omega arith
    ]

-- the lowest byte, and the others
peel : (a b r : ℕ) → r < 256 → bit_and (a * 256 + r) (b * 256 + 128) ≡ 0 → (bit_and a b ≡ 0) × (r < 128)
peel a b r h e =
    let f : bit_and (a * 256 + r) (b * 256 + 128) ≡ bit_and a b * 256 + bit_and r 128 = and_block 8 a b r 128 h (omega arith) in
    (omega arith, low r h (omega arith))

module _ (s : List ℕ) (at : ℕ) (h : (i : ℕ) → Fits Mir.w8 (get_or s i 0)) where
  abbrev b : ℕ → ℕ
  b k = get_or s (at + k) 0

  -- n bytes from the kth on, the first one lowest; and their high bits
  abbrev word : ℕ → ℕ → ℕ
  word zero k = 0
  word (suc n) k = word n (k + 1) * 256 + b k

  abbrev mask : ℕ → ℕ
  mask zero = 0
  mask (suc n) = mask n * 256 + 128

  lows : (n k : ℕ) → bit_and (word n k) (mask n) ≡ 0 → (i : ℕ) → i < n → b (k + i) < 128
  lows zero k z i g = absurd (omega arith)
  lows (suc n) k z zero g = let e : k ≡ k + 0 = omega arith in subst (λ (j : ℕ). b j < 128) e (peel (word n (k + 1)) (mask n) (b k) (h (at + k)).fits z).1
  lows (suc n) k z (suc i) g = let e : k + 1 + i ≡ k + suc i = omega arith in subst (λ (j : ℕ). b j < 128) e (lows n (k + 1) (peel (word n (k + 1)) (mask n) (b k) (h (at + k)).fits z).0 i (omega arith))

  pub eight : (n m : ℕ) → n ≡ four_of s (at + 4) → m ≡ four_of s at → Ascii s at (eqb (bit_and (n * 4294967296 + m) 9259542123273814144) 0)
  eight n m f g =
      let b7 : get_or s (at + 4 + 3) 0 ≡ b 7 = ap (λ (k : ℕ). get_or s k 0) (omega arith) in
      let b6 : get_or s (at + 4 + 2) 0 ≡ b 6 = ap (λ (k : ℕ). get_or s k 0) (omega arith) in
      let b5 : get_or s (at + 4 + 1) 0 ≡ b 5 = ap (λ (k : ℕ). get_or s k 0) (omega arith) in
      let b0 : get_or s at 0 ≡ b 0 = ap (λ (k : ℕ). get_or s k 0) (omega arith) in
      let w : word 8 0 ≡ n * 4294967296 + m = omega arith in
      record { each = λ e i l. let d : 0 + i ≡ i = omega arith in subst (λ (j : ℕ). b j < 128) d (lows 8 0 (ap (λ (k : ℕ). bit_and k 9259542123273814144) w ∙ of_eq _ _ e) i l) }
