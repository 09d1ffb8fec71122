-- A number that came through its 64 bits: its cell, its zigzag, and what is answered of them.
use mathlib.Core.Bool.{Bool}
use mathlib.Core.List.{List}
use mathlib.Core.Path.{◌∙◌, ◌≡◌, ap}
use Prim.Native.Nat.{◌*◌, ◌+◌, ◌-◌, ◌<◌, ◌^◌, ◌≤◌, ℕ}
use native.Mathlib.Omega.{arith}
use lib.Dec.{ltb}
use lib.IntN.{negsuc, pos, ℤ}
use lib.ListN.{length}
use mir.Facts.{to_z-of_z}
use mir.Syntax.{w64}
use mir.Val.{SFits, of_z, to_z}
use Rattle.layout.specs.Answers.{Answer, refused, write_alone}
use Rattle.layout.specs.Primitives.{Width, bits, bytes, cell_of, flag_bytes, holds, integer_bytes, size, unsigned_bytes, zigzag, zigzag_bytes}
use Rattle.layout.specs.Reading.{Refusal, because}
use Rattle.layout.specs.Write.{unless}
use Rattle.layout.proofs.Tests.{lt-false, lt-true}
use Rattle.primitives_put.specs.Answers.{within}
use Rattle.primitives_put.proofs.Answered.{no_fault, too_wide}

-- the same cell, of a number that came through its 64 bits
pub cell_back : (z : ℤ) (c : ℕ) → SFits w64 z → c ≡ cell_of (to_z w64 (of_z w64 z)) → c ≡ cell_of z
cell_back z c h e = e ∙ ap cell_of (to_z-of_z h)

pub zigzag_low : (z : ℤ) (c : ℕ) → SFits w64 z → c ≡ cell_of z → c < 2 ^ 63 → c * 2 ≡ zigzag z
unfolding zigzag
zigzag_low (pos n) c h e l = omega arith
zigzag_low (negsuc n) c h e l = absurd (omega arith)

pub zigzag_high : (z : ℤ) (c : ℕ) → SFits w64 z → c ≡ cell_of z → 2 ^ 63 ≤ c → (18446744073709551615 - c) * 2 + 1 ≡ zigzag z
unfolding zigzag
zigzag_high (pos n) c h e l = absurd (omega arith)
zigzag_high (negsuc n) c h e l = omega arith

-- a Boolean is one byte
pub flag_small : (b : Bool) → length (flag_bytes b) ≤ 1048576
unfolding flag_bytes bytes
flag_small b = omega arith

-- what is answered of a number's cell, or of its zigzag, is what is answered of the number, which came through its 64 bits
module _ (z : ℤ) (s : SFits w64 z) (n : ℕ) (d : List ℕ) where
  pub integer_written_lem : (w : Width) (o : Answer × List ℕ) → n ≡ cell_of (to_z w64 (of_z w64 z)) → o ≡ write_alone (unless (within (2 ^ (bits w - 1)) n) 11) (bytes (size w) n) d → o ≡ write_alone (unless (holds w (cell_of z)) 11) (integer_bytes w z) d
  unfolding holds within integer_bytes
  integer_written_lem w o i e = e ∙ ap (λ (x : ℕ). write_alone (unless (within (2 ^ (bits w - 1)) x) 11) (bytes (size w) x) d) (i ∙ ap cell_of (to_z-of_z s))

  module _ (i : n ≡ zigzag (to_z w64 (of_z w64 z))) where
    is : n ≡ zigzag z
    is = i ∙ ap zigzag (to_z-of_z s)

    pub varlong_written_lem : (o : Answer × List ℕ) → o ≡ write_alone 0 (unsigned_bytes n) d → o ≡ write_alone 0 (zigzag_bytes z) d
    unfolding zigzag_bytes
    varlong_written_lem o e = e ∙ ap (λ (x : ℕ). write_alone 0 (unsigned_bytes x) d) is

    pub varint_written_lem : n < 2 ^ 32 → (o : Answer × List ℕ) → o ≡ write_alone 0 (unsigned_bytes n) d → o ≡ write_alone (unless (ltb (zigzag z) (2 ^ 32)) 11) (zigzag_bytes z) d
    varint_written_lem h o e = no_fault _ _ _ o (lt-true (zigzag z) (2 ^ 32) (omega (arith, is))) (varlong_written_lem o e)

    pub varint_wide : 2 ^ 32 ≤ n → (e : Refusal) → e ≡ because 11 0 → ◌≡◌ {A = Answer × List ℕ} (refused e, d) (write_alone (unless (ltb (zigzag z) (2 ^ 32)) 11) (zigzag_bytes z) d)
    varint_wide h e j = too_wide _ _ d e j (lt-false (zigzag z) (2 ^ 32) (omega (arith, is)))
