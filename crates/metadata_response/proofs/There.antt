-- Numbers whose bytes are there, as a cell and as a count: at the front of what is left and at the place where that starts. And those whose bytes are missing.
use mathlib.Core.List.{List, [], ◌∷◌}
use mathlib.Core.Logic.{◌≢◌}
use mathlib.Core.Path.{◌∙◌, ◌≡◌, ap, refl, subst, sym}
use Prim.Native.Nat.{◌*◌, ◌+◌, ◌-◌, ◌<◌, ◌≤◌, ℕ}
use native.Mathlib.Decide.{dec_le}
use native.Mathlib.Omega.{arith}
use lib.IntN.{ℤ}
use lib.ListN.{drop, get_or, length, length-drop, take}
use mir.Facts.{to_z-of_z}
use mir.Syntax as Mir
use mir.Val.{Fits, SFits, of_z, to_z}
use Rattle.layout.specs.Primitives.{Width, be, cell, cell_of, fixed, kept, size, w32}
use Rattle.layout.specs.Reading.{Reader, Refusal, Res, bad, because, more, ok}
use Rattle.layout.proofs.Cells.{extend, extend_high, extend_low, in_mir, signed_is}
use Rattle.layout.proofs.Cells as Patterns
use Rattle.layout.proofs.Steps.{int_ok}
use Rattle.layout.proofs.Strict.{Bytes, bytes_drop, canon_int}
use Rattle.primitives.proofs.Cells.{bytes_of, cell_is, int_is}
use Rattle.primitives.specs.Answers.{taken}
use Rattle.primitives.specs.Parts.{counted, of_length}
use Rattle.primitives.proofs.Behind.{rest_in, length_below, length_is, length_null, length_some}
use Rattle.body_reading.proofs.Bound.{some_bytes}
use Rattle.body_reading.proofs.Chains.{same_value}
use Rattle.body_reading.proofs.Moves.{still}
use Rattle.body_reading.specs.Walk.{on}
use Rattle.body_reading.proofs.FrontAt.{at_place, front_cell, front_counted, portable_cell, portable_counted, took_at}

-- the first bytes, by their index
pub be_2 : (s : List ℕ) → 2 ≤ length s → get_or s 0 0 * 256 + get_or s 1 0 ≡ be 0 (take 2 s)
be_2 [] h = absurd (omega arith)
be_2 (a ∷ []) h = absurd (omega arith)
be_2 (a ∷ b ∷ s) h = omega arith

pub be_4 : (s : List ℕ) → 4 ≤ length s → get_or s 0 0 * 16777216 + get_or s 1 0 * 65536 + get_or s 2 0 * 256 + get_or s 3 0 ≡ be 0 (take 4 s)
be_4 [] h = absurd (omega arith)
be_4 (a ∷ []) h = absurd (omega arith)
be_4 (a ∷ b ∷ []) h = absurd (omega arith)
be_4 (a ∷ b ∷ c ∷ []) h = absurd (omega arith)
be_4 (a ∷ b ∷ c ∷ d ∷ s) h = omega arith

module _ (w : Width) where
  -- the bytes as a signed number z, and r its 64 bits
  pub cell_there : (s : List ℕ) → size w ≤ length s → (n : ℕ) → n ≡ be 0 (take (size w) s) → (z : ℤ) → SFits (in_mir w) z → SFits Mir.w64 z → z ≡ to_z (in_mir w) n →
      (r : ℕ) → r ≡ of_z Mir.w64 (to_z Mir.w64 (of_z Mir.w64 (to_z (in_mir w) (of_z (in_mir w) z)))) → ok r (size w) ≡ cell w 0 s
  cell_there s h n b z f g e r i =
      let same : r ≡ extend w n =
      i
      ∙ ap (of_z Mir.w64) (ap (λ (y : ℤ). to_z Mir.w64 (of_z Mir.w64 y)) (to_z-of_z f) ∙ to_z-of_z g)
      ∙ sym (Patterns.cell_is z)
      ∙ ap cell_of (e ∙ sym (signed_is w n))
      in
      ap (λ (c : ℕ). ok c (size w)) same ∙ cell_is w s n h b

  -- at the place where the rest starts; and on the rest as code cuts it out
  pub cell_on : (s left : List ℕ) (p v : ℕ) → left ≡ drop p s → ok v (size w) ≡ cell w 0 left → ok v (p + size w) ≡ on (cell w) s p
  cell_on s left p v i e = took_at (cell w) still (portable_cell w) s left p i v (size w) e

  pub cell_cut : (s : List ℕ) (p v : ℕ) → ok v (size w) ≡ cell w 0 (take (length s - p) (drop p s)) → ok v (p + size w) ≡ on (cell w) s p
  cell_cut s p v e = cell_on s _ p v (rest_in s p) e

  -- a number whose bytes are not there
  pub cell_missing : (s : List ℕ) (p : ℕ) → length s < p + size w → bad (because 3 p) ≡ on (cell w) s p
  unfolding on
  cell_missing s p h = sym (ap (more p) ((front_cell w).short p (drop p s) (omega (arith, length-drop p s, some_bytes w))))

-- ---- the count of an array that may be null

abbrev count : Reader ℕ
count = counted (fixed w32 kept)

module _ (s : List ℕ) (p : ℕ) where
  pub count_missing : length s < p + 4 → (c : Refusal) → c ≡ because 3 p → bad c ≡ on count s p
  unfolding on
  count_missing h c e = ap bad e ∙ sym (ap (more p) ((front_counted w32 kept).short p (drop p s) (omega (arith, length-drop p s))))

  -- from its cell, which was read on the rest as code cuts it out
  module _ (s-bytes : (i : ℕ) → Fits Mir.w8 (get_or s i 0)) (h : p + 4 ≤ length s) (c : ℕ) (t : ok c 4 ≡ cell w32 0 (take (length s - p) (drop p s))) where
    abbrev left : List ℕ
    left = take (length s - p) (drop p s)

    abbrev number : ℕ
    number = be 0 (take 4 left)

    long : 4 ≤ length left
    long = omega (arith, length-drop p s, ap length (rest_in s p))

    low : number < 4294967296
    low =
        let b : Bytes left = subst Bytes (sym (rest_in s p)) (bytes_drop p s (bytes_of s s-bytes)) in
        ((canon_int 4).law 0 left number 4 b (int_ok 4 0 left long)).fact

    shown : c ≡ extend w32 number
    shown = same_value (t ∙ sym (cell_is w32 left number long refl))

    -- the cell is the number, or 2^64 - 2^32 more
    below : c < 2147483648 → c ≡ number
    below i =
        elim (dec_le 2147483648 number) [
          | yes j ↦ let e = shown ∙ extend_high w32 number j low in absurd (omega arith)
          | no j ↦ shown ∙ extend_low w32 number (omega arith)
        ]

    above : 2147483648 ≤ c → (c ≡ number + 18446744069414584320) × (2147483648 ≤ number)
    above i =
        elim (dec_le 2147483648 number) [
          | yes j ↦ (let e = shown ∙ extend_high w32 number j low in omega arith, j)
          | no j ↦ let e = shown ∙ extend_low w32 number (omega arith) in absurd (omega arith)
        ]

    judged : (o : Res ℕ) → o ≡ of_length 2147483648 4294967295 (taken number 4) → o ≡ count 0 left
    judged o e = length_is w32 kept left (taken number 4) o (int_is 4 left number long refl) e

    pub count_took : c < 2147483648 → ok (c + 1) (p + 4) ≡ on count s p
    count_took i =
        let d = below i in
        ap (λ (k : ℕ). ok (k + 1) (p + 4)) d
        ∙ took_at count still (portable_counted (fixed w32 kept)) s left p (rest_in s p) (number + 1) 4 (judged _ (length_some (taken number 4) 2147483648 4294967295 number 4 refl (omega arith)))

    pub count_null : c ≡ 18446744073709551615 → ok 0 (p + 4) ≡ on count s p
    count_null i =
        let d = above (omega arith) in
        took_at count still (portable_counted (fixed w32 kept)) s left p (rest_in s p) 0 4 (judged _ (length_null (taken number 4) 2147483648 4294967295 number 4 refl (omega (arith, d.1)) (omega (arith, d.0))))

    pub count_below : 2147483648 ≤ c → c ≢ 18446744073709551615 → (e : Refusal) → e ≡ because 4 p → bad e ≡ on count s p
    count_below i j e g =
        let d = above i in
        at_place count still (portable_counted (fixed w32 kept)) s left p (rest_in s p) (bad (because 4 0)) _
        (judged _ (length_below (taken number 4) 2147483648 4294967295 number 4 refl (omega (arith, d.1)) (λ z. j (omega (arith, d.0))) (because 4 0) refl)) (ap bad g)
