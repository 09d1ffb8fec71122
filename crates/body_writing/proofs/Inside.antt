-- Ranges of lent bytes: judged without a sum, those of a table's rows, and the part that a range means.
use mathlib.Core.Bool.{Bool, false, true}
use mathlib.Core.List.{List}
use mathlib.Core.Path.{◌∙◌, ◌≡◌, ap, sym}
use Prim.Native.Nat.{◌+◌, ◌-◌, ◌<◌, ◌≤◌, min, suc, ℕ}
use native.Mathlib.Decide.{dec_lt}
use native.Mathlib.Omega.{arith}
use lib.Dec.{leb}
use lib.ListN.{drop, drop_of_length-le, get_or, length, length-drop, take}
use lib.Seq.{take_all}
use Rattle.std.proofs.lemmas.List.{take_min}
use Rattle.layout.specs.Tables.{inside, slice}
use Rattle.layout.specs.Utf8.{utf8}
use Rattle.layout.specs.Write.{or, unless}
use Rattle.layout.proofs.Tests.{le-false, le-true, lt-false, lt-true}
use Rattle.body_writing.specs.Asked.{ranged, string_fault}

module _ (size start n : ℕ) where
  pub outside : (start ≤ size → ⊥) → false ≡ inside size start n
  unfolding inside
  outside h = elim (dec_lt size start) [
    | yes l ↦ sym (le-false (start + n) size (omega arith))
    | no l ↦ absurd (h (omega arith))
  ]

  pub started : start ≤ size → (k : ℕ) → k ≡ size - start → leb n k ≡ inside size start n
  unfolding inside
  started h k e =
      ap (leb n) e
      ∙ elim (dec_lt (size - start) n) [
        | yes l ↦ le-false n (size - start) l ∙ sym (le-false (start + n) size (omega arith))
        | no l ↦ le-true n (size - start) (omega arith) ∙ sym (le-true (start + n) size (omega arith))
      ]

-- a row has its range at its place
pub range_told : (at size : ℕ) (r : List ℕ) (b : Bool) → b ≡ inside size (get_or r at 0) (get_or r (at + 1) 0) → b ≡ ranged at size r
unfolding ranged
range_told at size r b e = let next : at + 1 ≡ suc at = omega arith in e ∙ ap (λ (j : ℕ). inside size (get_or r at 0) (get_or r j 0)) next

-- ---- a part of the lent bytes

module _ (lent : List ℕ) (start n : ℕ) where
  -- what is left from j on, the start or else the end
  left_from : (j : ℕ) → j ≡ min start (length lent) → take (length lent - j) (drop j lent) ≡ drop start lent
  left_from j e =
      take_all (length lent - j) (drop j lent) (omega (arith, length-drop j lent))
      ∙ elim (dec_lt start (length lent)) [
        | yes l ↦ let i : j ≡ start = omega arith in ap (λ (k : ℕ). drop k lent) i
        | no l ↦ drop_of_length-le lent {i = j} (omega arith) ∙ sym (drop_of_length-le lent {i = start} (omega arith))
      ]

  pub part_is : (j : ℕ) → j ≡ min start (length lent) → (k : ℕ) → k ≡ min n (length (take (length lent - j) (drop j lent))) → take k (take (length lent - j) (drop j lent)) ≡ slice lent (start, n)
  unfolding slice
  part_is j e k d = ap (λ (i : ℕ). take i (take (length lent - j) (drop j lent))) d ∙ take_min n (take (length lent - j) (drop j lent)) ∙ ap (take n) (left_from j e)

-- ---- the content of a STRING: 11 before 7

module _ (x : List ℕ) where
  pub text_wide : 32768 ≤ length x → 11 ≡ string_fault x
  unfolding string_fault unless or
  text_wide h = sym (rw (lt-false (length x) 32768 h))

  module _ (h : length x < 32768) (b : Bool) (e : b ≡ utf8 x) where
    pub text_good : b ≡ true → 0 ≡ string_fault x
    unfolding string_fault unless or
    text_good k = sym (rw (lt-true (length x) 32768 h, ← e, k))

    pub text_bad : b ≡ false → 7 ≡ string_fault x
    unfolding string_fault unless or
    text_bad k = sym (rw (lt-true (length x) 32768 h, ← e, k))
