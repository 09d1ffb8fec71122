-- A call that writes a length, a count or what stands behind a length: what it answers where there is a fault, and where there is none.
use mathlib.Core.Bool.{Bool, cond, false, true}
use mathlib.Core.List.{List}
use mathlib.Core.Path.{◌∙◌, ◌≡◌, refl, sym}
use Prim.Native.Nat.{◌+◌, ◌<◌, ◌≤◌, ℕ}
use native.Mathlib.Omega.{arith}
use lib.Dec.{leb, ltb}
use lib.ListN.{length, length-append}
use Rattle.layout.specs.Answers.{Answer, refused, write_alone}
use Rattle.layout.specs.Primitives.{Size, compact, fixed, length_bytes, limit, never, null_bytes, plain, sized_bytes, w16, w32, w64, w8}
use Rattle.layout.specs.Reading.{Refusal, because}
use Rattle.layout.specs.Write.{or, sized_fault, too_long, unless}
use Rattle.layout.proofs.Back.{length_bytes_lem}
use Rattle.layout.proofs.Tests.{le-false, le-true, lt-false, lt-true, of_ge, of_lt}
use Rattle.primitives_put.specs.Put.{behind_length}
use Rattle.primitives_put.specs.Answers.{count_bytes, count_fault, length_fault}
use Rattle.std.specs.Prelude.{Some, None}
use mathlib.Core.Option.{none, some}
use Rattle.primitives_put.proofs.Shortest.{unsigned_length}

-- 2
pub too_long_lem : (bs d : List ℕ) (e : Refusal) → e ≡ because 2 0 → 1048576 < length bs → ◌≡◌ {A = Answer × List ℕ} (refused e, d) (write_alone 0 bs d)
unfolding write_alone
too_long_lem bs d e i h = (λ t. (refused (i t), d)) ∙ sym (rw (le-false (length bs) 1048576 h))

pub null_small : (z : Size) → length (null_bytes z) ≤ 10
unfolding null_bytes
null_small (fixed w8 m) = omega (arith, length_bytes_lem 1 255)
null_small (fixed w16 m) = omega (arith, length_bytes_lem 2 65535)
null_small (fixed w32 m) = omega (arith, length_bytes_lem 4 4294967295)
null_small (fixed w64 m) = omega (arith, length_bytes_lem 8 18446744073709551615)
null_small (compact m) = (unsigned_length 0).1
null_small plain = omega arith

pub behind_length_lem : (z : Size) (x : List ℕ) {h : ℕ} → h ≡ length (length_bytes z (length x)) → length (behind_length z x) ≡ h + length x
unfolding behind_length
behind_length_lem z x {h} i = length-append (length_bytes z (length x)) x ∙ omega arith

-- ---- a count: null, one that is carried, and one that cannot be

module _ (z : Size) (d : List ℕ) where
  pub count_null : (o : Answer × List ℕ) → o ≡ write_alone 0 (null_bytes z) d → o ≡ write_alone (count_fault z None) (count_bytes z None) d
  unfolding count_fault count_bytes
  count_null o e = e

  module _ (n : ℕ) {l : ℕ} (i : l ≡ limit z) where
    pub count_good : (o : Answer × List ℕ) → n < l → o ≡ write_alone 0 (length_bytes z n) d → o ≡ write_alone (count_fault z (Some n)) (count_bytes z (Some n)) d
    unfolding count_fault count_bytes unless
    count_good o k e = e ∙ sym (rw (lt-true n (limit z) (omega arith)))

    pub count_wide : (e : Refusal) → l ≤ n → e ≡ because 2 0 → ◌≡◌ {A = Answer × List ℕ} (refused e, d) (write_alone (count_fault z (Some n)) (count_bytes z (Some n)) d)
    unfolding count_fault count_bytes unless write_alone
    count_wide e k j = (λ t. (refused (j t), d)) ∙ sym (rw (lt-false n (limit z) (omega arith)))

-- two bytes of length carry less than 2^15
pub over_two : (n : ℕ) → cond (leb 32768 n) 11 0 ≡ too_long (fixed w16 never) n
unfolding too_long unless
over_two n = go (ltb n 32768) refl
  where
    go : (b : Bool) → ltb n 32768 ≡ b → ◌≡◌ {A = ℕ} (cond (leb 32768 n) 11 0) (cond b 0 11)
    go true h = rw (le-false 32768 n (of_lt n 32768 h))
    go false h = rw (le-true 32768 n (of_ge n 32768 h))

-- ---- a text or data: too long for its length, not good, or neither

module _ (z : Size) (x bs d : List ℕ) (l : Bool) (i : cond l 11 0 ≡ too_long z (length x)) where
  pub field_wide : (f : ℕ) (e : Refusal) → l ≡ true → e ≡ because 11 0 → ◌≡◌ {A = Answer × List ℕ} (refused e, d) (write_alone (length_fault z x f) bs d)
  unfolding length_fault or write_alone
  field_wide f e h j = (λ t. (refused (j t), d)) ∙ sym (rw (sym i, h))

  module _ (h : l ≡ false) (b : Bool) where
    pub field_good : (o : Answer × List ℕ) → b ≡ true → o ≡ write_alone 0 bs d → o ≡ write_alone (length_fault z x (unless b 7)) bs d
    unfolding length_fault unless or
    field_good o k e = e ∙ sym (rw (k, sym i, h))

    pub field_bad : (e : Refusal) → b ≡ false → e ≡ because 7 0 → ◌≡◌ {A = Answer × List ℕ} (refused e, d) (write_alone (length_fault z x (unless b 7)) bs d)
    unfolding length_fault unless or write_alone
    field_bad e k j = (λ t. (refused (j t), d)) ∙ sym (rw (k, sym i, h))

-- ---- as layouts have it: g is what may be wrong inside

module _ (z : Size) (x d : List ℕ) (g : List ℕ → ℕ) {f : ℕ} (i : f ≡ g x) (o : Answer × List ℕ) (e : o ≡ write_alone (length_fault z x f) (behind_length z x) d) where
  pub field_written : o ≡ write_alone (sized_fault false z g x) (sized_bytes false z (λ y. y) x) d
  unfolding length_fault behind_length sized_fault sized_bytes
  field_written = rw i at e

  -- where null is a value too
  pub some_written : o ≡ write_alone (sized_fault true z g (some x)) (sized_bytes true z (λ y. y) (some x)) d
  unfolding length_fault behind_length sized_fault sized_bytes
  some_written = rw i at e

pub null_written : (z : Size) (d : List ℕ) (g : List ℕ → ℕ) (o : Answer × List ℕ) → o ≡ write_alone 0 (null_bytes z) d → o ≡ write_alone (sized_fault true z g none) (sized_bytes true z (λ y. y) none) d
unfolding sized_fault sized_bytes
null_written z d g o e = e
