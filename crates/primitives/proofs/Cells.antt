-- The bytes of a number, and the cell that shows it: one law for all widths.
use mathlib.Core.Bool.{Bool, cond, false, true}
use mathlib.Core.List.{List, [], ◌++◌, ◌∷◌}
use mathlib.Core.Path.{◌∙◌, ◌≡◌, ap, refl, subst, sym}
use Prim.Native.Nat.{◌*◌, ◌+◌, ◌-◌, ◌/◌, ◌<◌, ◌^◌, ◌≤◌, suc, zero, ℕ}
use native.Mathlib.Decide.{dec_le}
use native.Mathlib.Nat.{add-zero, div-eq_of_lt, div-eq_of_lt-le, one-mul, zero-mul}
use native.Mathlib.Omega.{arith}
use lib.Dec.{ltb}
use lib.ListN.{get_or, length, take}
use lib.Seq.{take-suc}
use mir.Syntax as Mir
use mir.Val.{Fits}
use Rattle.layout.specs.Reading.{Refusal, Res, bad, because, give, ok}
use Rattle.layout.specs.Primitives.{Width, be, bits, cell, flag, int, size, w64}
use Rattle.layout.proofs.Strict.{Bytes, canon_int}
use Rattle.layout.proofs.Cells.{above, extend, extend_high, extend_low, powers}
use Rattle.layout.proofs.Tests.{of_ge, of_lt}
use Rattle.layout.proofs.Steps.{int_bad, int_ok, then_bad, then_ok}
use Rattle.primitives.specs.Answers.{Below, Read, of_extended, of_number, taken}
use Rattle.std.specs.Prelude.{Ok, Err}

-- a byte more at the end
be_append : (a : ℕ) (s : List ℕ) (b : ℕ) → be a (s ++ (b ∷ [])) ≡ be a s * 256 + b
be_append a [] b = refl
be_append a (c ∷ s) b = be_append (a * 256 + c) s b

pub be_next : (s : List ℕ) (i v : ℕ) → i < length s → v ≡ be 0 (take i s) → (b : ℕ) → b ≡ get_or s i 0 → v * 256 + b ≡ be 0 (take (i + 1) s)
be_next s i v h e b g =
    let n : suc i ≡ i + 1 = omega arith in
    (λ t. e t * 256 + g t) ∙ sym (be_append 0 (take i s) (get_or s i 0)) ∙ ap (be 0) (sym (take-suc s i 0 h) ∙ ap (λ (k : ℕ). take k s) n)

-- a byte more has room, up to eight
pub room_for_byte : (i v b : ℕ) → i < 8 → v < 256 ^ i → b < 256 → (v * 256 < 2 ^ 64) × ((v * 256 + b < 2 ^ 64) × (v * 256 + b < 256 ^ (i + 1)))
room_for_byte zero v b h l k = (omega arith, (omega arith, omega arith))
room_for_byte (suc zero) v b h l k = (omega arith, (omega arith, omega arith))
room_for_byte (suc (suc zero)) v b h l k = (omega arith, (omega arith, omega arith))
room_for_byte (suc (suc (suc zero))) v b h l k = (omega arith, (omega arith, omega arith))
room_for_byte (suc (suc (suc (suc zero)))) v b h l k = (omega arith, (omega arith, omega arith))
room_for_byte (suc (suc (suc (suc (suc zero))))) v b h l k = (omega arith, (omega arith, omega arith))
room_for_byte (suc (suc (suc (suc (suc (suc zero)))))) v b h l k = (omega arith, (omega arith, omega arith))
room_for_byte (suc (suc (suc (suc (suc (suc (suc zero))))))) v b h l k = (omega arith, (omega arith, omega arith))
room_for_byte (suc (suc (suc (suc (suc (suc (suc (suc i)))))))) v b h l k = absurd (omega arith)

-- ---- k bytes, not negative

module _ (k : ℕ) (s : List ℕ) where
  pub int_short : (e : Refusal) → e ≡ because 3 0 → length s < k → bad e ≡ int k 0 s
  int_short e i h = ap bad i ∙ sym (int_bad k 0 s h)

  pub int_is : (n : ℕ) → k ≤ length s → n ≡ be 0 (take k s) → ok n k ≡ int k 0 s
  int_is n h e = ap (λ (m : ℕ). ok m k) e ∙ sym (int_ok k 0 s h)

  -- the bytes end, and nothing else
  pub int_refuses : (c : Refusal) → int k 0 s ≡ bad c → c ≡ because 3 0
  int_refuses c h =
      elim (dec_le k (length s)) [
        | yes l ↦ let g = int_ok k 0 s l in let z : ◌≡◌ {A = ℕ} 0 1 = cc in absurd (omega arith)
        | no l ↦ let g = int_bad k 0 s (omega arith) in cc
      ]

-- the bytes of a slice
pub bytes_of : (s : List ℕ) → ((i : ℕ) → Fits Mir.w8 (get_or s i 0)) → Bytes s
bytes_of [] h = tt
bytes_of (b ∷ s) h = ((h 0).fits, bytes_of s (λ i. h (suc i)))

-- from half on the bits above the width are filled
extends : (w : Width) (n : ℕ) → n < 2 ^ bits w → cond (ltb n (2 ^ (bits w - 1))) n (n + above w * 256 ^ size w) ≡ extend w n
extends w n h = go (ltb n (2 ^ (bits w - 1))) refl
  where
    go : (b : Bool) → ltb n (2 ^ (bits w - 1)) ≡ b → cond b n (n + above w * 256 ^ size w) ≡ extend w n
    go true e = sym (extend_low w n (of_lt _ _ e))
    go false e = sym (extend_high w n (of_ge _ _ e) h)

-- below 2 * half the quotient by half is 0 or 1
module _ (v half fill : ℕ) (h : v < 2 * half) where
  quotient_low : v < half → v / half * fill ≡ 0
  quotient_low l = ap (λ (q : ℕ). q * fill) (div-eq_of_lt l) ∙ zero-mul fill

  quotient_high : half ≤ v → v / half * fill ≡ fill
  quotient_high l = ap (λ (q : ℕ). q * fill) (div-eq_of_lt-le {k = 1} half (omega arith) (omega arith)) ∙ one-mul fill

  pub filled_is_lem : v + v / half * fill ≡ cond (ltb v half) v (v + fill)
  filled_is_lem = go (ltb v half) refl
    where
      go : (b : Bool) → ltb v half ≡ b → v + v / half * fill ≡ cond b v (v + fill)
      go true e = let q = quotient_low (of_lt _ _ e) in omega arith
      go false e = ap (λ (q : ℕ). v + q) (quotient_high (of_ge _ _ e))

  pub filled_fits : 2 * half + fill ≤ 2 ^ 64 → (v / half * fill < 2 ^ 64) × (v + v / half * fill < 2 ^ 64)
  filled_fits g = go (ltb v half) refl
    where
      go : (b : Bool) → ltb v half ≡ b → (v / half * fill < 2 ^ 64) × (v + v / half * fill < 2 ^ 64)
      go true e = let q = quotient_low (of_lt _ _ e) in (omega arith, omega arith)
      go false e = let q = quotient_high (of_ge _ _ e) in (omega arith, omega arith)

-- the cell of the number, and that it is below m
module _ (n : Read ℕ) (v u : ℕ) (i : n ≡ taken v u) where
  pub extended_is : (half fill c : ℕ) → c ≡ cond (ltb v half) v (v + fill) → ok c u ≡ of_extended half fill n
  extended_is half fill c e = ap (λ (x : ℕ). ok x u) e ∙ sym (ap (of_extended half fill) i)

  pub extended_below : (m : ℕ) → Below m n → v < m
  extended_below m b = subst (Below m) i b

module _ (w : Width) (s : List ℕ) where
  pub cell_is : (n : ℕ) → size w ≤ length s → n ≡ be 0 (take (size w) s) → ok (extend w n) (size w) ≡ cell w 0 s
  unfolding cell give
  cell_is n h e =
      sym (then_ok (int (size w)) _ 0 s (be 0 (take (size w) s)) (size w) (int_ok (size w) 0 s h) ∙ (λ i. ok (extend w (sym e i)) (add-zero (size w) i)))

  -- a number below 2^bits, and its cell
  module _ (s-bytes : (i : ℕ) → Fits Mir.w8 (get_or s i 0)) (n : Read ℕ) (e : of_number n ≡ int (size w) 0 s) where
    pub int_below : (m : ℕ) → 2 ^ bits w ≤ m → Below m n
    int_below m l = go n e
      where
        go : (n : Read ℕ) → of_number n ≡ int (size w) 0 s → Below m n
        go (Ok t) e = let p = powers w in let h : t.value < 256 ^ size w = ((canon_int (size w)).law 0 s t.value t.next (bytes_of s s-bytes) (sym e)).fact in omega (arith, p.power)
        go (Err c) e = tt

    pub cell_extended : (o : Res ℕ) → o ≡ of_extended (2 ^ (bits w - 1)) (above w * 256 ^ size w) n → o ≡ cell w 0 s
    unfolding cell give
    cell_extended o d = d ∙ go n e (int_below (2 ^ bits w) (omega arith))
      where
        go : (n : Read ℕ) → of_number n ≡ int (size w) 0 s → Below (2 ^ bits w) n → of_extended (2 ^ (bits w - 1)) (above w * 256 ^ size w) n ≡ cell w 0 s
        go (Ok t) e h = sym (then_ok (int (size w)) _ 0 s t.value t.next (sym e) ∙ (λ i. ok (sym (extends w t.value h) i) (add-zero t.next i)))
        go (Err c) e h = sym (then_bad (int (size w)) _ 0 s _ (sym e))

-- all 64 bits are the cell
whole : (n : ℕ) → n < 2 ^ 64 → extend w64 n ≡ n
whole n g = go (ltb n (2 ^ 63)) refl
  where
    go : (b : Bool) → ltb n (2 ^ 63) ≡ b → extend w64 n ≡ n
    go true i = extend_low w64 n (of_lt _ _ i)
    go false i = extend_high w64 n (of_ge _ _ i) g ∙ add-zero n

pub cell_64 : (s : List ℕ) → ((i : ℕ) → Fits Mir.w8 (get_or s i 0)) → (n : Read ℕ) → of_number n ≡ int 8 0 s → of_number n ≡ cell w64 0 s
unfolding cell give
cell_64 s b n e = go n e (int_below w64 s b n e (2 ^ 64) (omega arith))
  where
    go : (n : Read ℕ) → of_number n ≡ int 8 0 s → Below (2 ^ 64) n → of_number n ≡ cell w64 0 s
    go (Ok t) e h = sym (then_ok (int 8) _ 0 s t.value t.next (sym e) ∙ (λ i. ok (whole t.value h i) (add-zero t.next i)))
    go (Err c) e h = sym (then_bad (int 8) _ 0 s _ (sym e))

pub be_1 : (s : List ℕ) (n : ℕ) → 1 ≤ length s → n ≡ get_or s 0 0 → n ≡ be 0 (take 1 s)
be_1 [] n h e = absurd (omega arith)
be_1 (a ∷ s) n h e = omega arith

-- ---- Boolean

pub flag_short : (s : List ℕ) (e : Refusal) → e ≡ because 3 0 → length s < 1 → bad e ≡ flag 0 s
unfolding flag
flag_short s e i h = ap bad i ∙ sym (then_bad (int 1) _ 0 s (because 3 0) (int_bad 1 0 s h))

pub flag_is : (s : List ℕ) (n : ℕ) → 1 ≤ length s → n ≡ get_or s 0 0 → ok (ltb 0 n) 1 ≡ flag 0 s
unfolding flag give
flag_is s n h e = ap (λ (m : ℕ). ok (ltb 0 m) 1) (be_1 s n h e) ∙ sym (then_ok (int 1) _ 0 s (be 0 (take 1 s)) 1 (int_ok 1 0 s h))
