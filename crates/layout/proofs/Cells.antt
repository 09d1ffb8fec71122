-- Numbers as cells: a cell shows the number that its bytes carry, holds it, and gives the same bytes back. One law for all widths.
use mathlib.Core.Bool.{true, true≢false}
use mathlib.Core.List.{[], ◌++◌, ◌∷◌}
use mathlib.Core.Path.{◌∙◌, ◌≡◌, ap, refl, sym}
use Prim.Native.Nat.{◌%◌, ◌*◌, ◌+◌, ◌-◌, ◌/◌, ◌<◌, ◌^◌, ◌≤◌, suc, zero, ℕ}
use native.Mathlib.Nat.{mul_assoc, pow-suc}
use native.Mathlib.Omega.{arith}
use lib.Dec.{leb, lit≤, ltb}
use lib.IntN.{negsuc, pos, ℤ}
use mir.Syntax as Mir
use mir.Val.{of_z, to_z}
use Rattle.layout.specs.Primitives.{Width, bits, bytes, cell_of, holds, signed, size, w16, w32, w64, w8}
use Rattle.layout.proofs.Tests.{by_test, le-true, lt-false, lt-true, of_ge, of_le, of_lt}

-- only the lowest k bytes count
pub bytes_mod : (k n q : ℕ) → bytes k (n + q * 256 ^ k) ≡ bytes k n
unfolding bytes
bytes_mod zero n q = refl
bytes_mod (suc k) n q =
    let e : q * 256 ^ suc k ≡ q * 256 ^ k * 256 = ap (λ (x : ℕ). q * x) (pow-suc 256 k) ∙ sym (mul_assoc q (256 ^ k) 256) in
    let d : (n + q * 256 ^ suc k) / 256 ≡ n / 256 + q * 256 ^ k = omega (arith, e) in
    let m : (n + q * 256 ^ suc k) % 256 ≡ n % 256 = omega (arith, e) in
    λ i. (ap (bytes k) d ∙ bytes_mod k (n / 256) q) i ++ (m i ∷ [])

-- what sign extension adds, in patterns of the width
abbrev pub above : Width → ℕ
above w8 = 2 ^ 56 - 1
above w16 = 2 ^ 48 - 1
above w32 = 2 ^ 32 - 1
above w64 = 0

-- what differs between the widths, in numbers
pub record Powers (w : Width) : Type 0 where
  pub least : 1 ≤ 2 ^ (bits w - 1)
  pub half : 2 ^ bits w ≡ 2 * 2 ^ (bits w - 1)
  pub power : 256 ^ size w ≡ 2 ^ bits w
  pub whole : 2 ^ 64 ≡ 2 ^ bits w + above w * 256 ^ size w

pub powers : (w : Width) → Powers w
powers w8 = record { least = lit≤ tt; half = refl; power = refl; whole = refl }
powers w16 = record { least = lit≤ tt; half = refl; power = refl; whole = refl }
powers w32 = record { least = lit≤ tt; half = refl; power = refl; whole = refl }
powers w64 = record { least = lit≤ tt; half = refl; power = refl; whole = refl }

module _ (w : Width) where
  -- the cell of a pattern
  abbrev pub extend : ℕ → ℕ
  extend n = cell_of (signed w n)

  pub extend_low : (n : ℕ) → n < 2 ^ (bits w - 1) → extend n ≡ n
  unfolding signed
  extend_low n h = rw (lt-true n (2 ^ (bits w - 1)) h)

  pub extend_high : (n : ℕ) → 2 ^ (bits w - 1) ≤ n → n < 2 ^ bits w → extend n ≡ n + above w * 256 ^ size w
  unfolding signed
  extend_high n h g = rw (lt-false n (2 ^ (bits w - 1)) h) (let e = (powers w).whole in omega arith)

  -- either way
  extend_case : (P : ℕ → Type 0) (n : ℕ) → n < 2 ^ bits w → (n < 2 ^ (bits w - 1) → P n) → (2 ^ (bits w - 1) ≤ n → P (n + above w * 256 ^ size w)) → P (extend n)
  extend_case P n h low high = by_test (ltb n (2 ^ (bits w - 1))) (λ e. let l = of_lt _ _ e in rw (extend_low n l) (low l)) (λ e. let g = of_ge _ _ e in rw (extend_high n g h) (high g))

  pub extend_bytes : (n : ℕ) → n < 2 ^ bits w → bytes (size w) (extend n) ≡ bytes (size w) n
  extend_bytes n h = extend_case (λ c. bytes (size w) c ≡ bytes (size w) n) n h (λ g. refl) (λ g. bytes_mod (size w) n (above w))

  holds_low : (n : ℕ) → n < 2 ^ (bits w - 1) → holds w n ≡ true
  unfolding holds
  holds_low n h = rw (lt-true n (2 ^ (bits w - 1)) h)

  holds_high : (n : ℕ) → 2 ^ (bits w - 1) ≤ n → n < 2 ^ bits w → holds w (n + above w * 256 ^ size w) ≡ true
  unfolding holds
  holds_high n h g =
      let p = powers w in
      let c = n + above w * 256 ^ size w in
      rw (lt-false c (2 ^ (bits w - 1)) (omega arith), le-true (2 ^ 64 - 2 ^ (bits w - 1)) c (omega (arith, p.whole, p.half))) (lt-true c (2 ^ 64) (omega (arith, p.whole)))

  pub extend_holds : (n : ℕ) → n < 2 ^ bits w → holds w (extend n) ≡ true
  extend_holds n h = extend_case (λ c. holds w c ≡ true) n h (holds_low n) (λ g. holds_high n g h)

-- a cell shows the number that it was made of
pub shows_pos : (n : ℕ) → n < 2 ^ 63 → signed w64 n ≡ pos n
unfolding signed
shows_pos n h = rw (lt-true n 9223372036854775808 h)

pub shows_neg : (n : ℕ) → n < 2 ^ 63 → signed w64 (2 ^ 64 - suc n) ≡ negsuc n
unfolding signed
shows_neg n h = rw (lt-false (2 ^ 64 - suc n) 9223372036854775808 (omega arith)) (ap negsuc (omega arith))

pub extend_shows : (w : Width) (n : ℕ) → n < 2 ^ bits w → signed w64 (extend w n) ≡ signed w n
unfolding signed
extend_shows w n h =
    let p = powers w in
    by_test (ltb n (2 ^ (bits w - 1))) (λ e. let i : n < 2 ^ (bits w - 1) = of_lt _ _ e in rw e (shows_pos n (omega (arith, p.half, p.whole))))
    (λ e. let i : 2 ^ (bits w - 1) ≤ n = of_ge _ _ e in rw e (shows_neg (2 ^ bits w - suc n) (omega (arith, p.half, p.whole))))

-- the pattern in its width that a cell extends
pub record Pattern (w : Width) (c : ℕ) : Type 0 where
  pub n : ℕ
  pub small : n < 256 ^ size w
  pub is : extend w n ≡ c
  pub same : bytes (size w) c ≡ bytes (size w) n

pub pattern : (w : Width) (c : ℕ) → holds w c ≡ true → Pattern w c
unfolding holds
pattern w c h = by_test (ltb c (2 ^ (bits w - 1))) (λ d. low (of_lt _ _ d)) (λ d. by_test (leb (2 ^ 64 - 2 ^ (bits w - 1)) c) (λ e. high (of_le _ _ e) (of_lt _ _ (rw (d, e) at h))) (λ e. absurd (true≢false (sym (rw (d, e) at h)))))
  where
    low : c < 2 ^ (bits w - 1) → Pattern w c
    low i = let p = powers w in record { n = c; small = omega (arith, p.half, p.power); is = extend_low w c i; same = refl }

    high : 2 ^ 64 - 2 ^ (bits w - 1) ≤ c → c < 2 ^ 64 → Pattern w c
    high i j =
        let p = powers w in
        let n = c - above w * 256 ^ size w in
        let e : c ≡ n + above w * 256 ^ size w = omega (arith, p.whole, p.half) in
        record {
          n = n;
          small = omega (arith, p.whole, p.half, p.power);
          is = extend_high w n (omega (arith, p.whole, p.half)) (omega (arith, p.whole, p.half)) ∙ sym e;
          same = ap (bytes (size w)) e ∙ bytes_mod (size w) n (above w);
        }

-- the compiler's widths, and its signed numbers: the same
abbrev pub in_mir : Width → Mir.Width
in_mir w8 = Mir.w8
in_mir w16 = Mir.w16
in_mir w32 = Mir.w32
in_mir w64 = Mir.w64

pub signed_is : (w : Width) (n : ℕ) → signed w n ≡ to_z (in_mir w) n
unfolding signed
signed_is w8 n = refl
signed_is w16 n = refl
signed_is w32 n = refl
signed_is w64 n = refl

pub cell_is : (z : ℤ) → cell_of z ≡ of_z (in_mir w64) z
cell_is (pos n) = refl
cell_is (negsuc n) = refl
