-- The shortest form of an unsigned varint: byte by byte, its length, and the loop that stores it.
use mathlib.Core.Bool.{Bool, cond, false, true}
use mathlib.Core.List.{List, [], ◌++◌, ◌∷◌}
use mathlib.Core.Path.{◌∙◌, ◌≡◌, ap, refl, subst, sym}
use Prim.Native.Nat.{◌%◌, ◌*◌, ◌+◌, ◌-◌, ◌/◌, ◌<◌, ◌^◌, ◌≤◌, suc, zero, ℕ}
use native.Mathlib.Decide.{dec_lt}
use native.Mathlib.Nat.{mod-eq_of_lt, pow-suc, zero-add}
use native.Mathlib.Numerals.{add-one}
use native.Mathlib.Omega.{arith}
use lib.Count.{count_leading_zeros, leading_length}
use lib.Dec.{ltb}
use lib.ListN.{drop, length, length-set, set, take}
use lib.Pow.{pow-add, pow_mono}
use lib.Seq.{append_snoc, drop-set-lt, set_split, take-suc-set}
use Rattle.layout.specs.Primitives.{bytes, shortest, unsigned_bytes}
use Rattle.layout.proofs.Tests.{lt-false, lt-true}
use Rattle.primitives_put.specs.Put.{Put}
use Rattle.primitives_put.proofs.Stored.{put_all}

one_byte : (n : ℕ) → n < 256 → bytes 1 n ≡ n ∷ []
unfolding bytes
one_byte n h = ap (λ (b : ℕ). b ∷ []) (mod-eq_of_lt h)

low : (k n : ℕ) → n < 128 → shortest k n ≡ n ∷ []
unfolding shortest
low zero n h = one_byte n (omega arith)
low (suc k) n h = rw (lt-true n 128 h) (one_byte n (omega arith))

high : (k n : ℕ) → 128 ≤ n → shortest (suc k) n ≡ (128 + n % 128) ∷ shortest k (n / 128)
unfolding shortest
high k n h = rw (lt-false n 128 h) (ap (λ (s : List ℕ). s ++ shortest k (n / 128)) (one_byte (128 + n % 128) (omega arith)))

-- where it is enough, how many more bytes may follow does not matter
enough : (j k n : ℕ) → n < 2 * 128 ^ j → n < 2 * 128 ^ k → shortest j n ≡ shortest k n
enough zero k n h i = low zero n (omega arith) ∙ sym (low k n (omega arith))
enough (suc j) zero n h i = low (suc j) n (omega arith) ∙ sym (low zero n (omega arith))
enough (suc j) (suc k) n h i =
    elim (dec_lt n 128) [
      | yes l ↦ low (suc j) n l ∙ sym (low (suc k) n l)
      | no l ↦ high j n (omega arith) ∙ ap (λ (s : List ℕ). (128 + n % 128) ∷ s) (enough j k (n / 128) (omega (arith, pow-suc 128 j)) (omega (arith, pow-suc 128 k))) ∙ sym (high k n (omega arith))
    ]

pub unsigned_last : (n : ℕ) → n < 128 → unsigned_bytes n ≡ n ∷ []
unfolding unsigned_bytes
unsigned_last n h = low 9 n h

-- one byte, which is the lowest of the number
pub put_one : {n r : ℕ} {d d' : List ℕ} → n < 128 → Put (bytes 1 n) d r d' → Put (unsigned_bytes n) d r d'
put_one {n} {r} {d} {d'} h = subst (λ (bs : List ℕ). Put bs d r d') (one_byte n (omega arith) ∙ sym (unsigned_last n h))

pub unsigned_more : (n : ℕ) → 128 ≤ n → n < 2 ^ 64 → unsigned_bytes n ≡ (128 + n % 128) ∷ unsigned_bytes (n / 128)
unfolding unsigned_bytes
unsigned_more n h i = high 8 n h ∙ ap (λ (s : List ℕ). (128 + n % 128) ∷ s) (enough 8 9 (n / 128) (omega arith) (omega arith))

-- one byte at least, and ten at most
shortest_length : (k n : ℕ) → (1 ≤ length (shortest k n)) × (length (shortest k n) ≤ suc k)
unfolding shortest bytes
shortest_length zero n = omega arith
shortest_length (suc k) n = go (ltb n 128) (shortest_length k (n / 128))
  where
    go : (b : Bool) → (1 ≤ length (shortest k (n / 128))) × (length (shortest k (n / 128)) ≤ suc k) →
        (1 ≤ length (cond b (bytes 1 n) (bytes 1 (128 + n % 128) ++ shortest k (n / 128)))) × (length (cond b (bytes 1 n) (bytes 1 (128 + n % 128) ++ shortest k (n / 128))) ≤ suc (suc k))
    go true h = omega arith
    go false h = omega arith

pub unsigned_length : (n : ℕ) → (1 ≤ length (unsigned_bytes n)) × (length (unsigned_bytes n) ≤ 10)
unfolding unsigned_bytes
unsigned_length n = shortest_length 9 n

-- up to seven bits, and none, take one byte
few_bits : (k n m : ℕ) → m ≤ 7 → n < 2 ^ m → length (shortest k n) ≡ suc ((m - 1) / 7)
few_bits k n m h a = ap length (low k n (omega (arith, a, pow_mono {i = m} {j = 7} h))) ∙ (let e : 1 ≡ suc ((m - 1) / 7) = omega arith in e)

-- n has m significant bits: 2 ^ m is the least power above it. Each byte takes seven of them
shortest_bits : (k n m : ℕ) → m ≤ 7 * suc k → n < 2 ^ m → 2 ^ m ≤ 2 * n + 1 → length (shortest k n) ≡ suc ((m - 1) / 7)
shortest_bits zero n m h a b = few_bits zero n m (omega arith) a
shortest_bits (suc k) n m h a b =
    elim (dec_lt 7 m) [
      | no l ↦ few_bits (suc k) n m (omega arith) a
      | yes l ↦
          let i : ℕ = m - 7 in
          let e : 2 ^ m ≡ 2 ^ i * 2 ^ 7 = ap (λ (x : ℕ). 2 ^ x) (let d : m ≡ i + 7 = omega arith in d) ∙ pow-add 2 i 7 in
          let p : 2 ≤ 2 ^ i = pow_mono {i = 1} {j = i} (omega arith) in
          ap length (high k n (omega (arith, e, p, b)))
          ∙ ap suc (shortest_bits k (n / 128) i (omega arith) (omega (arith, e, a)) (omega (arith, e, b)))
          ∙ (let d : suc (suc ((i - 1) / 7)) ≡ suc ((m - 1) / 7) = omega arith in d)
    ]

-- the significant bits of n divided by seven, rounded up, and one byte for 0, which has none
pub unsigned_bits : (n : ℕ) → n < 2 ^ 64 → length (unsigned_bytes n) ≡ suc ((64 - count_leading_zeros 64 n - 1) / 7)
unfolding unsigned_bytes
unsigned_bits n h =
    let t = leading_length 64 n h in
    let e : t.0 ≡ 64 - count_leading_zeros 64 n = omega (arith, t.1) in
    shortest_bits 9 n t.0 (omega (arith, t.1)) t.2 t.3 ∙ ap (λ (m : ℕ). suc ((m - 1) / 7)) e

-- p bytes are stored, and those of `left` are to follow: between what stands before p and what stands behind them, they make what was asked
pub record Up (d : List ℕ) (n : ℕ) (out : List ℕ) (left p : ℕ) : Type 0 where
  pub less : left ≤ n
  pub long : length out ≡ length d
  pub room : p + length (unsigned_bytes left) ≤ length d
  pub same : take p out ++ (unsigned_bytes left ++ drop (p + length (unsigned_bytes left)) out) ≡ unsigned_bytes n ++ drop (length (unsigned_bytes n)) d

module _ (d : List ℕ) (n : ℕ) where
  pub up_start : length (unsigned_bytes n) ≤ length d → Up d n d n 0
  up_start h = record {
    less = omega arith;
    long = refl;
    room = omega arith;
    same = ap (λ (k : ℕ). unsigned_bytes n ++ drop k d) (zero-add (length (unsigned_bytes n)));
  }

  module _ (out : List ℕ) (left p : ℕ) (a : Up d n out left p) where
    -- there is room for the next byte
    pub up_room : p < length out
    up_room = omega (arith, a.long, a.room, unsigned_length left)

    pub up_again : n < 2 ^ 64 → 128 ≤ left → Up d n (set out p (128 + left % 128)) (left / 128) (p + 1)
    up_again h i =
        let b : ℕ = 128 + left % 128 in
        let t : List ℕ = unsigned_bytes (left / 128) in
        let m : unsigned_bytes left ≡ b ∷ t = unsigned_more left i (omega (arith, a.less)) in
        let e : p + 1 + length t ≡ p + length (unsigned_bytes left) = omega (arith, ap length m) in
        record {
          less = omega (arith, a.less);
          long = length-set out p b ∙ a.long;
          room = omega (arith, a.room);
          same =
              ap (λ (s : List ℕ). take (p + 1) (set out p b) ++ (t ++ s)) (drop-set-lt (p + 1 + length t) out p b (omega arith) ∙ ap (λ (k : ℕ). drop k out) e)
              ∙ ap (λ (s : List ℕ). s ++ (t ++ drop (p + length (unsigned_bytes left)) out)) (ap (λ (k : ℕ). take k (set out p b)) (add-one p) ∙ take-suc-set out p b up_room)
              ∙ append_snoc (take p out) b (t ++ drop (p + length (unsigned_bytes left)) out)
              ∙ ap (λ (s : List ℕ). take p out ++ (s ++ drop (p + length (unsigned_bytes left)) out)) (sym m)
              ∙ a.same;
        }

    pub up_end : (r : ℕ) → r ≡ length (unsigned_bytes n) → r ≤ length d → left < 128 → Put (unsigned_bytes n) d r (set out p left)
    up_end r e h i =
        let m : unsigned_bytes left ≡ left ∷ [] = unsigned_last left i in
        let k : suc p ≡ p + length (unsigned_bytes left) = omega (arith, ap length m) in
        put_all (unsigned_bytes n) d r e (set out p left) h
        (set_split out p left up_room
        ∙ ap (λ (j : ℕ). take p out ++ left ∷ drop j out) k
        ∙ ap (λ (s : List ℕ). take p out ++ (s ++ drop (p + length (unsigned_bytes left)) out)) (sym m)
        ∙ a.same)

-- 2 to the 64, one more than 64 bits hold
all_bits : unsigned_bytes 18446744073709551616 ≡ 128 ∷ 128 ∷ 128 ∷ 128 ∷ 128 ∷ 128 ∷ 128 ∷ 128 ∷ 128 ∷ 2 ∷ []
unfolding unsigned_bytes shortest bytes
all_bits = refl

pub beyond : (n : ℕ) → n < 2 ^ 64 → 18446744073709551615 ≤ n → unsigned_bytes (n + 1) ≡ 128 ∷ 128 ∷ 128 ∷ 128 ∷ 128 ∷ 128 ∷ 128 ∷ 128 ∷ 128 ∷ 2 ∷ []
beyond n h l = ap unsigned_bytes (let e : n + 1 ≡ 18446744073709551616 = omega arith in e) ∙ all_bits
