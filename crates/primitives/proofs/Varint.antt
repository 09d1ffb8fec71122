-- The loop of an unsigned varint: where it stands, and what each way out and each turn gives. b is the byte at p. Then Varint and Varlong: the number that it carries, and what the calls answer.
use mathlib.Core.Bool.{Bool, cond, false, true}
use mathlib.Core.List.{List}
use mathlib.Core.Path.{◌∙◌, ◌≡◌, ap, refl, subst, sym}
use Prim.Native.Nat.{◌%◌, ◌*◌, ◌+◌, ◌-◌, ◌/◌, ◌<◌, ◌^◌, ◌≤◌, suc, zero, ℕ}
use native.Mathlib.Nat.{add-zero, mul_assoc, mul-le-mul_left, mul-le-mul_right, mul-one, one-le-pow, pow-succ', pow-zero, zero-add}
use native.Mathlib.Omega.{arith}
use lib.Dec.{eqb, ltb}
use lib.ListN.{drop, get_or, length, length-drop, take}
use lib.Seq.{drop-drop, get_or-drop}
use lib.IntN.{negsuc, pos, ℤ}
use borrow.Author.Tests.{eq-eqb, ne_eqb}
use Rattle.layout.specs.Reading.{Reader, Refusal, Res, bad, because, fail, give, more, ok, pick, placed, single, then}
use Rattle.layout.specs.Primitives.{be, cell_of, groups, int, signed, unsigned, unzigzag, varint, varlong, w64}
use Rattle.primitives.specs.Answers.{Read, of_carried, of_narrow, of_number, taken, tenth_byte}
use Rattle.std.specs.Prelude.{Ok, Err}
use Rattle.layout.proofs.Link.{more_more, over}
use Rattle.layout.proofs.Steps.{int_bad, int_ok, primitive_place, then_bad, then_ok}
use Rattle.layout.proofs.Tests.{lt-false, lt-true, of_ge, of_lt}
use Rattle.layout.proofs.Cells.{shows_neg, shows_pos}
use Rattle.primitives.proofs.Cells.{be_1}

-- k more bytes may follow before the tenth; weight and value as `groups` has them; what is left of it from p on is what was asked
pub record Along (s : List ℕ) (k weight value p : ℕ) : Type 0 where
  pub whole : weight * 128 ^ k ≡ 2 ^ 63
  pub below : value < weight
  pub same : unsigned 0 s ≡ placed false 0 (more p (groups k weight value p (drop p s)))

more_none : {A : Type 0} (o : Res A) → o ≡ more 0 o
more_none (ok x n) = ap (λ (m : ℕ). ok x m) (sym (zero-add n))
more_none (bad e) = refl

pub start : (s : List ℕ) → Along s 9 1 0 0
unfolding unsigned single
start s = record { whole = refl; below = omega arith; same = ap (placed false 0) (more_none (groups 9 1 0 0 s)) }

module _ (s : List ℕ) (weight value p : ℕ) where
  -- the bytes end
  pub short : (k : ℕ) (o : Res ℕ) → o ≡ bad (because 3 0) → Along s k weight value p → length s ≤ p → o ≡ unsigned 0 s
  unfolding groups
  short zero o e a l = e ∙ sym (a.same ∙ ap (λ o. placed false 0 (more p o)) (then_bad (int 1) _ p (drop p s) (because 3 p) (int_bad 1 p (drop p s) (omega (arith, length-drop p s)))))
  short (suc k) o e a l = e ∙ sym (a.same ∙ ap (λ o. placed false 0 (more p o)) (then_bad (int 1) _ p (drop p s) (because 3 p) (int_bad 1 p (drop p s) (omega (arith, length-drop p s)))))

  -- the weight times 128 is a weight
  pub narrow : (k : ℕ) → 0 < k → Along s k weight value p → weight * 128 ≤ 2 ^ 63
  narrow zero h a = absurd (omega arith)
  narrow (suc k) h a =
      let e : (weight * 128) * 128 ^ k ≡ 2 ^ 63 = mul_assoc weight 128 (128 ^ k) ∙ ap (λ (n : ℕ). weight * n) (sym (pow-succ' 128 k)) ∙ a.whole in
      let g : weight * 128 * 1 ≤ weight * 128 * 128 ^ k = mul-le-mul_left (weight * 128) (one-le-pow k 128 (omega arith)) in
      omega arith

  -- no sum and no product wraps
  pub room : (k : ℕ) → 0 < k → Along s k weight value p → (d : ℕ) → d < 128 → (d * weight < 2 ^ 64) × (value + d * weight < 2 ^ 64)
  room k h a d l =
      let g : d * weight ≤ 127 * weight = mul-le-mul_right weight (omega arith) in
      let n : weight * 128 ≤ 2 ^ 63 = narrow k h a in
      let m = a.below in
      (omega arith, omega arith)

  -- at the tenth byte the weight is known
  weight_10 : Along s 0 weight value p → weight ≡ 2 ^ 63
  weight_10 a = sym (ap (λ (n : ℕ). weight * n) (pow-zero 128) ∙ mul-one weight) ∙ a.whole

  pub below_10 : (k : ℕ) → k ≤ 0 → Along s k weight value p → value < 2 ^ 63
  below_10 zero h a = let w = weight_10 a in let l = a.below in omega arith
  below_10 (suc k) h a = absurd (omega arith)

  module _ (b : ℕ) (e : b ≡ get_or s p 0) (i : p < length s) where
    -- the byte at p is read
    byte : {A : Type 0} (f : ℕ → Reader A) → then (int 1) f p (drop p s) ≡ more 1 (f b (p + 1) (drop (p + 1) s))
    byte f =
        let l : 1 ≤ length (drop p s) = omega (arith, length-drop p s) in
        let g : b ≡ be 0 (take 1 (drop p s)) = be_1 (drop p s) b l (e ∙ sym (get_or-drop p s 0 0 ∙ ap (λ (n : ℕ). get_or s n 0) (add-zero p))) in
        then_ok (int 1) f p (drop p s) (be 0 (take 1 (drop p s))) 1 (int_ok 1 p (drop p s) l) ∙ (λ t. more 1 (f (sym g t) (p + 1) (drop-drop 1 p s t)))

    low_group : (k : ℕ) → b < 128 → groups (suc k) weight value p (drop p s) ≡ ok (value + b * weight) 1
    unfolding groups pick give
    low_group k l = byte _ ∙ rw (lt-true b 128 l)

    high_group : (k : ℕ) → 128 ≤ b → groups (suc k) weight value p (drop p s) ≡ more 1 (groups k (weight * 128) (value + b % 128 * weight) (p + 1) (drop (p + 1) s))
    unfolding groups pick
    high_group k l = byte _ ∙ rw (lt-false b 128 l)

    low_tenth : b < 128 → groups 0 weight value p (drop p s) ≡ ok (value + b % 2 * weight) 1
    unfolding groups pick give
    low_tenth l = byte _ ∙ rw (lt-true b 128 l)

    high_tenth : 128 ≤ b → groups 0 weight value p (drop p s) ≡ bad (because 5 (p + 1))
    unfolding groups pick fail
    high_tenth l = byte _ ∙ rw (lt-false b 128 l)

    -- what is left is o, so what was asked is o behind p bytes
    asked : (o : Res ℕ) (k : ℕ) → Along s k weight value p → groups k weight value p (drop p s) ≡ o → placed false 0 (more p o) ≡ unsigned 0 s
    asked o k a h = sym (a.same ∙ ap (λ (u : Res ℕ). placed false 0 (more p u)) h)

    pub ended : (k : ℕ) → 0 < k → Along s k weight value p → b < 128 → ok (value + b * weight) (p + 1) ≡ unsigned 0 s
    ended zero h a l = absurd (omega arith)
    ended (suc k) h a l = asked _ (suc k) a (low_group k l)

    pub tenth_is : (k : ℕ) → k ≤ 0 → Along s k weight value p → p ≡ 9 → tenth_byte value b ≡ unsigned 0 s
    tenth_is zero h a q = go (ltb b 128) refl
      where
        go : (t : Bool) → ltb b 128 ≡ t → cond t (ok (value + b % 2 * 2 ^ 63) 10) (bad (because 5 0)) ≡ unsigned 0 s
        go true j = let w = weight_10 a in let m : 10 ≡ p + 1 = omega arith in (λ t. ok (value + b % 2 * sym w t) (m t)) ∙ asked _ 0 a (low_tenth (of_lt b 128 j))
        go false j = asked _ 0 a (high_tenth (of_ge b 128 j))
    tenth_is (suc k) h a q = absurd (omega arith)

    next_at : (k : ℕ) → Along s (suc k) weight value p → 128 ≤ b → Along s k (weight * 128) (value + b % 128 * weight) (p + 1)
    next_at k a l =
        let g : b % 128 * weight ≤ 127 * weight = mul-le-mul_right weight (omega arith) in
        record {
          whole = mul_assoc weight 128 (128 ^ k) ∙ ap (λ (n : ℕ). weight * n) (sym (pow-succ' 128 k)) ∙ a.whole;
          below = omega (arith, a.below);
          same = sym (asked (more 1 (groups k (weight * 128) (value + b % 128 * weight) (p + 1) (drop (p + 1) s))) (suc k) a (high_group k l)) ∙ ap (placed false 0) (more_more p 1 (groups k (weight * 128) (value + b % 128 * weight) (p + 1) (drop (p + 1) s)));
        }

    pub again : (k : ℕ) → 0 < k → Along s k weight value p → 128 ≤ b → (j : ℕ) → j ≡ k - 1 → Along s j (weight * 128) (value + b % 128 * weight) (p + 1)
    again zero h a l j i = absurd (omega arith)
    again (suc k) h a l j i = subst (λ (j : ℕ). Along s j (weight * 128) (value + b % 128 * weight) (p + 1)) (omega arith) (next_at k a l)

-- the tenth byte, by what it is
module _ (a b : ℕ) where
  pub tenth_low : b < 128 → ok (a + b % 2 * 2 ^ 63) 10 ≡ tenth_byte a b
  tenth_low l = rw (lt-true b 128 l)

  pub tenth_high : 128 ≤ b → (c : Refusal) → c ≡ because 5 0 → bad c ≡ tenth_byte a b
  tenth_high l c e = ap bad e ∙ rw (lt-false b 128 l)

pub even : (n : ℕ) → n % 2 ≡ 0 → n / 2 ≡ cell_of (unzigzag n)
unfolding unzigzag
even n h = rw (eq-eqb (n % 2) 0 h)

pub odd : (n : ℕ) → (n % 2 ≡ 0 → ⊥) → 18446744073709551615 - n / 2 ≡ cell_of (unzigzag n)
unfolding unzigzag
odd n h = rw (ne_eqb (n % 2) 0 h) (omega arith)

cell_shows : (n : ℕ) → n < 2 ^ 64 → signed w64 (cell_of (unzigzag n)) ≡ unzigzag n
unfolding unzigzag
cell_shows n h = go (eqb (n % 2) 0)
  where
    go : (b : Bool) → signed w64 (cell_of (cond b (pos (n / 2)) (negsuc (n / 2)))) ≡ cond b (pos (n / 2)) (negsuc (n / 2))
    go true = shows_pos (n / 2) (omega arith)
    go false = shows_neg (n / 2) (omega arith)

-- the cell of n's number shows it
pub carried_took : (m : Read ℕ) (n k c : ℕ) → m ≡ taken n k → n < 2 ^ 64 → c ≡ cell_of (unzigzag n) → ok (signed w64 c) k ≡ of_carried m
carried_took m n k c i h e = ap (λ (z : ℤ). ok z k) (ap (signed w64) e ∙ cell_shows n h) ∙ sym (ap of_carried i)

-- 32 bits, and what is outside
module _ (m : Read ℕ) (n k : ℕ) (i : m ≡ taken n k) where
  pub narrow_low : n ≤ 4294967295 → ok n k ≡ of_narrow m
  narrow_low h = sym (ap of_narrow i ∙ rw (lt-true n 4294967296 (omega arith)))

  pub narrow_high : (e : Refusal) → 4294967295 < n → e ≡ because 11 0 → bad e ≡ of_narrow m
  narrow_high e h d = ap bad d ∙ sym (ap of_narrow i ∙ rw (lt-false n 4294967296 h))

of_carried_lem : (n : Read ℕ) → of_carried n ≡ over unzigzag (of_number n)
of_carried_lem (Ok t) = refl
of_carried_lem (Err e) = refl

module _ (s : List ℕ) where
  pub placed_0 : (e : Refusal) → unsigned 0 s ≡ bad e → e ≡ because e.number 0
  unfolding unsigned
  placed_0 e h = primitive_place (groups 9 1 0) 0 s e h

  -- the number carried by what was read
  pub varlong_is : (n : Read ℕ) → of_number n ≡ unsigned 0 s → of_carried n ≡ varlong 0 s
  unfolding varlong give
  varlong_is (Ok t) e = sym (then_ok unsigned _ 0 s t.value t.next (sym e) ∙ ap (λ (m : ℕ). ok (unzigzag t.value) m) (add-zero t.next))
  varlong_is (Err c) e = sym (then_bad unsigned _ 0 s _ (sym e))

  -- the same, narrowed first
  narrowed : (v k : ℕ) → ok v k ≡ unsigned 0 s → over unzigzag (cond (ltb v (2 ^ 32)) (ok v k) (bad (because 11 0))) ≡ varint 0 s
  unfolding varint single pick give fail
  narrowed v k e = go (ltb v (2 ^ 32)) ∙ sym (ap (placed false 0) (then_ok unsigned _ 0 s v k (sym e)))
    where
      go : (b : Bool) → over unzigzag (cond b (ok v k) (bad (because 11 0))) ≡ placed false 0 (more k (pick b (give (unzigzag v)) (fail 11) (0 + k) (drop k s)))
      go true = ap (λ (m : ℕ). ok (unzigzag v) m) (sym (add-zero k))
      go false = refl

  pub varint_is : (n m : Read ℕ) → of_number n ≡ unsigned 0 s → of_number m ≡ of_narrow n → of_carried m ≡ varint 0 s
  unfolding varint single
  varint_is n m e d = of_carried_lem m ∙ ap (over unzigzag) d ∙ go n e
    where
      go : (n : Read ℕ) → of_number n ≡ unsigned 0 s → over unzigzag (of_narrow n) ≡ varint 0 s
      go (Ok t) e = narrowed t.value t.next e
      go (Err c) e = ap bad (placed_0 _ (sym e)) ∙ sym (ap (placed false 0) (then_bad unsigned _ 0 s _ (sym e)))
