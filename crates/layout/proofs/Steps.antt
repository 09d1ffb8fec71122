-- One step of a reader: what follows from its parts, and what an accepted read says of them.
use mathlib.Core.Bool.{Bool, cond, false, true, true≢false}
use mathlib.Core.List.{List, [], ◌∷◌}
use mathlib.Core.Path.{◌∙◌, ◌≡◌, ap, refl, sym}
use Prim.Native.Nat.{◌+◌, ◌<◌, ◌≤◌, suc, zero, ℕ}
use native.Mathlib.Nat.{add-zero}
use native.Mathlib.Omega.{arith}
use lib.Dec.{eqb, leb}
use lib.ListN.{drop, length, take}
use Rattle.layout.specs.Reading.{Reader, Refusal, Res, bad, because, fail, fail_at, give, here, many, more, ok, pair, pick, primitive, raw, single, then}
use Rattle.layout.specs.Primitives.{be, checked, int}
use Rattle.layout.specs.Utf8.{well_formed}
use Rattle.layout.proofs.Tests.{by_test, le-false, le-true, of_eq, of_le}

-- a refusal is no answer
pub not_ok : {A X : Type 0} {e : Refusal} {x : A} {n : ℕ} → bad e ≡ ok x n → X
not_ok h = let z : ◌≡◌ {A = ℕ} 0 1 = cc in absurd (omega arith)

-- a reader accepts or refuses
pub by_result : {A P : Type 0} (o : Res A) → ((x : A) (n : ℕ) → o ≡ ok x n → P) → ((e : Refusal) → o ≡ bad e → P) → P
by_result (ok x n) h g = h x n refl
by_result (bad e) h g = g e refl

-- what is accepted has passed its tests
pub passed : {A : Type 0} (b : Bool) (o : Res A) (e : Refusal) (x : A) (n : ℕ) → cond b o (bad e) ≡ ok x n → (b ≡ true) × (o ≡ ok x n)
passed true o e x n h = (refl, h)
passed false o e x n h = not_ok h

pub then_ok : {A B : Type 0} (r : Reader A) (f : A → Reader B) (p : ℕ) (s : List ℕ) (x : A) (n : ℕ) → r p s ≡ ok x n → then r f p s ≡ more n (f x (p + n) (drop n s))
unfolding then
then_ok r f p s x n e = rw e

pub then_bad : {A B : Type 0} (r : Reader A) (f : A → Reader B) (p : ℕ) (s : List ℕ) (e : Refusal) → r p s ≡ bad e → then r f p s ≡ bad e
unfolding then
then_bad r f p s e h = rw h

pub raw_ok : (n p : ℕ) (s : List ℕ) → n ≤ length s → raw n p s ≡ ok (take n s) n
unfolding raw
raw_ok n p s h = rw (le-true n (length s) h)

pub raw_bad : (n p : ℕ) (s : List ℕ) → length s < n → raw n p s ≡ bad (because 3 p)
unfolding raw
raw_bad n p s h = rw (le-false n (length s) h)

pub int_ok : (k p : ℕ) (s : List ℕ) → k ≤ length s → int k p s ≡ ok (be 0 (take k s)) k
unfolding int give
int_ok k p s h = then_ok (raw k) _ p s (take k s) k (raw_ok k p s h) ∙ ap (λ (n : ℕ). ok (be 0 (take k s)) n) (add-zero k)

pub int_bad : (k p : ℕ) (s : List ℕ) → length s < k → int k p s ≡ bad (because 3 p)
unfolding int
int_bad k p s h = then_bad (raw k) _ p s (because 3 p) (raw_bad k p s h)

-- ---- backward

pub record Split {A B : Type 0} (r : Reader A) (f : A → Reader B) (p : ℕ) (s : List ℕ) (y : B) (m : ℕ) : Type 0 where
  pub x : A
  pub n : ℕ
  pub k : ℕ
  pub first : r p s ≡ ok x n
  pub second : f x (p + n) (drop n s) ≡ ok y k
  pub sum : m ≡ n + k

pub split : {A B : Type 0} (r : Reader A) (f : A → Reader B) (p : ℕ) (s : List ℕ) (y : B) (m : ℕ) → then r f p s ≡ ok y m → Split r f p s y m
unfolding then
split r f p s y m e =
    by_result (r p s)
    (λ x n d. by_result (f x (p + n) (drop n s))
    (λ z k c. let g : ok z (n + k) ≡ ok y m = rw (d, c) at e in record { x = x; n = n; k = k; first = d; second = c ∙ cc; sum = cc })
    (λ w c. not_ok (rw (d, c) at e)))
    (λ c d. not_ok (rw d at e))

-- what was accepted of r, and what g makes of it
pub record Under {A S : Type 0} (r : Reader A) (g : A → S) (p : ℕ) (s : List ℕ) (y : S) (n : ℕ) : Type 0 where
  pub x : A
  pub reads : r p s ≡ ok x n
  pub is : g x ≡ y

pub given : {A S : Type 0} (r : Reader A) (g : A → S) (p : ℕ) (s : List ℕ) (y : S) (n : ℕ) → then r (λ x. give (g x)) p s ≡ ok y n → Under r g p s y n
unfolding give
given r g p s y n e =
    let a = split r _ p s y n e in
    let c = a.second in
    let z : 0 ≡ a.k = cc in
    let m : a.n ≡ n = omega (arith, a.sum) in
    record { x = a.x; reads = a.first ∙ ap (λ (j : ℕ). ok a.x j) m; is = cc }

pub record Raw (n : ℕ) (s x : List ℕ) (m : ℕ) : Type 0 where
  pub fits : n ≤ length s
  pub is : x ≡ take n s
  pub used : m ≡ n

pub raw_inv : (n p : ℕ) (s x : List ℕ) (m : ℕ) → raw n p s ≡ ok x m → Raw n s x m
unfolding raw
raw_inv n p s x m h =
    let a = passed (leb n (length s)) (ok (take n s) n) _ x m h in
    let c = a.1 in
    record { fits = of_le _ _ a.0; is = cc; used = cc }

pub record Number (k : ℕ) (s : List ℕ) (x n : ℕ) : Type 0 where
  pub fits : k ≤ length s
  pub is : x ≡ be 0 (take k s)
  pub used : n ≡ k

pub int_inv : (k p : ℕ) (s : List ℕ) (x n : ℕ) → int k p s ≡ ok x n → Number k s x n
unfolding int
int_inv k p s x n e =
    let u = given (raw k) (be 0) p s x n e in
    let r = raw_inv k p s u.x n u.reads in
    record { fits = r.fits; is = sym u.is ∙ ap (be 0) r.is; used = r.used }

-- ---- a loop that reads items: what is read so far, one more, and a refusal

pub many_none : {A : Type 0} (r : Reader A) (p : ℕ) (s : List ℕ) → many 0 r p s ≡ ok [] 0
unfolding many give
many_none r p s = refl

pub record Cons {A : Type 0} (r : Reader A) (i p : ℕ) (s : List ℕ) (ys : List A) (k : ℕ) : Type 0 where
  pub x : A
  pub n : ℕ
  pub xs : List A
  pub m : ℕ
  pub first : r p s ≡ ok x n
  pub rest : many i r (p + n) (drop n s) ≡ ok xs m
  pub all : ys ≡ x ∷ xs
  pub sum : k ≡ n + m

pub many_uncons : {A : Type 0} (r : Reader A) (i p : ℕ) (s : List ℕ) (ys : List A) (k : ℕ) → many (suc i) r p s ≡ ok ys k → Cons r i p s ys k
unfolding many give
many_uncons r i p s ys k e =
    let a = split r _ p s ys k e in
    let b = split (many i r) _ (p + a.n) (drop a.n s) ys a.k a.second in
    let c = b.second in
    let z : 0 ≡ b.k = cc in
    record { x = a.x; n = a.n; xs = b.x; m = b.n; first = a.first; rest = b.first; all = cc; sum = (let s1 = a.sum in let s2 = b.sum in omega arith) }

-- ---- what an accepted read says of its parts

pub single_inv : {A : Type 0} (t : Bool) (r : Reader A) (p : ℕ) (s : List ℕ) (x : A) (n : ℕ) → single t r p s ≡ ok x n → r p s ≡ ok x n
unfolding single
single_inv t r p s x n e = by_result (r p s) (λ y m d. d ∙ (rw d at e)) (λ c d. not_ok (rw d at e))

-- n bytes that pass the test t, and what is made of them
abbrev pub piece : {X : Type 0} → (List ℕ → Bool) → (ℕ → List ℕ → X) → ℕ → Reader X
piece t make n = here (λ p. then (raw n) (λ b. pick (t b) (give (make p b)) (fail_at 7 (p + well_formed b))))

pub record Piece {X : Type 0} (t : List ℕ → Bool) (make : ℕ → List ℕ → X) (n p : ℕ) (s : List ℕ) (x : X) (m : ℕ) : Type 0 where
  pub b : List ℕ
  pub is_raw : Raw n s b m
  pub passes : t b ≡ true
  pub is : make p b ≡ x

pub piece_inv : {X : Type 0} (t : List ℕ → Bool) (make : ℕ → List ℕ → X) (n p : ℕ) (s : List ℕ) (x : X) (m : ℕ) → piece t make n p s ≡ ok x m → Piece t make n p s x m
unfolding here pick give fail_at
piece_inv t make n p s x m e =
    let a = split (raw n) _ p s x m e in
    let r = raw_inv n p s a.x a.n a.first in
    by_test (t a.x)
    (λ d.
    let g : ok (make p a.x) 0 ≡ ok x a.k = rw d at a.second in
    let z : 0 ≡ a.k = cc in
    record { b = a.x; is_raw = record { fits = r.fits; is = r.is; used = omega (arith, a.sum, r.used) }; passes = d; is = cc })
    (λ d. not_ok (rw d at a.second))

-- a primitive refuses at its own start, and asks for nothing
pub primitive_place : {A : Type 0} (r : Reader A) (p : ℕ) (s : List ℕ) (e : Refusal) → primitive r p s ≡ bad e → e ≡ because e.number p
unfolding single
primitive_place r p s e h =
    by_result (r p s) (λ x n d. not_ok (sym (rw d at h)))
    (λ c d. let g : bad (because c.number p) ≡ bad e = rw d at h in let x : because c.number p ≡ e = cc in sym x ∙ ap (λ (d : Refusal). because d.number p) x)

pub length_many : {A : Type 0} (r : Reader A) (n p : ℕ) (s : List ℕ) (xs : List A) (k : ℕ) → many n r p s ≡ ok xs k → length xs ≡ n
length_many r zero p s xs k e = let d = many_none r p s in let y : xs ≡ [] = cc in ap length y
length_many r (suc n) p s xs k e = let c = many_uncons r n p s xs k e in ap length c.all ∙ ap suc (length_many r n _ _ c.xs c.m c.rest)

pub record Pair {A B : Type 0} (r : Reader A) (q : Reader B) (p : ℕ) (s : List ℕ) (z : A × B) (m : ℕ) : Type 0 where
  pub n : ℕ
  pub k : ℕ
  pub first : r p s ≡ ok z.0 n
  pub second : q (p + n) (drop n s) ≡ ok z.1 k
  pub sum : m ≡ n + k

pub pair_inv : {A B : Type 0} (r : Reader A) (q : Reader B) (p : ℕ) (s : List ℕ) (z : A × B) (m : ℕ) → pair r q p s ≡ ok z m → Pair r q p s z m
unfolding give pair
pair_inv {A} {B} r q p s z m e =
    let a = split r _ p s z m e in
    let b = split q _ (p + a.n) (drop a.n s) z a.k a.second in
    let d = b.second in
    let w : (a.x, b.x) ≡ z = cc in
    let v : 0 ≡ b.k = cc in
    record {
      n = a.n;
      k = b.n;
      first = a.first ∙ ap (λ (u : A × B). ok u.0 a.n) w;
      second = b.first ∙ ap (λ (u : A × B). ok u.1 b.n) w;
      sum = omega (arith, a.sum, b.sum);
    }

-- a length that is accepted was read so, and is not null unless null is allowed
checked_both : (b : Bool) (e : ℕ) (len : Reader ℕ) (p : ℕ) (s : List ℕ) (x n : ℕ) → checked b e len p s ≡ ok x n → (len p s ≡ ok x n) × (b ≡ false → eqb x 0 ≡ false)
unfolding checked pick give fail
checked_both b e len p s x n h =
    let a = split len _ p s x n (single_inv _ _ p s x n h) in
    go b a.x a.k a.n a.sum a.first (eqb a.x 0) refl a.second
  where
    go : (b : Bool) (y k j : ℕ) → n ≡ j + k → len p s ≡ ok y j → (t : Bool) → eqb y 0 ≡ t → pick t (pick b (give 0) (fail e)) (give y) (p + j) (drop j s) ≡ ok x k → (len p s ≡ ok x n) × (b ≡ false → eqb x 0 ≡ false)
    go true y k j i f true d g = let z = of_eq y 0 d in let v : 0 ≡ k = cc in let o : j ≡ n = omega arith in (cc, λ u. absurd (true≢false u))
    go false y k j i f true d g = not_ok g
    go b y k j i f false d g = let w : y ≡ x = cc in let v : 0 ≡ k = cc in let o : j ≡ n = omega arith in (cc, λ u. rw w at d)

pub checked_inv : (b : Bool) (e : ℕ) (len : Reader ℕ) (p : ℕ) (s : List ℕ) (x n : ℕ) → checked b e len p s ≡ ok x n → len p s ≡ ok x n
checked_inv b e len p s x n h = (checked_both b e len p s x n h).0

pub checked_some : (e : ℕ) (len : Reader ℕ) (p : ℕ) (s : List ℕ) (x n : ℕ) → checked false e len p s ≡ ok x n → eqb x 0 ≡ false
checked_some e len p s x n h = (checked_both false e len p s x n h).1 refl
