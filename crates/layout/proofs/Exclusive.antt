-- A body of an ApiVersions response is accepted whole at no two versions, but for 1 and 2, whose layouts are the same.
use mathlib.Core.Bool.{false, true}
use mathlib.Core.List.{List, [], ◌∷◌}
use mathlib.Core.Path.{◌∙◌, ◌≡◌, ap, refl, subst, sym}
use Prim.Native.Nat.{◌*◌, ◌+◌, ◌-◌, ◌<◌, ◌^◌, ◌≤◌, suc, zero, ℕ}
use native.Mathlib.Nat.{suc-mul}
use native.Mathlib.Omega.{arith}
use lib.Dec.{eqb, ltb}
use lib.ListN.{drop, length, take}
use Rattle.layout.specs.Reading.{Reader, fail, give, many, ok, pair, pick, single, then}
use Rattle.layout.specs.Primitives.{Width, be, cell, cell_of, checked, compact, empty, fixed, groups, int, length_of, plain, signed, size, sized, unsigned, w16, w32}
use Rattle.layout.specs.Rows.{Basic, Shape, Value, absent, array, at, blob, end, field, lacking, natural, number, optional, standing, stands, tag_rows}
use Rattle.layout.specs.Read.{by_bytes, read, read_basic}
use Rattle.layout.specs.Answers.{most, shape}
use Rattle.layout.proofs.Tests.{by_test, of-ne}
use Rattle.layout.proofs.Local.{not_ok}
use Rattle.layout.proofs.Steps.{Number, checked_inv, checked_some, given, int_inv, int_ok, many_none, many_uncons, pair_inv, split}
use Rattle.layout.specs.Messages.ApiVersions as Api
use mathlib.Core.Logic.{◌≢◌}

-- ---- the layouts of the four versions

abbrev pub key : Shape → Shape
key r = field (number w16) (field (number w16) (field (number w16) r))

-- a tag and its data
abbrev pub tag : Shape
tag = field natural (field (blob plain) end)

-- the same, of a version without tags
abbrev pub no_tag : Shape
no_tag = absent natural (absent (blob plain) end)

abbrev pub old_key : Shape
old_key = key (lacking plain 2 no_tag end)

abbrev pub new_key : Shape
new_key = key (array plain 2 tag end)

abbrev pub throttle : Basic
throttle = optional (0 ∷ []) (number w32)

abbrev pub shape0 : Shape
shape0 = field (number w16) (array (fixed w32 empty) 1 old_key (absent throttle (lacking plain 2 no_tag end)))

abbrev pub shape1 : Shape
shape1 = field (number w16) (array (fixed w32 empty) 1 old_key (field throttle (lacking plain 2 no_tag end)))

abbrev pub shape3 : Shape
shape3 = field (number w16) (array (compact empty) 1 new_key (field throttle (array plain 2 tag end)))

-- ---- a count of four bytes that is not null

count_inv : (p : ℕ) (s : List ℕ) (x a : ℕ) → length_of unsigned (fixed w32 empty) p s ≡ ok x a → x ≢ 0 → Number 4 s (x - 1) a
unfolding length_of pick give fail
count_inv p s x a h some =
    let b = split (int 4) _ p s x a h in
    let c = int_inv 4 p s b.x b.n b.first in
    by_test (ltb b.x 2147483648)
    (λ d. let g : ok (b.x + 1) 0 ≡ ok x b.k = rw d at b.second in let w : b.x + 1 ≡ x = cc in let v : 0 ≡ b.k = cc in record { fits = c.fits; is = omega (arith, c.is); used = omega (arith, b.sum, c.used) })
    (λ d. by_test (eqb b.x 4294967295) (λ e. let g : ok 0 0 ≡ ok x b.k = rw (d, e) at b.second in let w : x ≡ 0 = cc in absurd (some w)) (λ e. not_ok (rw (d, e) at b.second)))

-- ---- readers that always use as many bytes

record Always {A : Type 0} (r : Reader A) (k : ℕ) : Type 0 where
  law : (p : ℕ) (s : List ℕ) (x : A) (n : ℕ) → r p s ≡ ok x n → n ≡ k

always_give : {A : Type 0} (x : A) → Always (give x) 0
unfolding give
always_give x = record { law = λ p s y n e. cc }

always_pair : {A B : Type 0} (r : Reader A) (q : Reader B) (a b : ℕ) → Always r a → Always q b → Always (pair r q) (a + b)
always_pair r q a b h g = record {
  law = λ p s z m e.
      let d = pair_inv r q p s z m e in
      omega (arith, d.sum, h.law p s z.0 d.n d.first, g.law _ _ z.1 d.k d.second);
}

always_many : {A : Type 0} (r : Reader A) (k : ℕ) → Always r k → (n p : ℕ) (s : List ℕ) (xs : List A) (m : ℕ) → many n r p s ≡ ok xs m → m ≡ n * k
always_many r k h zero p s xs m e = let d = many_none r p s in let z : m ≡ 0 = cc in omega arith
always_many r k h (suc n) p s xs m e =
    let c = many_uncons r n p s xs m e in
    rw suc-mul (omega (arith, c.sum, h.law p s c.x c.n c.first, always_many r k h n _ _ c.xs c.m c.rest))

always_cell : (w : Width) → Always (cell w) (size w)
unfolding cell
always_cell w = record { law = λ p s x n e. let u = given (int (size w)) (λ n. cell_of (signed w n)) p s x n e in (int_inv (size w) p s u.x n u.reads).used }

-- ---- a reader of known length in front: the place of the rest is a numeral

record Front {A B : Type 0} (k : ℕ) (q : Reader B) (p : ℕ) (s : List ℕ) (z : A × B) (m : ℕ) : Type 0 where
  n : ℕ
  later : q (p + k) (drop k s) ≡ ok z.1 n
  total : m ≡ k + n

front_inv : {A B : Type 0} (k : ℕ) (r : Reader A) (q : Reader B) (p : ℕ) (s : List ℕ) (z : A × B) (m : ℕ) → Always r k → pair r q p s ≡ ok z m → Front k q p s z m
front_inv k r q p s z m h e =
    let a = pair_inv r q p s z m e in
    let u = h.law p s z.0 a.n a.first in
    record { n = a.k; later = subst (λ (j : ℕ). q (p + j) (drop j s) ≡ ok z.1 a.k) u a.second; total = omega (arith, a.sum) }

-- ---- how many bytes versions 0, 1 and 2 use: six for each item

abbrev key_reader : Reader (Value (List ℕ) old_key)
key_reader = read (by_bytes true) old_key

always_key : Always key_reader 6
unfolding read read_basic
always_key = always_pair _ _ 2 4 (always_cell w16) (always_pair _ _ 2 2 (always_cell w16) (always_pair _ _ 2 0 (always_cell w16) (always_give tt)))

abbrev keys : Reader (List (Value (List ℕ) old_key))
keys = sized false false 8 (length_of unsigned (fixed w32 empty)) (λ n. many n key_reader)

counted : (p : ℕ) (s : List ℕ) (xs : List (Value (List ℕ) old_key)) (m : ℕ) → keys p s ≡ ok xs m → (4 ≤ length s) × (m ≡ 4 + be 0 (take 4 s) * 6)
unfolding sized
counted p s xs m e =
    let d = split (checked false 8 _) _ p s xs m e in
    let j = count_inv p s d.x d.n (checked_inv false 8 _ p s d.x d.n d.first) (of-ne _ _ (checked_some 8 _ p s d.x d.n d.first)) in
    let k = always_many _ 6 always_key (d.x - 1) _ _ xs d.k d.second in
    (j.fits, omega (arith, d.sum, j.is, j.used))

-- what stands behind the items uses j bytes
old : {A : Type 0} (q : Reader A) (j : ℕ) (s : List ℕ) (z : ℕ × (List (Value (List ℕ) old_key) × A)) (m : ℕ) → Always q j → pair (cell w16) (pair keys q) 0 s ≡ ok z m →
    (4 ≤ length (drop 2 s)) × (m ≡ 6 + be 0 (take 4 (drop 2 s)) * 6 + j)
old q j s z m a h =
    let f = front_inv 2 (cell w16) _ 0 s z m (always_cell w16) h in
    let b = pair_inv keys q 2 (drop 2 s) z.1 f.n f.later in
    let d = counted 2 (drop 2 s) z.1.0 b.n b.first in
    let u = a.law _ _ z.1.1 b.k b.second in
    (d.0, omega (arith, f.total, b.sum, d.1, u))

uses_0 : (s : List ℕ) (x : Value (List ℕ) shape0) (m : ℕ) → read (by_bytes true) shape0 0 s ≡ ok x m → (4 ≤ length (drop 2 s)) × (m ≡ 6 + be 0 (take 4 (drop 2 s)) * 6 + 0)
unfolding read read_basic
uses_0 s x m h = old _ 0 s x m (always_give tt) h

uses_1 : (s : List ℕ) (x : Value (List ℕ) shape1) (m : ℕ) → read (by_bytes true) shape1 0 s ≡ ok x m → (4 ≤ length (drop 2 s)) × (m ≡ 6 + be 0 (take 4 (drop 2 s)) * 6 + 4)
unfolding read read_basic
uses_1 s x m h = old _ 4 s x m (always_pair _ _ 4 0 (always_cell w32) (always_give tt)) h

-- ---- a small count in four bytes begins with the byte 0, which is null at version 3

zero_is : (p : ℕ) (t : List ℕ) → unsigned p (0 ∷ t) ≡ ok 0 1
unfolding unsigned single groups then pick give
zero_is p t = let h : 1 ≤ length (0 ∷ t) = omega arith in rw (int_ok 1 p (0 ∷ t) h)

small : (s : List ℕ) → 4 ≤ length s → be 0 (take 4 s) < 2 ^ 24 → (t : List ℕ) × (s ≡ 0 ∷ t)
small [] h g = absurd (omega arith)
small (a ∷ []) h g = absurd (omega arith)
small (a ∷ b ∷ []) h g = absurd (omega arith)
small (a ∷ b ∷ c ∷ []) h g = absurd (omega arith)
small (a ∷ b ∷ c ∷ d ∷ s) h g = let z : a ≡ 0 = omega arith in (b ∷ c ∷ d ∷ s, ap (λ (x : ℕ). x ∷ (b ∷ c ∷ d ∷ s)) z)

not_3 : (s : List ℕ) (x : Value (List ℕ) shape3) (m : ℕ) (t : List ℕ) → drop 2 s ≡ 0 ∷ t → read (by_bytes true) shape3 0 s ≡ ok x m → ⊥
unfolding read read_basic length_of sized
not_3 s x m t d h =
    let f = front_inv 2 (cell w16) _ 0 s x m (always_cell w16) h in
    let b = pair_inv _ _ 2 (drop 2 s) x.1 _ f.later in
    let i = split (checked false 8 unsigned) _ 2 (drop 2 s) x.1.0 _ b.first in
    let g : ok 0 1 ≡ ok i.x i.n = sym (zero_is 2 t) ∙ ap (unsigned 2) (sym d) ∙ checked_inv false 8 unsigned 2 (drop 2 s) i.x i.n i.first in
    let w : i.x ≡ 0 = cc in
    of-ne _ _ (checked_some 8 unsigned 2 (drop 2 s) i.x i.n i.first) w

-- ---- the theorem

-- s is accepted whole at the layout l: every byte is used
pub record Accepted (l : Shape) (s : List ℕ) : Type 0 where
  pub x : Value (List ℕ) l
  pub whole_read_lem : read (by_bytes true) l 0 s ≡ ok x (length s)

-- the layouts: of version 0, of 1 and 2, of 3
pub data Era : Type 0 where
  bare throttled flexible : Era

abbrev pub era_of : ℕ → Era
era_of zero = bare
era_of (suc zero) = throttled
era_of (suc (suc zero)) = throttled
era_of (suc (suc (suc v))) = flexible

abbrev pub layout_of : Era → Shape
layout_of bare = shape0
layout_of throttled = shape1
layout_of flexible = shape3

pub layout_is : (v : ℕ) → v ≤ 3 → shape Api.response v ≡ layout_of (era_of v)
unfolding shape at stands standing tag_rows Api.response_rows Api.key_rows
layout_is zero h = refl
layout_is (suc zero) h = refl
layout_is (suc (suc zero)) h = refl
layout_is (suc (suc (suc zero))) h = refl
layout_is (suc (suc (suc (suc v)))) h = absurd (omega arith)

module _ (s : List ℕ) (short : length s ≤ most) where
  not_0_1 : Accepted shape0 s → Accepted shape1 s → ⊥
  not_0_1 a b = omega (arith, (uses_0 s a.x (length s) a.whole_read_lem).1, (uses_1 s b.x (length s) b.whole_read_lem).1)

  -- a count that so few bytes can carry begins with 0
  not_with_3 : (j : ℕ) → (4 ≤ length (drop 2 s)) × (length s ≡ 6 + be 0 (take 4 (drop 2 s)) * 6 + j) → Accepted shape3 s → ⊥
  not_with_3 j c b = let d = small (drop 2 s) c.0 (omega (arith, c.1)) in not_3 s b.x (length s) d.0 d.1 b.whole_read_lem

  not_0_3 : Accepted shape0 s → Accepted shape3 s → ⊥
  not_0_3 a = not_with_3 0 (uses_0 s a.x (length s) a.whole_read_lem)

  not_1_3 : Accepted shape1 s → Accepted shape3 s → ⊥
  not_1_3 a = not_with_3 4 (uses_1 s a.x (length s) a.whole_read_lem)

  pub exclusive : (f g : Era) → Accepted (layout_of f) s → Accepted (layout_of g) s → f ≡ g
  exclusive bare bare a b = refl
  exclusive bare throttled a b = absurd (not_0_1 a b)
  exclusive bare flexible a b = absurd (not_0_3 a b)
  exclusive throttled bare a b = absurd (not_0_1 b a)
  exclusive throttled throttled a b = refl
  exclusive throttled flexible a b = absurd (not_1_3 a b)
  exclusive flexible bare a b = absurd (not_0_3 b a)
  exclusive flexible throttled a b = absurd (not_1_3 b a)
  exclusive flexible flexible a b = refl
