-- What is read is what is written. Where varints are shortest, Booleans 0 or 1 and nothing is null that is read as empty, an accepted read's bytes are those of its value;
-- so a body that a reader takes only in that form is what its value is written as. For every shape.
use mathlib.Core.Bool.{Bool, cond, false, true}
use mathlib.Core.List.{List, [], ◌++◌, ◌∷◌, append_assoc, append-nil}
use mathlib.Core.Option.{none, some}
use mathlib.Core.Path.{◌∙◌, ◌≡◌, ap, refl, subst, sym}
use Prim.Native.Nat.{◌%◌, ◌*◌, ◌+◌, ◌-◌, ◌/◌, ◌<◌, ◌^◌, suc, zero, ℕ}
use native.Mathlib.Nat.{add-suc, add-zero, pow-suc, suc-add, zero-add}
use native.Mathlib.Numerals.{add-one}
use native.Mathlib.Omega.{arith}
use lib.Dec.{T, eqb, ltb}
use lib.ListN.{drop, length, take}
use lib.Seq.{length-take-le, take-add}
use Rattle.layout.specs.Reading.{Reader, Res, bad, because, fail, give, here, many, more, ok, pair, pick, placed, single, then}
use Rattle.layout.specs.Utf8.{utf8}
use Rattle.layout.specs.Primitives.{Null, Size, Width, admits, admits_null, be, bits, bytes, cell, checked, compact, empty, fixed, flag, flag_bytes, int, is_kept, keeps, kept, length_bytes, length_of, never, null_bytes, plain, size, sized, sized_bytes, unsigned, unsigned_bytes, w8}
use Rattle.layout.specs.Rows.{Basic, Shape, Value, absent, array, blob, boolean, end, field, lacking, level, natural, number, optional, text}
use Rattle.layout.specs.Read.{Codec, by_bytes, read, read_basic, read_blob, read_text}
use Rattle.layout.specs.Write.{each, write, write_basic}
use Rattle.layout.proofs.Cells.{extend, extend_bytes, powers}
use Rattle.layout.proofs.Every.{All}
use Rattle.layout.proofs.Local.{not_ok}
use Rattle.layout.proofs.Steps.{by_result, checked_inv, checked_some, given, int_inv, length_many, many_none, many_uncons, pair_inv, passed, piece, piece_inv, single_inv, split, then_ok}
use Rattle.layout.proofs.Kept.{Kept, kept_read}
use Rattle.layout.proofs.Tests.{by_test, of_eq}

abbrev pub Bytes : List ℕ → Type 0
Bytes s = All (λ b. b < 256) s

pub bytes_drop : (n : ℕ) (s : List ℕ) → Bytes s → Bytes (drop n s)
bytes_drop zero s h = h
bytes_drop (suc n) [] h = h
bytes_drop (suc n) (b ∷ s) h = bytes_drop n s h.1

-- the bytes that r used for x are those of x, and Q holds of x
pub record Took {A : Type 0} (w : A → List ℕ) (Q : A → Type 0) (s : List ℕ) (x : A) (n : ℕ) : Type 0 where
  pub same : w x ≡ take n s
  pub fact : Q x

pub record Canon {A : Type 0} (r : Reader A) (w : A → List ℕ) (Q : A → Type 0) : Type 0 where
  pub law : (p : ℕ) (s : List ℕ) (x : A) (n : ℕ) → Bytes s → r p s ≡ ok x n → Took w Q s x n

abbrev Any : {A : Type 0} → A → Type 0
Any x = Unit {0}

canon_single : {A : Type 0} (t : Bool) (r : Reader A) (w : A → List ℕ) (Q : A → Type 0) → Canon r w Q → Canon (single t r) w Q
canon_single t r w Q c = record { law = λ p s x n b h. c.law p s x n b (single_inv t r p s x n h) }

-- n bytes and then k, m in all
took_both : (n k m : ℕ) (s v u : List ℕ) → v ≡ take n s → u ≡ take k (drop n s) → m ≡ n + k → v ++ u ≡ take m s
took_both n k m s v u a b e = rw (e, a, b) (sym (take-add n k s))

canon_pair : {A B : Type 0} (r : Reader A) (q : Reader B) (v : A → List ℕ) (u : B → List ℕ) → Canon r v Any → Canon q u Any → Canon (pair r q) (λ z. v z.0 ++ u z.1) Any
canon_pair r q v u c d = record {
  law = λ p s z m b h.
      let a = pair_inv r q p s z m h in
      let i = (c.law p s z.0 a.n b a.first).same in
      let j = (d.law (p + a.n) (drop a.n s) z.1 a.k (bytes_drop a.n s b) a.second).same in
      record { same = took_both a.n a.k m s _ _ i j a.sum; fact = tt };
}

-- the bytes of a big-endian number
bytes_be : (k a : ℕ) (s : List ℕ) → Bytes s → bytes (k + length s) (be a s) ≡ bytes k a ++ s
unfolding bytes
bytes_be k a [] h = ap (λ (m : ℕ). bytes m a) (add-zero k) ∙ sym (append-nil (bytes k a))
bytes_be k a (b ∷ s) h =
    let i : b < 256 = h.0 in
    let d : (a * 256 + b) / 256 ≡ a = omega arith in
    let m : (a * 256 + b) % 256 ≡ b = omega arith in
    ap (λ (n : ℕ). bytes n (be (a * 256 + b) s)) (add-suc k (length s) ∙ sym (suc-add k (length s)))
    ∙ bytes_be (suc k) (a * 256 + b) s h.1
    ∙ (λ t. (bytes k (d t) ++ (m t ∷ [])) ++ s)
    ∙ append_assoc (bytes k a) (b ∷ []) s

pub bytes_take : (n : ℕ) (s : List ℕ) → Bytes s → Bytes (take n s)
bytes_take zero s h = tt
bytes_take (suc n) [] h = tt
bytes_take (suc n) (b ∷ s) h = (h.0, bytes_take n s h.1)

-- k bytes are below 256 ^ k
be_small : (a : ℕ) (s : List ℕ) (k : ℕ) → Bytes s → a < 256 ^ k → be a s < 256 ^ (k + length s)
be_small a [] k b h = subst (λ (n : ℕ). a < 256 ^ n) (sym (add-zero k)) h
be_small a (c ∷ s) k b h =
    let l = b.0 in
    let i : a * 256 + c < 256 ^ suc k = omega (arith, pow-suc 256 k) in
    subst (λ (n : ℕ). be (a * 256 + c) s < 256 ^ n) (suc-add k (length s) ∙ sym (add-suc k (length s))) (be_small (a * 256 + c) s (suc k) b.1 i)

pub canon_int : (k : ℕ) → Canon (int k) (bytes k) (λ n. n < 256 ^ k)
unfolding bytes
canon_int k = record {
  law = λ p s x n b h.
      let a = int_inv k p s x n h in
      let l : length (take k s) ≡ k = length-take-le k s a.fits in
      let f : bytes k (be 0 (take k s)) ≡ take k s = rw (zero-add, l) at (bytes_be 0 0 (take k s) (bytes_take k s b)) in
      let g : be 0 (take k s) < 256 ^ k = rw (zero-add, l) at (be_small 0 (take k s) 0 (bytes_take k s b) (omega arith)) in
      record { same = ap (bytes k) a.is ∙ f ∙ ap (λ (m : ℕ). take m s) (sym a.used); fact = rw a.is g };
}

canon_cell : (w : Width) → Canon (cell w) (bytes (size w)) Any
unfolding cell
canon_cell w = record {
  law = λ p s c n b h.
      let u = given (int (size w)) (extend w) p s c n h in
      let i = (canon_int (size w)).law p s u.x n b u.reads in
      record { same = ap (bytes (size w)) (sym u.is) ∙ extend_bytes w u.x (let q = powers w in omega (arith, q.power, i.fact)) ∙ i.same; fact = tt };
}

canon_many : {A : Type 0} (r : Reader A) (w : A → List ℕ) → Canon r w Any → (n : ℕ) → Canon (many n r) (each w) (λ xs. length xs ≡ n)
unfolding each
canon_many r w c n = record { law = λ p s xs m b h. record { same = go n p s xs m b h; fact = length_many r n p s xs m h } }
  where
    go : (n p : ℕ) (s : List ℕ) (xs : List _) (m : ℕ) → Bytes s → many n r p s ≡ ok xs m → each w xs ≡ take m s
    go zero p s xs m b h = let d = many_none r p s in let y : xs ≡ [] = cc in let z : m ≡ 0 = cc in rw (y, z)
    go (suc n) p s xs m b h =
        let a = many_uncons r n p s xs m h in
        let i = (c.law p s a.x a.n b a.first).same in
        let j = go n (p + a.n) (drop a.n s) a.xs a.m (bytes_drop a.n s b) a.rest in
        ap (each w) a.all ∙ took_both a.n a.m m s _ _ i j a.sum

-- ---- lengths and counts

-- what a length reader gives, written again
len_bytes : Size → ℕ → List ℕ
len_bytes z zero = null_bytes z
len_bytes z (suc n) = length_bytes z n

len_one : (z : Size) (n : ℕ) → len_bytes z (n + 1) ≡ length_bytes z n
unfolding len_bytes
len_one z n = ap (len_bytes z) (add-one n)

-- v reads only what is written so
module _ (v : Reader ℕ) (c : Canon v unsigned_bytes Any) where
  length_same : (z : Size) (p : ℕ) (s : List ℕ) (x n : ℕ) → Bytes s → length_of v z p s ≡ ok x n → len_bytes z x ≡ take n s
  unfolding length_of length_bytes null_bytes len_bytes pick give fail
  length_same (fixed w m) p s x n b h =
      let a = split (int (size w)) _ p s x n h in
      let i = ((canon_int (size w)).law p s a.x a.n b a.first).same in
      by_test (ltb a.x (2 ^ (bits w - 1)))
      (λ d. let g : ok (a.x + 1) 0 ≡ ok x a.k = rw d at a.second in let y : a.x + 1 ≡ x = cc in let z : 0 ≡ a.k = cc in let q : a.n ≡ n = omega (arith, a.sum) in
      ap (len_bytes (fixed w m)) (sym y) ∙ len_one (fixed w m) a.x ∙ i ∙ ap (λ (k : ℕ). take k s) q)
      (λ d. by_test (eqb a.x (2 ^ bits w - 1))
      (λ t. let g : ok 0 0 ≡ ok x a.k = rw (d, t) at a.second in let y : 0 ≡ x = cc in let z : 0 ≡ a.k = cc in let q : a.n ≡ n = omega (arith, a.sum) in
      ap (len_bytes (fixed w m)) (sym y) ∙ ap (bytes (size w)) (sym (of_eq _ _ t)) ∙ i ∙ ap (λ (k : ℕ). take k s) q)
      (λ t. not_ok (rw (d, t) at a.second)))
  length_same (compact m) p s zero n b h = (c.law p s zero n b h).same
  length_same (compact m) p s (suc x) n b h = ap unsigned_bytes (add-one x) ∙ (c.law p s (suc x) n b h).same
  length_same plain p s x n b h = let u = given v (λ n. n + 1) p s x n h in ap (len_bytes plain) (sym u.is) ∙ len_one plain u.x ∙ (c.law p s u.x n b u.reads).same

len_some : (z : Size) (m l : ℕ) → eqb m 0 ≡ false → l ≡ m - 1 → length_bytes z l ≡ len_bytes z m
unfolding len_bytes
len_some z zero l e h = let z : ◌≡◌ {A = ℕ} 0 1 = cc in absurd (omega arith)
len_some z (suc m) l e h = ap (length_bytes z) (omega arith)

-- null is no value, and so it is not allowed
canon_sized : {A : Type 0} (b a : Bool) (e : ℕ) (f : Size) (len : Reader ℕ) (r : ℕ → Reader (List A)) (w : List A → List ℕ) → (b ≡ false → a ≡ false) →
    ((p : ℕ) (s : List ℕ) (x n : ℕ) → Bytes s → len p s ≡ ok x n → len_bytes f x ≡ take n s) → ((n : ℕ) → Canon (r n) w (λ xs. length xs ≡ n)) → Canon (sized b a e len r) (sized_bytes b f w) Any
unfolding sized sized_bytes len_bytes pick give
canon_sized true a e f len r w no_null c d = record {
  law = λ p s o m b h.
      let i = split (checked true e len) _ p s o m h in
      let j = c p s i.x i.n b (checked_inv true e len p s i.x i.n i.first) in
      by_test (eqb i.x 0)
      (λ t. let g : ok none 0 ≡ ok o i.k = rw t at i.second in let y : none ≡ o = cc in let z : 0 ≡ i.k = cc in let q : i.n ≡ m = omega (arith, i.sum) in
      record { same = ap (sized_bytes true f w) (sym y) ∙ ap (len_bytes f) (sym (of_eq i.x 0 t)) ∙ j ∙ ap (λ (k : ℕ). take k s) q; fact = tt })
      (λ t.
      let u = given (r (i.x - 1)) some (p + i.n) (drop i.n s) o i.k (rw t at i.second) in
      let k = (d (i.x - 1)).law (p + i.n) (drop i.n s) u.x i.k (bytes_drop i.n s b) u.reads in
      record { same = ap (sized_bytes true f w) (sym u.is) ∙ took_both i.n i.k m s (length_bytes f (length u.x)) (w u.x) (len_some f i.x (length u.x) t k.fact ∙ j) k.same i.sum; fact = tt });
}
canon_sized false a e f len r w no_null c d = rw (no_null refl) (record {
  law = λ p s xs m b h.
      let i = split (checked false e len) _ p s xs m h in
      let j = c p s i.x i.n b (checked_inv false e len p s i.x i.n i.first) in
      let k = (d (i.x - 1)).law (p + i.n) (drop i.n s) xs i.k (bytes_drop i.n s b) i.second in
      record { same = took_both i.n i.k m s _ _ (len_some f i.x (length xs) (checked_some e len p s i.x i.n i.first) k.fact ∙ j) k.same i.sum; fact = tt };
})

null_empty : (m : Null) → is_kept m ≡ false → admits_null true m ≡ false
null_empty never e = refl
null_empty kept e = let z : ◌≡◌ {A = ℕ} 0 1 = cc in absurd (omega arith)
null_empty empty e = refl

none_empty : (z : Size) → keeps z ≡ false → admits true z ≡ false
none_empty (fixed w m) e = null_empty m e
none_empty (compact m) e = null_empty m e
none_empty plain e = refl

-- ---- for every shape

module _ (v : Reader ℕ) (fl : Reader Bool) (cv : Canon v unsigned_bytes Any) (cf : Canon fl flag_bytes Any) where
  abbrev pub strictly : Codec
  strictly = record { Text = List ℕ; make = λ p b. b; varint = v; flag = fl; whole = true }

  canon_part : (t : List ℕ → Bool) (n : ℕ) → Canon (piece t (λ p b. b) n) (λ b. b) (λ b. length b ≡ n)
  canon_part t n = record {
    law = λ p s x m b h.
        let d = piece_inv t (λ p b. b) n p s x m h in
        let e : x ≡ take n s = sym d.is ∙ d.is_raw.is in
        record { same = e ∙ ap (λ (k : ℕ). take k s) (sym d.is_raw.used); fact = ap length e ∙ length-take-le n s d.is_raw.fits };
  }

  canon_basic : (k : Basic) → Canon (read_basic strictly k) (write_basic k) Any
  unfolding read_basic read_blob read_text write_basic pick
  canon_basic (number w) = canon_cell w
  canon_basic boolean = cf
  canon_basic level = canon_cell w8
  canon_basic natural = cv
  canon_basic (text z) = canon_single _ _ _ _ (canon_sized (keeps z) _ _ z _ _ (λ y. y) (none_empty z) (length_same v cv z) (canon_part utf8))
  canon_basic (blob z) = canon_single _ _ _ _ (canon_sized (keeps z) _ _ z _ _ (λ y. y) (none_empty z) (length_same v cv z) (canon_part (λ b. true)))
  canon_basic (optional d k) = canon_basic k

  pub canon_read : (l : Shape) → Canon (read strictly l) (write l) Any
  unfolding read write
  canon_read end = record { law = λ p s x n b h. let z : 0 ≡ n = (unfold give in cc) in record { same = ap (λ (k : ℕ). take k s) z; fact = tt } }
  canon_read (field k r) = canon_pair _ _ (write_basic k) (write r) (canon_basic k) (canon_read r)
  canon_read (absent k r) = canon_read r
  canon_read (array z t i r) = canon_pair _ _ _ (write r) (canon_sized (keeps z) _ _ z _ _ (each (write i)) (none_empty z) (length_same v cv z) (canon_many _ (write i) (canon_read i))) (canon_read r)
  canon_read (lacking z t i r) = canon_read r

-- ---- readers that take less

pub record Refines {A : Type 0} (r q : Reader A) : Type 0 where
  pub law : (p : ℕ) (s : List ℕ) (x : A) (n : ℕ) → r p s ≡ ok x n → q p s ≡ ok x n

refines_same : {A : Type 0} (r : Reader A) → Refines r r
refines_same r = record { law = λ p s x n h. h }

refines_then : {A B : Type 0} (r q : Reader A) (f g : A → Reader B) → Refines r q → ((x : A) → Refines (f x) (g x)) → Refines (then r f) (then q g)
refines_then r q f g h k = record {
  law = λ p s y m e.
      let a = split r f p s y m e in
      then_ok q g p s a.x a.n (h.law p s a.x a.n a.first)
      ∙ ap (more a.n) ((k a.x).law (p + a.n) (drop a.n s) y a.k a.second) ∙ ap (λ (z : ℕ). ok y z) (sym a.sum);
}

refining : Kept (λ A r q. Refines r q)
unfolding here single pick
refining = record {
  on_give = λ x. refines_same _;
  on_fail = λ e h g. refines_same _;
  on_raw = λ n. refines_same _;
  on_pick = λ b r r' q q' h k. elim b as (λ b. Refines (pick b r q) (pick b r' q')) [ true ↦ h | false ↦ k ];
  on_here = λ r r' h. record { law = λ p s x n e. (h p).law p s x n e };
  on_single = λ t r r' h. record { law = λ p s x n e. ap (placed t p) (h.law p s x n (single_inv t r p s x n e)) };
  on_part = λ t make n. refines_same _;
  on_then = λ r r' f f' h k. refines_then r r' f f' h k;
}

-- ---- a reader that takes only what would be written so; the number with which it refuses the rest has no part here

abbrev pub same_list : List ℕ → List ℕ → Bool
same_list [] [] = true
same_list [] (y ∷ ys) = false
same_list (x ∷ xs) [] = false
same_list (x ∷ xs) (y ∷ ys) = cond (eqb x y) (same_list xs ys) false

same_list_lem : (xs ys : List ℕ) → T (same_list xs ys) → xs ≡ ys
same_list_lem [] [] t = refl
same_list_lem [] (y ∷ ys) t = absurd t
same_list_lem (x ∷ xs) [] t = absurd t
same_list_lem (x ∷ xs) (y ∷ ys) t = by_test (eqb x y) (λ e i. of_eq x y e i ∷ same_list_lem xs ys (rw e at t) i) (λ e. absurd (rw e at t))

abbrev pub exactly : {A : Type 0} → ℕ → (A → List ℕ) → ℕ → List ℕ → Res A → Res A
exactly e₀ w p s (ok x n) = cond (same_list (w x) (take n s)) (ok x n) (bad (because e₀ p))
exactly e₀ w p s (bad e) = bad e

unfoldable pub exact : {A : Type 0} → ℕ → (A → List ℕ) → Reader A → Reader A
exact e₀ w r p s = exactly e₀ w p s (r p s)

exact_inv : {A : Type 0} (e₀ : ℕ) (w : A → List ℕ) (r : Reader A) (p : ℕ) (s : List ℕ) (x : A) (n : ℕ) → exact e₀ w r p s ≡ ok x n → (r p s ≡ ok x n) × (w x ≡ take n s)
unfolding exact
exact_inv e₀ w r p s x n h =
    by_result (r p s)
    (λ y m d.
    let a = passed (same_list (w y) (take m s)) (ok y m) _ x n (rw d at h) in
    let c = a.1 in
    let i : y ≡ x = cc in
    let j : m ≡ n = cc in
    (d ∙ c, rw (i, j) at (same_list_lem (w y) (take m s) (rw a.0 tt))))
    (λ e d. not_ok (rw d at h))

pub canon_exact : {A : Type 0} (e₀ : ℕ) (w : A → List ℕ) (r : Reader A) → Canon (exact e₀ w r) w (λ x. Unit {0})
canon_exact e₀ w r = record { law = λ p s x n b h. record { same = (exact_inv e₀ w r p s x n h).1; fact = tt } }

pub refines_exact : {A : Type 0} (e₀ : ℕ) (w : A → List ℕ) (r : Reader A) → Refines (exact e₀ w r) r
refines_exact e₀ w r = record { law = λ p s x n h. (exact_inv e₀ w r p s x n h).0 }

-- a text as its bytes; varints and Booleans only as they are written
abbrev pub strict : ℕ → Codec
strict e = record { Text = List ℕ; make = λ p b. b; varint = exact e unsigned_bytes unsigned; flag = exact e flag_bytes flag; whole = true }

-- the theorem: what the strict reader accepts the whole read accepts alike, and its bytes are what the writer writes of its value
pub canonical : (e : ℕ) (l : Shape) (s : List ℕ) (x : Value (List ℕ) l) (n : ℕ) → Bytes s → read (strict e) l 0 s ≡ ok x n → (read (by_bytes true) l 0 s ≡ ok x n) × (write l x ≡ take n s)
canonical e l s x n h d = (
  (kept_read refining (λ p b. b) true _ unsigned _ flag (refines_exact e unsigned_bytes unsigned) (refines_exact e flag_bytes flag) l).law 0 s x n d,
  ((canon_read _ _ (canon_exact e unsigned_bytes unsigned) (canon_exact e flag_bytes flag) l).law 0 s x n h d).same,
)
