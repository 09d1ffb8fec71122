-- What is written reads back.
use mathlib.Core.Bool.{Bool, cond, false, true}
use mathlib.Core.List.{List, [], ◌++◌, ◌∷◌, append_assoc, append-nil}
use mathlib.Core.Option.{none, some}
use mathlib.Core.Path.{◌∙◌, ◌≡◌, ap, refl, subst, sym}
use Prim.Native.Nat.{◌%◌, ◌*◌, ◌+◌, ◌-◌, ◌/◌, ◌<◌, ◌^◌, ◌≤◌, suc, zero, ℕ}
use native.Mathlib.Nat.{div-add-mod', pow-suc, suc-ne-zero}
use native.Mathlib.Omega.{arith}
use lib.Dec.{eqb, leb, lit<, ltb}
use lib.ListN.{length, length-append}
use lib.Seq.{drop-append_seam, take-append_seam}
use borrow.Author.Tests.{eq-eqb}
use mathlib.Core.Logic.{◌≢◌}
use lib.IntN.{negsuc, pos, ℤ}
use Rattle.layout.specs.Reading.{Reader, give, here, many, ok, pair, pick, placed, raw, single, then}
use Rattle.layout.specs.Utf8.{utf8}
use Rattle.layout.specs.Primitives.{Maybe, Size, Width, be, bits, bytes, cell, checked, compact, fixed, flag, flag_bytes, groups, holds, int, integer, integer_bytes, keeps, length_bytes, length_of, limit, null_bytes, plain, shortest, signed, size, sized, sized_bytes, unsigned, unsigned_bytes, unzigzag, varint, varlong, w16, w32, w64, w8, zigzag, zigzag_bytes}
use Rattle.layout.specs.Rows.{Basic, BasicValue, Shape, Value, absent, array, blob, boolean, end, field, lacking, level, natural, number, optional, text}
use Rattle.layout.specs.Read.{by_bytes, read, read_basic, read_blob, read_text}
use Rattle.layout.specs.Answers.{most}
use Rattle.layout.specs.Write.{basic_fault, each, fault, first_of, or, sized_fault, too_long, unless, write, write_basic}
use Rattle.layout.proofs.Tests.{by_test, lt-false, lt-true, of_eq, of_le, of_lt, of-ne, one_more}
use Rattle.layout.proofs.Cells.{extend, extend_bytes, pattern, powers}
use Rattle.layout.proofs.Local.{Local, local_fail, local_give, local_pick, local_single, local_then, local_unsigned, raw_ok}
use Rattle.layout.proofs.Parts.{Eating, Eats, size_some}
use Rattle.layout.proofs.Steps.{piece}

-- r reads w as x, whatever follows
pub record Back {A : Type 0} (r : Reader A) (w : List ℕ) (x : A) : Type 0 where
  pub law : (p : ℕ) (t : List ℕ) → r p (w ++ t) ≡ ok x (length w)

pub back_give : {A : Type 0} (x : A) → Back (give x) [] x
unfolding give
back_give x = record { law = λ p t. refl }

pub back_then : {A B : Type 0} (r : Reader A) (f : A → Reader B) (v w : List ℕ) (x : A) (y : B) → Back r v x → Back (f x) w y → Back (then r f) (v ++ w) y
unfolding then
back_then {A} {B} r f v w x y a b = record {
  law = λ p t.
      rw append_assoc (rw (a.law p (w ++ t)) (rw (drop-append_seam v (w ++ t)) (rw (b.law (p + length v) t) (rw length-append refl))));
}

-- the same, where the second reader only gives
pub back_map : {A B : Type 0} (r : Reader A) (f : A → B) (w : List ℕ) (x : A) → Back r w x → Back (then r (λ z. give (f z))) w (f x)
back_map {A} {B} r f w x a = subst (λ (u : List ℕ). Back (then r (λ z. give (f z))) u (f x)) (append-nil w) (back_then r _ w [] x (f x) a (back_give (f x)))

pub back_here : {A : Type 0} (r : ℕ → Reader A) (w : List ℕ) (x : A) → ((p : ℕ) → Back (r p) w x) → Back (here r) w x
unfolding here
back_here r w x h = record { law = λ p t. (h p).law p t }

pub back_single : {A : Type 0} (t : Bool) (r : Reader A) (w : List ℕ) (x : A) → Back r w x → Back (single t r) w x
unfolding single
back_single t r w x a = record { law = λ p u. ap (placed t p) (a.law p u) }

pub back_raw : (w : List ℕ) → Back (raw (length w)) w w
back_raw w = record {
  law = λ p t.
      let h : length w ≤ length (w ++ t) = rw length-append (omega arith) in
      raw_ok (length w) p (w ++ t) h ∙ ap (λ (u : List ℕ). ok u (length w)) (take-append_seam w t);
}

pub back_true : {A : Type 0} (b : Bool) (r q : Reader A) (w : List ℕ) (x : A) → b ≡ true → Back r w x → Back (pick b r q) w x
unfolding pick
back_true b r q w x e h = rw e h

pub back_false : {A : Type 0} (b : Bool) (r q : Reader A) (w : List ℕ) (x : A) → b ≡ false → Back q w x → Back (pick b r q) w x
unfolding pick
back_false b r q w x e h = rw e h

pub length_bytes_lem : (k n : ℕ) → length (bytes k n) ≡ k
unfolding bytes
length_bytes_lem zero n = refl
length_bytes_lem (suc k) n = rw length-append (omega (arith, length_bytes_lem k (n / 256)))

pub be_snoc : (a : ℕ) (s : List ℕ) (b : ℕ) → be a (s ++ (b ∷ [])) ≡ be a s * 256 + b
be_snoc a [] b = refl
be_snoc a (c ∷ s) b = be_snoc (a * 256 + c) s b

pub be_bytes : (k n : ℕ) → n < 256 ^ k → be 0 (bytes k n) ≡ n
unfolding bytes
be_bytes zero n h = omega arith
be_bytes (suc k) n h =
    let i : n / 256 < 256 ^ k = omega (arith, pow-suc 256 k) in
    rw (be_snoc 0 (bytes k (n / 256)) (n % 256), be_bytes k (n / 256) i) (div-add-mod' n 256)

pub back_int : (k n : ℕ) → n < 256 ^ k → Back (int k) (bytes k n) n
unfolding int
back_int k n h =
    let e : length (bytes k n) ≡ k = length_bytes_lem k n in
    let b : Back (raw k) (bytes k n) (bytes k n) = rw e at (back_raw (bytes k n)) in
    rw (be_bytes k n h) at (back_map (raw k) (be 0) (bytes k n) (bytes k n) b)

pub back_is : {A : Type 0} (r : Reader A) (w : List ℕ) (x y : A) → x ≡ y → Back r w x → Back r w y
back_is r w x y e h = subst (λ z. Back r w z) e h

pub back_last : {A B : Type 0} (r : Reader A) (f : A → Reader B) (w : List ℕ) (x : A) (y : B) → Back r w x → Back (f x) [] y → Back (then r f) w y
back_last {A} {B} r f w x y a b = subst (λ (u : List ℕ). Back (then r f) u y) (append-nil w) (back_then r f w [] x y a b)

-- so 12 has no case: a seven-bit group with its continuation bit fits a byte
pub group_fits : (n : ℕ) → 128 + n % 128 < 256
group_fits n = omega arith

digits : (a n m : ℕ) → (a + (128 + n % 128) % 128 * m) + n / 128 * (m * 128) ≡ a + n * m
digits a n m =
    let e : (128 + n % 128) % 128 ≡ n % 128 = omega arith in
    rw e (omega (arith, ap (λ (x : ℕ). x * m) (div-add-mod' n 128)))

back_shortest : (k m a n : ℕ) → n < 2 * 128 ^ k → Back (groups k m a) (shortest k n) (a + n * m)
unfolding groups shortest
back_shortest zero m a n h =
    let e : n % 2 ≡ n = omega arith in
    let f : a + n % 2 * m ≡ a + n * m = rw e in
    back_is _ _ _ _ f (back_last (int 1) _ (bytes 1 n) n _ (back_int 1 n (omega arith))
    (back_true _ _ _ _ _ (lt-true n 128 (omega arith)) (back_give (a + n % 2 * m))))
back_shortest (suc k) m a n h =
    by_test (ltb n 128)
    (λ e. let i = of_lt n 128 e in rw e (back_last (int 1) _ (bytes 1 n) n (a + n * m) (back_int 1 n (omega arith)) (back_true _ _ _ _ _ e (back_give (a + n * m)))))
    (λ e.
    let c = 128 + n % 128 in
    rw e
    (back_is _ _ _ _ (digits a n m) (back_then (int 1) _ (bytes 1 c) (shortest k (n / 128)) c _ (back_int 1 c (omega arith))
    (back_false _ _ _ _ _ (lt-false c 128 (omega arith)) (back_shortest k (m * 128) _ (n / 128) (omega (arith, pow-suc 128 k))))))
    )

pub back_unsigned : (n : ℕ) → n < 2 ^ 64 → Back unsigned (unsigned_bytes n) n
unfolding unsigned unsigned_bytes
back_unsigned n h =
    let e : 0 + n * 1 ≡ n = omega arith in
    back_single _ _ _ _ (rw e at (back_shortest 9 1 0 n h))

pub back_pair : {A B : Type 0} (r : Reader A) (q : Reader B) (v w : List ℕ) (z : A × B) → Back r v z.0 → Back q w z.1 → Back (pair r q) (v ++ w) z
unfolding pair
back_pair r q v w z a b = back_then r _ v w z.0 z a (back_map q _ w z.1 b)

back_less : {A : Type 0} (r : ℕ → Reader A) (n : ℕ) (w : List ℕ) (x : A) → Back (r n) w x → Back (r (n + 1 - 1)) w x
back_less r n w x h = let e : n ≡ n + 1 - 1 = omega arith in subst (λ (m : ℕ). Back (r m) w x) e h

back_length : (z : Size) (n : ℕ) → n < limit z → Back (length_of unsigned z) (length_bytes z n) (n + 1)
unfolding length_bytes
back_length (fixed w m) n h =
    unfold length_of in
    (back_last _ _ _ n _ (back_int (size w) n (let p = powers w in omega (arith, p.half, p.power))) (back_true _ _ _ _ _ (lt-true _ _ h) (back_give (n + 1))))
back_length (compact m) n h = unfold length_of in back_unsigned (n + 1) (omega arith)
back_length plain n h = unfold length_of in back_map unsigned (λ n. n + 1) _ n (back_unsigned n h)

-- null
back_null : (z : Size) → keeps z ≡ true → Back (length_of unsigned z) (null_bytes z) 0
unfolding length_of null_bytes
back_null (fixed w m) k =
    let p = powers w in
    back_last _ _ _ (2 ^ bits w - 1) _ (back_int (size w) _ (omega (arith, p.least, p.half, p.power)))
    (back_false _ _ _ _ _ (lt-false (2 ^ bits w - 1) (2 ^ (bits w - 1)) (omega (arith, p.least, p.half))) (back_true _ _ _ _ _ (eq-eqb (2 ^ bits w - 1) _ refl) (back_give 0)))
back_null (compact m) k = back_unsigned 0 (lit< tt)
back_null plain k = let z : ◌≡◌ {A = ℕ} 0 1 = cc in absurd (omega arith)

pub back_cell : (w : Width) (c : ℕ) → holds w c ≡ true → Back (cell w) (bytes (size w) c) c
unfolding cell
back_cell w c h =
    let p = pattern w c h in
    subst (λ (u : List ℕ). Back (then (int (size w)) (λ n. give (extend w n))) u c) (sym p.same)
    (back_is _ _ _ _ p.is (back_map (int (size w)) (extend w) _ p.n (back_int (size w) p.n p.small)))

-- every number of the width, written and read
pub back_integer : (w : Width) (n : ℕ) → n < 2 ^ bits w → Back (integer w) (integer_bytes w (signed w n)) (signed w n)
unfolding integer integer_bytes
back_integer w n h = subst (λ (u : List ℕ). Back (then (int (size w)) (λ n. give (signed w n))) u (signed w n)) (sym (extend_bytes w n h)) (back_map (int (size w)) (signed w) _ n (back_int (size w) n (let p = powers w in omega (arith, p.power))))

-- ---- faults: none in two is none in each

pub or_none : (a b : ℕ) → or a b ≡ 0 → (a ≡ 0) × (b ≡ 0)
unfolding or
or_none zero b h = (refl, h)
or_none (suc a) b h = absurd (suc-ne-zero a h)

pub unless_none : (b : Bool) (e : ℕ) → unless b (suc e) ≡ 0 → b ≡ true
unfolding unless
unless_none true e h = refl
unless_none false e h = absurd (suc-ne-zero e h)

-- a body within the limit has its parts within it
append_most : (x y : List ℕ) → length (x ++ y) ≤ most → (length x ≤ most) × (length y ≤ most)
append_most x y h = let e = length-append x y in (omega arith, omega arith)

pub small_none : (a b e : ℕ) → unless (ltb a b) (suc e) ≡ 0 → a < b
small_none a b e h = of_lt a b (unless_none _ e h)

pub back_many : {A : Type 0} (r : Reader A) (w : A → List ℕ) (g : A → ℕ) → ((x : A) → g x ≡ 0 → length (w x) ≤ most → Back r (w x) x) → (xs : List A) → first_of g xs ≡ 0 → length (each w xs) ≤ most → Back (many (length xs) r) (each w xs) xs
unfolding many each first_of
back_many r w g h [] a m = back_give []
back_many r w g h (x ∷ xs) a m =
    let o = or_none (g x) (first_of g xs) a in
    let s = append_most (w x) (each w xs) m in
    back_then r _ (w x) (each w xs) x _ (h x o.0 s.0) (back_map _ _ (each w xs) xs (back_many r w g h xs o.1 s.1))

back_some : (a : Bool) (e : ℕ) (z : Size) (n : ℕ) → n < limit z → Back (checked a e (length_of unsigned z)) (length_bytes z n) (n + 1)
unfolding checked
back_some a e z n h = back_single _ _ _ _ (back_last _ _ _ (n + 1) _ (back_length z n h) (back_false _ _ _ _ _ (one_more n) (back_give (n + 1))))

-- 11 is given where a length of two bytes cannot carry it; every other length carries what a body can hold
carried : (z : Size) (n : ℕ) → too_long z n ≡ 0 → n ≤ most → n < limit z
unfolding too_long
carried (fixed w8 m) n h g = small_none _ _ 10 h
carried (fixed w16 m) n h g = small_none _ _ 10 h
carried (fixed w32 m) n h g = omega arith
carried (fixed w64 m) n h g = omega arith
carried (compact m) n h g = omega arith
carried plain n h g = omega arith

-- r of length n reads what w writes of a list of length n without fault, at least a byte for each: so does the list with its length in front
back_sized : {A : Type 0} (b a : Bool) (e : ℕ) (z : Size) (r : ℕ → Reader (List A)) (w : List A → List ℕ) (g : List A → ℕ) → keeps z ≡ b → ((xs : List A) → length xs ≤ length (w xs)) →
    ((xs : List A) → g xs ≡ 0 → length (w xs) ≤ most → Back (r (length xs)) (w xs) xs) →
    (x : Maybe b (List A)) → sized_fault b z g x ≡ 0 → length (sized_bytes b z w x) ≤ most → Back (sized b a e (length_of unsigned z) r) (sized_bytes b z w x) x
unfolding sized sized_bytes sized_fault
back_sized true a e z r w g k few h none o m =
    back_last _ _ _ zero _ (unfold checked in (back_single _ _ _ _ (back_last _ _ _ zero _ (back_null z k) (back_true _ _ _ _ _ refl (back_true _ _ _ _ _ refl (back_give zero))))))
    (back_true _ _ _ _ _ refl (back_give none))
back_sized true a e z r w g k few h (some xs) o m =
    let f = or_none _ _ o in
    let s = (append_most (length_bytes z (length xs)) (w xs) m).1 in
    back_then _ _ _ _ (length xs + 1) _ (back_some true e z (length xs) (carried z (length xs) f.0 (let l = few xs in omega arith)))
    (back_false _ _ _ _ _ (one_more (length xs)) (back_map _ _ _ _ (back_less r _ _ _ (h xs f.1 s))))
back_sized false a e z r w g k few h xs o m =
    let f = or_none _ _ o in
    let s = (append_most (length_bytes z (length xs)) (w xs) m).1 in
    back_then _ _ _ _ (length xs + 1) _ (back_some a e z (length xs) (carried z (length xs) f.0 (let l = few xs in omega arith))) (back_less r _ _ _ (h xs f.1 s))

-- ---- everything written has a byte at least

shortest_long : (k n : ℕ) → 1 ≤ length (shortest k n)
unfolding shortest
shortest_long zero n = omega (arith, length_bytes_lem 1 n)
shortest_long (suc k) n =
    by_test (ltb n 128) (λ e. rw e (omega (arith, length_bytes_lem 1 n)))
    (λ e. rw e (omega (arith, length-append (bytes 1 (128 + n % 128)) (shortest k (n / 128)), length_bytes_lem 1 (128 + n % 128))))

width_long : (w : Width) (n : ℕ) → 1 ≤ length (bytes (size w) n)
width_long w n = omega (arith, length_bytes_lem (size w) n, size_some w)

length_long : (z : Size) (n : ℕ) → 1 ≤ length (length_bytes z n)
unfolding length_bytes unsigned_bytes
length_long (fixed w m) n = width_long w n
length_long (compact m) n = shortest_long 9 (n + 1)
length_long plain n = shortest_long 9 n

sized_long : {A : Type 0} (z : Size) (w : List A → List ℕ) (x : Maybe (keeps z) (List A)) → 1 ≤ length (sized_bytes (keeps z) z w x)
unfolding sized_bytes null_bytes unsigned_bytes
sized_long {A} z w x = go z (keeps z) refl x
  where
    front : (z : Size) (xs : List A) → 1 ≤ length (length_bytes z (length xs) ++ w xs)
    front z xs = let a = length_long z (length xs) in omega (arith, length-append (length_bytes z (length xs)) (w xs))

    go : (z : Size) (b : Bool) → keeps z ≡ b → (x : Maybe b (List A)) → 1 ≤ length (sized_bytes b z w x)
    go (fixed v m) true e none = width_long v (2 ^ bits v - 1)
    go (compact m) true e none = shortest_long 9 0
    go plain true e none = let z : ◌≡◌ {A = ℕ} 0 1 = cc in absurd (omega arith)
    go z true e (some xs) = front z xs
    go z false e xs = front z xs

basic_long : (k : Basic) (x : BasicValue (List ℕ) k) → 1 ≤ length (write_basic k x)
unfolding write_basic flag_bytes unsigned_bytes
basic_long (number w) x = width_long w x
basic_long boolean x = width_long w8 (cond x 1 0)
basic_long level x = width_long w8 x
basic_long natural x = shortest_long 9 x
basic_long (text z) x = sized_long z (λ y. y) x
basic_long (blob z) x = sized_long z (λ y. y) x
basic_long (optional d k) x = basic_long k x

write_long : (l : Shape) → Eats l → (x : Value (List ℕ) l) → 1 ≤ length (write l x)
unfolding write
write_long end h x = absurd h
write_long (field k r) h x = let a = basic_long k x.0 in omega (arith, length-append (write_basic k x.0) (write r x.1))
write_long (absent k r) h x = write_long r h x
write_long (array z t i r) h x = let a = sized_long z (λ xs. each (write i) xs) x.0 in omega (arith, length-append (sized_bytes (keeps z) z (λ xs. each (write i) xs) x.0) (write r x.1))
write_long (lacking z t i r) h x = write_long r h x

each_long : {A : Type 0} (w : A → List ℕ) → ((x : A) → 1 ≤ length (w x)) → (xs : List A) → length xs ≤ length (each w xs)
unfolding each
each_long w h [] = omega arith
each_long w h (x ∷ xs) = let a = h x in let b = each_long w h xs in omega (arith, length-append (w x) (each w xs))

module _ (q : Bool) where
  back_part : (t : List ℕ → Bool) (b : List ℕ) → unless (t b) 7 ≡ 0 → Back (piece t (λ p b. b) (length b)) b b
  back_part t b h = back_here _ _ _ (λ p. back_last _ _ b b b (back_raw b) (back_true _ _ _ _ _ (unless_none _ 6 h) (back_give b)))

  back_basic : (k : Basic) (x : BasicValue (List ℕ) k) → basic_fault k x ≡ 0 → length (write_basic k x) ≤ most → Back (read_basic (by_bytes q) k) (write_basic k x) x
  unfolding read_basic read_blob read_text write_basic basic_fault flag flag_bytes pick
  back_basic (number w) x h m = back_cell w x (unless_none _ 10 h)
  back_basic boolean true h m = back_map (int 1) (λ n. ltb 0 n) (bytes 1 1) 1 (back_int 1 1 (lit< tt))
  back_basic boolean false h m = back_map (int 1) (λ n. ltb 0 n) (bytes 1 0) 0 (back_int 1 0 (lit< tt))
  back_basic level x h m = back_cell w8 x (unfold holds in rw (lt-true x 128 (omega (arith, of_le x 1 (unless_none (leb x 1) 10 h)))))
  back_basic natural x h m = back_unsigned x (small_none _ _ 10 h)
  back_basic (text z) x h m = back_single _ _ _ _ (back_sized (keeps z) _ _ z _ (λ y. y) _ refl (λ y. omega arith) (λ y u v. back_part utf8 y u) x h m)
  back_basic (blob z) x h m = back_single _ _ _ _ (back_sized (keeps z) _ _ z _ (λ y. y) (λ y. 0) refl (λ y. omega arith) (λ y u v. back_part (λ b. true) y (unfold unless in refl)) x h m)
  back_basic (optional d k) x h m = back_basic k x h m

  -- the theorem, for every shape: what is written without fault and within the limit reads back, in a whole read too
  pub back_read : (l : Shape) (x : Value (List ℕ) l) → Eating l → fault l x ≡ 0 → length (write l x) ≤ most → Back (read (by_bytes q) l) (write l x) x
  unfolding read write fault
  back_read end x a h m = back_give tt
  back_read (field k r) x a h m =
      let o = or_none _ _ h in
      let s = append_most (write_basic k x.0) (write r x.1) m in
      back_pair _ _ _ _ _ (back_basic k x.0 o.0 s.0) (back_read r x.1 a o.1 s.1)
  back_read (absent k r) x a h m = back_read r x a h m
  back_read (array z t i r) x a h m =
      let o = or_none _ _ h in
      let s = append_most (sized_bytes (keeps z) z (λ xs. each (write i) xs) x.0) (write r x.1) m in
      back_pair _ _ _ _ _
      (back_sized (keeps z) _ _ z _ (λ xs. each (write i) xs) _ refl (each_long (write i) (write_long i a.0)) (back_many (read (by_bytes q) i) (write i) (fault i) (λ y. back_read i y a.1)) x.0 o.0 s.0)
      (back_read r x.1 a.2 o.1 s.1)
  back_read (lacking z t i r) x a h m = back_read r x a h m

-- ---- Varint and Varlong: zigzag goes there and back, and they keep the laws of the unsigned varint under them

pub there_and_back : (z : ℤ) → unzigzag (zigzag z) ≡ z
unfolding unzigzag zigzag
there_and_back (pos n) =
    let a : 2 * n % 2 ≡ 0 = omega arith in
    let b : 2 * n / 2 ≡ n = omega arith in
    rw (a, b)
there_and_back (negsuc n) =
    let a : (2 * n + 1) % 2 ≡ 1 = omega arith in
    let b : (2 * n + 1) / 2 ≡ n = omega arith in
    rw (a, b)

pub back_and_there : (n : ℕ) → zigzag (unzigzag n) ≡ n
unfolding unzigzag zigzag
back_and_there n = by_test (eqb (n % 2) 0) (λ e. let h : n % 2 ≡ 0 = of_eq _ _ e in rw e (omega arith)) (λ e. let h : n % 2 ≢ 0 = of-ne _ _ e in rw e (omega arith))

pub back_varlong : (z : ℤ) → zigzag z < 2 ^ 64 → Back varlong (zigzag_bytes z) z
unfolding varlong zigzag_bytes
back_varlong z h = back_is _ _ _ _ (there_and_back z) (back_map unsigned unzigzag (unsigned_bytes (zigzag z)) (zigzag z) (back_unsigned (zigzag z) h))

pub back_varint : (z : ℤ) → zigzag z < 2 ^ 32 → Back varint (zigzag_bytes z) z
unfolding varint zigzag_bytes
back_varint z h =
    back_single _ _ _ _ (back_last _ _ _ (zigzag z) _ (back_unsigned (zigzag z) (omega arith)) (back_true _ _ _ _ _ (lt-true (zigzag z) (2 ^ 32) h) (back_is _ _ _ _ (there_and_back z) (back_give (unzigzag (zigzag z))))))

pub local_varlong : Local varlong
unfolding varlong
local_varlong = local_then _ _ local_unsigned (λ n. local_give _)

pub local_varint : Local varint
unfolding varint
local_varint = local_single _ _ (local_then _ _ local_unsigned (λ n. local_pick _ _ _ (local_give _) (local_fail _)))
