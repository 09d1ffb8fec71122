-- A text that is shown is the part of the message that its place and length name, and lies inside it; no list is too long for its count cell. For every shape.
use mathlib.Core.Bool.{Bool, false, true}
use mathlib.Core.List.{List}
use mathlib.Core.Path.{◌∙◌, ◌≡◌, ap, refl, sym}
use Prim.Native.Nat.{◌%◌, ◌*◌, ◌+◌, ◌-◌, ◌<◌, ◌^◌, ◌≤◌, suc, zero, ℕ}
use native.Mathlib.Nat.{one-le-pow, pow-suc}
use native.Mathlib.Omega.{arith}
use lib.Dec.{ltb}
use lib.ListN.{length, length-drop}
use lib.Seq.{length-take-le}
use Rattle.layout.specs.Reading.{Reader, fail, give, many, ok, pair, pick, single, then}
use Rattle.layout.specs.Utf8.{utf8}
use Rattle.layout.specs.Primitives.{Size, Width, cell, checked, compact, fixed, flag, groups, int, keeps, length_of, minus, plain, size, sized, unsigned, w16, w32, w64, w8}
use Rattle.layout.specs.Rows.{Basic, Shape, Value, absent, array, blob, boolean, end, field, lacking, level, natural, number, optional, text}
use Rattle.layout.specs.Read.{by_bytes, by_place, read, read_basic, read_blob, read_text}
use Rattle.layout.specs.Tables.{Span, slice}
use Rattle.layout.proofs.Tests.{by_test, of_lt}
use Rattle.layout.proofs.Link.{by_bytes_lem, map_value, over}
use Rattle.layout.proofs.Every.{All, Every, EveryBasic, Few}
use Rattle.layout.proofs.Gives.{Gives, Ground, gives_give, gives_local, gives_many, gives_pair, gives_part, gives_single, gives_sized}
use Rattle.layout.proofs.Kept.{kept_cell, kept_length}
use Rattle.layout.proofs.Local.{local_flag, local_unsigned, locals, not_ok}
use Rattle.layout.proofs.Steps.{int_inv, many_uncons, single_inv, split}

-- ---- varints are below 2^64, and take a byte at least

record Group (k m a x n : ℕ) : Type 0 where
  v : ℕ
  is : x ≡ a + v * m
  small : v < 2 * 128 ^ k
  some_byte : 1 ≤ n

group_more : (k m a b v x j n : ℕ) → x ≡ a + b % 128 * m + v * (m * 128) → v < 2 * 128 ^ k → 1 ≤ j → n ≡ j → Group (suc k) m a x n
group_more k m a b v x j n e h i o = record { v = b % 128 + v * 128; is = omega arith; small = omega (arith, pow-suc 128 k); some_byte = omega arith }

groups_inv : (k m a p : ℕ) (s : List ℕ) (x n : ℕ) → groups k m a p s ≡ ok x n → Group k m a x n
unfolding groups pick give fail
groups_inv zero m a p s x n h =
    let d = split (int 1) _ p s x n h in
    let u = (int_inv 1 p s d.x d.n d.first).used in
    by_test (ltb d.x 128)
    (λ e. let g : ok (a + d.x % 2 * m) 0 ≡ ok x d.k = rw e at d.second in let z : a + d.x % 2 * m ≡ x = cc in record { v = d.x % 2; is = sym z; small = omega arith; some_byte = omega (arith, d.sum) })
    (λ e. not_ok (rw e at d.second))
groups_inv (suc k) m a p s x n h =
    let d = split (int 1) _ p s x n h in
    let u = (int_inv 1 p s d.x d.n d.first).used in
    by_test (ltb d.x 128)
    (λ e.
    let g : ok (a + d.x * m) 0 ≡ ok x d.k = rw e at d.second in
    let z : a + d.x * m ≡ x = cc in
    record { v = d.x; is = sym z; small = omega (arith, of_lt d.x 128 e, one-le-pow k 128 (omega arith), pow-suc 128 k); some_byte = omega (arith, d.sum) })
    (λ e. let r = groups_inv k _ _ _ _ x _ (rw e at d.second) in group_more k m a d.x r.v x n n r.is r.small (omega (arith, d.sum)) refl)

pub unsigned_small : (p : ℕ) (s : List ℕ) (x n : ℕ) → unsigned p s ≡ ok x n → (x ≤ minus) × (1 ≤ n)
unfolding unsigned
unsigned_small p s x n h =
    let g = groups_inv 9 1 0 p s x n (single_inv _ _ p s x n h) in
    let v = g.small in
    (omega (arith, g.is), g.some_byte)

-- ---- items that take a byte are no more than the message's bytes

pub record Hungry {A : Type 0} (r : Reader A) : Type 0 where
  pub law : (p : ℕ) (s : List ℕ) (x : A) (n : ℕ) → r p s ≡ ok x n → 1 ≤ n

hungry_then : {A B : Type 0} (r : Reader A) (f : A → Reader B) → Hungry r → Hungry (then r f)
hungry_then r f h = record { law = λ p s y m e. let d = split r f p s y m e in let k = h.law p s d.x d.n d.first in omega (arith, d.sum) }

hungry_single : {A : Type 0} (t : Bool) (r : Reader A) → Hungry r → Hungry (single t r)
hungry_single t r h = record { law = λ p s x n e. h.law p s x n (single_inv t r p s x n e) }

hungry_int : (k : ℕ) → 1 ≤ k → Hungry (int k)
hungry_int k h = record { law = λ p s x n e. let u = (int_inv k p s x n e).used in omega arith }

hungry_unsigned : Hungry unsigned
hungry_unsigned = record { law = λ p s x n e. (unsigned_small p s x n e).1 }

pub size_some : (w : Width) → 1 ≤ size w
size_some w8 = omega arith
size_some w16 = omega arith
size_some w32 = omega arith
size_some w64 = omega arith

hungry_length : (z : Size) → Hungry (length_of unsigned z)
unfolding length_of
hungry_length (fixed w m) = hungry_then _ _ (hungry_int (size w) (size_some w))
hungry_length (compact m) = hungry_unsigned
hungry_length plain = hungry_then _ _ hungry_unsigned

pub hungry_checked : (a : Bool) (e : ℕ) (z : Size) → Hungry (checked a e (length_of unsigned z))
unfolding checked
hungry_checked a e z = hungry_single _ _ (hungry_then _ _ (hungry_length z))

hungry_sized : {A : Type 0} (b a : Bool) (e : ℕ) (z : Size) (r : ℕ → Reader A) → Hungry (sized b a e (length_of unsigned z) r)
unfolding sized
hungry_sized true a e z r = hungry_then _ _ (hungry_checked true e z)
hungry_sized false a e z r = hungry_then _ _ (hungry_checked a e z)

-- a field or an array stands in l
abbrev pub Eats : Shape → Type 0
Eats end = ⊥
Eats (field k r) = Unit {0}
Eats (absent k r) = Eats r
Eats (array z t i r) = Unit {0}
Eats (lacking z t i r) = Eats r

module _ (q : Bool) where
  pub hungry_basic : (k : Basic) → Hungry (read_basic (by_place q) k)
  unfolding read_basic flag cell
  hungry_basic (number w) = hungry_then _ _ (hungry_int (size w) (size_some w))
  hungry_basic boolean = hungry_then _ _ (hungry_int 1 (omega arith))
  hungry_basic level = hungry_then _ _ (hungry_int 1 (omega arith))
  hungry_basic natural = hungry_unsigned
  hungry_basic (text z) = hungry_single _ _ (hungry_sized (keeps z) _ _ z _)
  hungry_basic (blob z) = hungry_single _ _ (hungry_sized (keeps z) _ _ z _)
  hungry_basic (optional d k) = hungry_basic k

  hungry_read : (l : Shape) → Eats l → Hungry (read (by_place q) l)
  unfolding read pair
  hungry_read end h = absurd h
  hungry_read (field k r) h = hungry_then _ _ (hungry_basic k)
  hungry_read (absent k r) h = hungry_read r h
  hungry_read (array z t i r) h = hungry_then _ _ (hungry_sized (keeps z) _ _ z _)
  hungry_read (lacking z t i r) h = hungry_read r h

hungry_many : {A : Type 0} (r : Reader A) → Hungry r → (n p : ℕ) (s : List ℕ) (xs : List A) (m : ℕ) → many n r p s ≡ ok xs m → n ≤ m
hungry_many r h zero p s xs m e = omega arith
hungry_many r h (suc n) p s xs m e =
    let c = many_uncons r n p s xs m e in
    let a = h.law p s c.x c.n c.first in
    let b = hungry_many r h n _ _ c.xs c.m c.rest in
    omega (arith, c.sum)

-- the items of every array take a byte
abbrev pub Eating : Shape → Type 0
Eating end = Unit {0}
Eating (field k r) = Eating r
Eating (absent k r) = Eating r
Eating (array z t i r) = Eats i × Eating i × Eating r
Eating (lacking z t i r) = Eating r

-- ---- readers that stand in a message

module _ (msg : List ℕ) where
  -- the place and the rest make up the message
  abbrev standing : Ground
  standing = record { At = λ p s. p + length s ≡ length msg; onward = λ p n s a l. omega (arith, a, l, length-drop n s) }

  -- a text inside the message
  abbrev pub Part : Span → Type 0
  Part t = t.0 + t.1 ≤ length msg

  module _ (B : ℕ) (small : length msg < B) (q : Bool) where
    gives_count : (z : Size) → Gives standing (length_of unsigned z) (λ n. Unit {0})
    gives_count z = gives_local _ _ (kept_length locals unsigned unsigned local_unsigned z) (λ p s x n a e. tt)

    gives_basic : (k : Basic) → Gives standing (read_basic (by_place q) k) (EveryBasic B Part k)
    unfolding read_basic read_blob read_text pick
    gives_basic (number w) = gives_local _ _ (kept_cell locals w) (λ p s x n a e. tt)
    gives_basic boolean = gives_local _ _ local_flag (λ p s x n a e. tt)
    gives_basic level = gives_local _ _ (kept_cell locals w8) (λ p s x n a e. tt)
    gives_basic natural = gives_local _ _ local_unsigned (λ p s x n a e. tt)
    gives_basic (text z) = gives_single _ _ _ (gives_sized (keeps z) _ _ _ _ _ Part (gives_count z) (λ n h. gives_part utf8 _ (n - 1) Part (λ p s b m a r t. omega (arith, a, r.fits, ap length r.is, length-take-le (n - 1) s r.fits))))
    gives_basic (blob z) = gives_single _ _ _ (gives_sized (keeps z) _ _ _ _ _ Part (gives_count z) (λ n h. gives_part (λ b. true) _ (n - 1) Part (λ p s b m a r t. omega (arith, a, r.fits, ap length r.is, length-take-le (n - 1) s r.fits))))
    gives_basic (optional d k) = gives_basic k

    pub gives_read : (l : Shape) → Eating l → Gives standing (read (by_place q) l) (Every B Part l)
    unfolding read
    gives_read end h = gives_give tt _ tt
    gives_read (field k r) h = gives_pair _ _ (EveryBasic B Part k) (Every B Part r) (gives_basic k) (gives_read r h)
    gives_read (absent k r) h = gives_read r h
    gives_read (array z t i r) h =
        gives_pair _ _ _ (Every B Part r) (gives_sized (keeps z) _ _ _ _ _ (Few B (Every B Part i)) (gives_count z) (λ n u. few (n - 1) (gives_many _ _ (gives_read i h.1) (n - 1)))) (gives_read r h.2)
      where
        -- as many items as bytes, at most
        few : (n : ℕ) → Gives standing (many n (read (by_place q) i)) (λ xs. (length xs ≡ n) × All (Every B Part i) xs) → Gives standing (many n (read (by_place q) i)) (Few B (Every B Part i))
        few n g = record {
          law = λ p s xs m a e.
              let k = g.law p s xs m a e in
              (k.0, (omega (arith, k.0, k.1.0, a, hungry_many _ (hungry_read q i h.0) n p s xs m e), k.1.1));
        }
    gives_read (lacking z t i r) h = gives_read r h

-- ---- the theorem

pub record Shown (K : ℕ) (q : Bool) (l : Shape) (msg : List ℕ) (x : Value Span l) (n : ℕ) : Type 0 where
  -- each text is the part of the message that is shown
  pub bytes_are : read (by_bytes q) l 0 msg ≡ ok (map_value (slice msg) l x) n
  -- and lies inside it; and every list is shorter than any bound on the message
  pub inside_it : Every K (λ t. t.0 + t.1 ≤ length msg) l x

pub shown : (K : ℕ) (q : Bool) (l : Shape) (msg : List ℕ) (x : Value Span l) (n : ℕ) → length msg < K → Eating l → read (by_place q) l 0 msg ≡ ok x n → Shown K q l msg x n
shown K q l msg x n small eats e = record {
  bytes_are = (by_bytes_lem msg q l).law 0 msg refl ∙ ap (over (map_value (slice msg) l)) e;
  inside_it = ((gives_read msg K small q l eats).law 0 msg x n (omega arith) e).1;
}
