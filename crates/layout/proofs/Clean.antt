-- What was read has no fault: it can be written again. For every shape without an isolation level.
use mathlib.Core.Bool.{Bool, false, true}
use mathlib.Core.List.{List, [], ◌∷◌}
use mathlib.Core.Option.{none, some}
use mathlib.Core.Path.{◌∙◌, ◌≡◌, ap, refl}
use Prim.Native.Nat.{◌+◌, ◌-◌, ◌<◌, ◌^◌, ◌≤◌, suc, ℕ}
use native.Mathlib.Omega.{arith}
use lib.Dec.{leb}
use lib.ListN.{length}
use lib.Seq.{length-take-le}
use Rattle.layout.specs.Reading.{Reader, pick}
use Rattle.layout.specs.Utf8.{utf8}
use Rattle.layout.specs.Primitives.{Maybe, Null, Size, Width, bits, cell, compact, fixed, holds, keeps, length_of, limit, minus, never, plain, size, sized, unsigned, w16, w32}
use Rattle.layout.specs.Rows.{Basic, BasicValue, Shape, Value, absent, array, blob, boolean, end, field, lacking, level, natural, number, optional, text}
use Rattle.layout.specs.Read.{by_bytes, read, read_basic, read_blob, read_text}
use Rattle.layout.specs.Write.{basic_fault, fault, first_of, or, sized_fault, too_long, unless}
use Rattle.layout.proofs.Tests.{by_test, lt-false, lt-true, of_lt}
use Rattle.layout.proofs.Cells.{extend, extend_holds, powers}
use Rattle.layout.proofs.Strict.{Bytes, bytes_drop, canon_int}
use Rattle.layout.proofs.Every.{All, EveryMaybe}
use Rattle.layout.proofs.Gives.{Gives, Ground, gives_fail, gives_give, gives_local, gives_many, gives_pair, gives_part, gives_pick, gives_single, gives_sized, gives_then, gives_weak}
use Rattle.layout.proofs.Kept.{kept_int}
use Rattle.layout.proofs.Local.{local_flag, local_unsigned, locals}
use Rattle.layout.proofs.Parts.{unsigned_small}
use Rattle.layout.proofs.Steps.{piece}

-- readers of bytes
abbrev of_bytes : Ground
of_bytes = record { At = λ p s. Bytes s; onward = λ p n s b l. bytes_drop n s b }

or_both : (a b : ℕ) → a ≡ 0 → b ≡ 0 → or a b ≡ 0
unfolding or
or_both a b h g = rw (h, g)

first_none : {A : Type 0} (g : A → ℕ) (xs : List A) → All (λ x. g x ≡ 0) xs → first_of g xs ≡ 0
unfolding first_of
first_none g [] h = refl
first_none g (x ∷ xs) h = or_both _ _ h.0 (first_none g xs h.1)

unless_true : (b : Bool) (e : ℕ) → b ≡ true → unless b e ≡ 0
unfolding unless
unless_true b e h = rw h

yields_cell : (w : Width) → Gives of_bytes (cell w) (λ c. unless (holds w c) 11 ≡ 0)
unfolding cell
yields_cell w =
    gives_then _ _ (λ n. n < 256 ^ size w) _ (gives_local _ _ (kept_int locals (size w)) (λ p s x n b e. ((canon_int (size w)).law p s x n b e).fact))
    (λ n h. gives_give (extend w n) _ (unless_true _ 11 (extend_holds w n (let p = powers w in omega (arith, p.power)))))

-- ---- which fault is told

-- the first in field order, whatever stands after it; of an array, that of its first item that has one
pub first_field : (k : Basic) (r : Shape) (x : BasicValue (List ℕ) k) (y : Value (List ℕ) r) (e : ℕ) → basic_fault k x ≡ suc e → fault (field k r) (x, y) ≡ suc e
unfolding fault or
first_field k r x y e h = rw h

pub first_item : {A : Type 0} (g : A → ℕ) (x : A) (xs : List A) (e : ℕ) → g x ≡ suc e → first_of g (x ∷ xs) ≡ suc e
unfolding first_of or
first_item g x xs e h = rw h

-- ---- lengths

-- a STRING has 32,767 bytes at most; what is longer is 11, whatever its bytes are
pub string_too_long : (y : List ℕ) → 32767 < length y → basic_fault (text (fixed w16 never)) y ≡ 11
unfolding basic_fault sized_fault too_long or unless
string_too_long y h = rw (lt-false (length y) 32768 h)

-- data of any length have no 11, and so no list of items has one of its own
pub data_never_too_long : (m : Null) (n : ℕ) → too_long (fixed w32 m) n ≡ 0
unfolding too_long
data_never_too_long m n = refl

-- a length that can be carried is never too long
not_long : (z : Size) (n : ℕ) → n < limit z → too_long z n ≡ 0
unfolding too_long
not_long z n h = by_test (leb (limit z) 32768) (λ d. rw d (unless_true _ 11 (lt-true n (limit z) h))) (λ d. rw d)

-- one more than a length that can be carried, at most
yields_length : (z : Size) → Gives of_bytes (length_of unsigned z) (λ n. n ≤ limit z)
unfolding length_of
yields_length (fixed w m) =
    gives_then _ _ (λ n. Unit {0}) _ (gives_local _ _ (kept_int locals (size w)) (λ p s x n b e. tt))
    (λ n h. gives_pick _ _ _ _ (λ e. gives_give (n + 1) (λ n. n ≤ limit (fixed w m)) (let l : n < 2 ^ (bits w - 1) = of_lt _ _ e in omega arith)) (λ e. gives_pick _ _ _ _ (λ d. gives_give 0 (λ n. n ≤ limit (fixed w m)) (omega arith)) (λ d. gives_fail _ _)))
yields_length (compact m) = gives_local _ _ local_unsigned (λ p s x n b e. (unsigned_small p s x n e).0)
yields_length plain = gives_then _ _ (λ n. n ≤ minus) _ (gives_local _ _ local_unsigned (λ p s x n b e. (unsigned_small p s x n e).0)) (λ n h. gives_give (n + 1) (λ n. n ≤ limit plain) (omega arith))

less_limit : (z : Size) (n : ℕ) → n ≤ limit z → n - 1 < limit z
less_limit (fixed w m) n h = let p = powers w in omega (arith, p.least)
less_limit (compact m) n h = omega arith
less_limit plain n h = omega arith

yields_sized : {A : Type 0} (b a : Bool) (e : ℕ) (z : Size) (r : ℕ → Reader (List A)) (g : List A → ℕ) → ((n : ℕ) → Gives of_bytes (r n) (λ xs. (length xs ≡ n) × (g xs ≡ 0))) →
    Gives of_bytes (sized b a e (length_of unsigned z) r) (λ x. sized_fault b z g x ≡ 0)
unfolding sized_fault
yields_sized {A} b a e z r g h =
    gives_weak _ _ _ (gives_sized b a e _ r (λ n. n ≤ limit z) (λ xs. or (too_long z (length xs)) (g xs) ≡ 0) (yields_length z) (λ n k. gives_weak _ _ _ (h (n - 1)) (λ xs j. or_both _ _ (not_long z _ (rw j.0 (less_limit z n k))) j.1)))
    (none_faulty b)
  where
    none_faulty : (b : Bool) (x : Maybe b (List A)) → EveryMaybe (λ xs. or (too_long z (length xs)) (g xs) ≡ 0) b x → sized_fault b z g x ≡ 0
    none_faulty true none k = refl
    none_faulty true (some xs) k = k
    none_faulty false xs k = k

-- no isolation level: the reader takes any Int8
abbrev pub PlainBasic : Basic → Type 0
PlainBasic (number w) = Unit {0}
PlainBasic boolean = Unit {0}
PlainBasic level = ⊥
PlainBasic natural = Unit {0}
PlainBasic (text z) = Unit {0}
PlainBasic (blob z) = Unit {0}
PlainBasic (optional d k) = PlainBasic k

abbrev pub Plain : Shape → Type 0
Plain end = Unit {0}
Plain (field k r) = PlainBasic k × Plain r
Plain (absent k r) = Plain r
Plain (array z t i r) = Plain i × Plain r
Plain (lacking z t i r) = Plain r

module _ (q : Bool) where
  -- n bytes that pass a test have their length, and no fault in that
  yields_part : (t : List ℕ → Bool) (n : ℕ) → Gives of_bytes (piece t (λ p b. b) n) (λ b. (length b ≡ n) × (unless (t b) 7 ≡ 0))
  yields_part t n = gives_part t (λ p b. b) n _ (λ p s b m a r h. (ap length r.is ∙ length-take-le n s r.fits, unless_true _ 7 h))

  yields_basic : (k : Basic) → PlainBasic k → Gives of_bytes (read_basic (by_bytes q) k) (λ x. basic_fault k x ≡ 0)
  unfolding read_basic read_blob read_text basic_fault pick
  yields_basic (number w) h = yields_cell w
  yields_basic boolean h = gives_local _ _ local_flag (λ p s x n b e. refl)
  yields_basic level h = absurd h
  yields_basic natural h = gives_local _ _ local_unsigned (λ p s x n b e. unless_true _ 11 (lt-true x (2 ^ 64) (omega (arith, (unsigned_small p s x n e).0))))
  yields_basic (text z) h = gives_single _ _ _ (yields_sized (keeps z) _ _ z _ (λ y. unless (utf8 y) 7) (yields_part utf8))
  yields_basic (blob z) h = gives_single _ _ _ (yields_sized (keeps z) _ _ z _ (λ y. 0) (λ n. gives_weak _ _ _ (yields_part (λ b. true) n) (λ b k. (k.0, refl))))
  yields_basic (optional d k) h = yields_basic k h

  pub yields_read : (l : Shape) → Plain l → Gives of_bytes (read (by_bytes q) l) (λ x. fault l x ≡ 0)
  unfolding read fault
  yields_read end h = gives_give tt _ refl
  yields_read (field k r) h = gives_weak _ _ _ (gives_pair _ _ _ _ (yields_basic k h.0) (yields_read r h.1)) (λ x a. or_both _ _ a.0 a.1)
  yields_read (absent k r) h = yields_read r h
  yields_read (array z t i r) h =
      gives_weak _ _ _
      (gives_pair _ _ _ _ (yields_sized (keeps z) _ _ z _ (λ xs. first_of (fault i) xs) (λ n. gives_weak _ _ _ (gives_many _ _ (yields_read i h.0) n) (λ xs a. (a.0, first_none (fault i) xs a.1)))) (yields_read r h.1))
      (λ x a. or_both _ _ a.0 a.1)
  yields_read (lacking z t i r) h = yields_read r h
