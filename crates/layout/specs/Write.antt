-- The one writer of all layouts: the bytes of a value, and the first fault of a value that cannot be written. Assumes nothing.
use Rattle.std.specs.Prelude.{Bool, true, false, cond, List, [], ◌∷◌, ◌++◌, ℕ, zero, suc, ◌^◌, length, leb, ltb}
use Rattle.std.proofs.Math.Option.{none, some}
use Rattle.layout.specs.Primitives.{size, holds, bytes, flag_bytes, unsigned_bytes, Size, limit, keeps, Maybe, sized_bytes}
use Rattle.layout.specs.Utf8.{utf8}
use Rattle.layout.specs.Rows.{Basic, number, boolean, level, natural, text, blob, optional, Shape, end, field, absent, array, lacking, BasicValue, Value}

-- ---- the bytes

unfoldable pub each : {A : Type 0} → (A → List ℕ) → List A → List ℕ
each w [] = []
each w (x ∷ xs) = w x ++ each w xs

unfoldable pub write_basic : (k : Basic) → BasicValue (List ℕ) k → List ℕ
write_basic (number w) n = bytes (size w) n
write_basic boolean b = flag_bytes b
write_basic level n = bytes 1 n
write_basic natural n = unsigned_bytes n
write_basic (text z) x = sized_bytes (keeps z) z (λ y. y) x
write_basic (blob z) x = sized_bytes (keeps z) z (λ y. y) x
write_basic (optional d k) x = write_basic k x

unfoldable pub write : (l : Shape) → Value (List ℕ) l → List ℕ
write end x = []
write (field k r) x = write_basic k x.0 ++ write r x.1
write (absent k r) x = write r x
write (array z t i r) x = sized_bytes (keeps z) z (λ xs. each (write i) xs) x.0 ++ write r x.1
write (lacking z t i r) x = write r x

-- ---- the first fault in field order: 7 or 11; 0 is none

unfoldable pub or : ℕ → ℕ → ℕ
or zero b = b
or (suc a) b = suc a

unfoldable pub unless : Bool → ℕ → ℕ
unless b e = cond b 0 e

unfoldable pub first_of : {A : Type 0} → (A → ℕ) → List A → ℕ
first_of g [] = 0
first_of g (x ∷ xs) = or (g x) (first_of g xs)

-- over 32,767, where the length has two bytes at most. What a wider length cannot carry is over the size of a body, and 2 by that
unfoldable pub too_long : Size → ℕ → ℕ
too_long z n = cond (leb (limit z) 32768) (unless (ltb n (limit z)) 11) 0

-- too long, or else a fault inside
unfoldable pub sized_fault : {A : Type 0} (b : Bool) → Size → (List A → ℕ) → Maybe b (List A) → ℕ
sized_fault true z g none = 0
sized_fault true z g (some xs) = or (too_long z (length xs)) (g xs)
sized_fault false z g xs = or (too_long z (length xs)) (g xs)

unfoldable pub basic_fault : (k : Basic) → BasicValue (List ℕ) k → ℕ
basic_fault (number w) n = unless (holds w n) 11
basic_fault boolean b = 0
basic_fault level n = unless (leb n 1) 11
basic_fault natural n = unless (ltb n (2 ^ 64)) 11
basic_fault (text z) x = sized_fault (keeps z) z (λ y. unless (utf8 y) 7) x
basic_fault (blob z) x = sized_fault (keeps z) z (λ y. 0) x
basic_fault (optional d k) x = basic_fault k x

unfoldable pub fault : (l : Shape) → Value (List ℕ) l → ℕ
fault end x = 0
fault (field k r) x = or (basic_fault k x.0) (fault r x.1)
fault (absent k r) x = fault r x
fault (array z t i r) x = or (sized_fault (keeps z) z (λ xs. first_of (fault i) xs) x.0) (fault r x.1)
fault (lacking z t i r) x = fault r x
