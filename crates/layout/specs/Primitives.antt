-- The primitives, each read and written, from the list of types in Kafka's protocol guide. Where the guide is silent docs/RULES.md decides:
-- ten bytes of a varint at most, and of the tenth only the lowest bit. Assumes nothing.
use Rattle.std.specs.Prelude.{Bool, true, false, cond, not, List, [], ◌∷◌, ◌++◌, ℕ, zero, suc, ◌+◌, ◌*◌, ◌-◌, ◌/◌, ◌%◌, ◌^◌, length, leb, ltb, eqb, ℤ, pos, negsuc}
use Rattle.std.proofs.Math.Option.{Option, none, some}
use Rattle.layout.specs.Reading.{Reader, then, give, fail, pick, primitive, raw}

-- ---- INT8, INT16, INT32, INT64: big-endian two's complement

-- the big-endian number of some bytes, behind the number a
abbrev pub be : ℕ → List ℕ → ℕ
be a [] = a
be a (b ∷ s) = be (a * 256 + b) s

-- k bytes as a big-endian number, not negative
unfoldable pub int : ℕ → Reader ℕ
int k = then (raw k) (λ b. give (be 0 b))

-- the lowest k bytes of n, big-endian
unfoldable pub bytes : ℕ → ℕ → List ℕ
bytes zero n = []
bytes (suc k) n = bytes k (n / 256) ++ (n % 256 ∷ [])

pub data Width : Type 0 where
  w8 w16 w32 w64 : Width

-- in bytes, and in bits
abbrev pub size : Width → ℕ
size w8 = 1
size w16 = 2
size w32 = 4
size w64 = 8

abbrev pub bits : Width → ℕ
bits w8 = 8
bits w16 = 16
bits w32 = 32
bits w64 = 64

-- the number that a pattern of width w stands for
unfoldable pub signed : Width → ℕ → ℤ
signed w n = cond (ltb n (2 ^ (bits w - 1))) (pos n) (negsuc (2 ^ bits w - suc n))

-- a cell, in which tables hold numbers: the 64-bit pattern of a number
abbrev pub cell_of : ℤ → ℕ
cell_of (pos n) = n
cell_of (negsuc n) = 2 ^ 64 - suc n

-- −1 as a cell
abbrev pub minus : ℕ
minus = 2 ^ 64 - 1

-- a number, read and written; and as a cell
unfoldable pub integer : Width → Reader ℤ
integer w = then (int (size w)) (λ n. give (signed w n))

unfoldable pub integer_bytes : Width → ℤ → List ℕ
integer_bytes w z = bytes (size w) (cell_of z)

unfoldable pub cell : Width → Reader ℕ
cell w = then (int (size w)) (λ n. give (cell_of (signed w n)))

-- the cell holds a number of width w
unfoldable pub holds : Width → ℕ → Bool
holds w c = cond (ltb c (2 ^ (bits w - 1))) true (cond (leb (2 ^ 64 - 2 ^ (bits w - 1)) c) (ltb c (2 ^ 64)) false)

-- ---- BOOLEAN: any byte but 0 is true; written 0 or 1

unfoldable pub flag : Reader Bool
flag = then (int 1) (λ n. give (ltb 0 n))

unfoldable pub flag_bytes : Bool → List ℕ
flag_bytes b = bytes 1 (cond b 1 0)

-- ---- UNSIGNED_VARINT: seven bits a byte, lowest first, the high bit set when more follow

-- k more bytes may follow this one; m is 128 to the number of bytes before, a what they say
unfoldable pub groups : ℕ → ℕ → ℕ → Reader ℕ
groups zero m a = then (int 1) (λ b. pick (ltb b 128) (give (a + b % 2 * m)) (fail 5))
groups (suc k) m a = then (int 1) (λ b. pick (ltb b 128) (give (a + b * m)) (groups k (m * 128) (a + b % 128 * m)))

-- longer forms than needed too
unfoldable pub unsigned : Reader ℕ
unsigned = primitive (groups 9 1 0)

-- written shortest: k more bytes may follow
unfoldable pub shortest : ℕ → ℕ → List ℕ
shortest zero n = bytes 1 n
shortest (suc k) n = cond (ltb n 128) (bytes 1 n) (bytes 1 (128 + n % 128) ++ shortest k (n / 128))

unfoldable pub unsigned_bytes : ℕ → List ℕ
unsigned_bytes n = shortest 9 n

-- ---- VARINT, VARLONG: zigzag over it: n ≥ 0 is carried as 2n, n < 0 as −2n − 1

unfoldable pub zigzag : ℤ → ℕ
zigzag (pos n) = 2 * n
zigzag (negsuc n) = 2 * n + 1

unfoldable pub unzigzag : ℕ → ℤ
unzigzag n = cond (eqb (n % 2) 0) (pos (n / 2)) (negsuc (n / 2))

unfoldable pub varlong : Reader ℤ
varlong = then unsigned (λ n. give (unzigzag n))

-- outside −2^31 to 2^31 − 1 it is refused
unfoldable pub varint : Reader ℤ
varint = primitive (then unsigned (λ n. pick (ltb n (2 ^ 32)) (give (unzigzag n)) (fail 11)))

unfoldable pub zigzag_bytes : ℤ → List ℕ
zigzag_bytes z = unsigned_bytes (zigzag z)

-- ---- lengths and counts, in front of strings, bytes, arrays and tagged fields

-- what null is: refused (`never`), a value of its own (`kept`), or no other than empty (`empty`: read only, never written)
pub data Null : Type 0 where
  never kept empty : Null

-- how a length is carried: as a signed number, −1 for null; one more than it as an unsigned varint, 0 for null;
-- or as it is as an unsigned varint, with no null (tagged fields and their data)
pub data Size : Type 0 where
  fixed : Width → Null → Size
  compact : Null → Size
  plain : Size

-- read as one more than the length, and 0 is null; v reads unsigned varints
unfoldable pub length_of : Reader ℕ → Size → Reader ℕ
length_of v (fixed w m) = then (int (size w)) (λ n. pick (ltb n (2 ^ (bits w - 1))) (give (n + 1)) (pick (eqb n (2 ^ bits w - 1)) (give 0) (fail 4)))
length_of v (compact m) = v
length_of v plain = then v (λ n. give (n + 1))

unfoldable pub length_bytes : Size → ℕ → List ℕ
length_bytes (fixed w m) n = bytes (size w) n
length_bytes (compact m) n = unsigned_bytes (n + 1)
length_bytes plain n = unsigned_bytes n

unfoldable pub null_bytes : Size → List ℕ
null_bytes (fixed w m) = bytes (size w) (2 ^ bits w - 1)
null_bytes (compact m) = unsigned_bytes 0
null_bytes plain = []

-- lengths from here on cannot be carried
abbrev pub limit : Size → ℕ
limit (fixed w m) = 2 ^ (bits w - 1)
limit (compact m) = 2 ^ 64 - 1
limit plain = 2 ^ 64

abbrev pub is_kept : Null → Bool
is_kept never = false
is_kept kept = true
is_kept empty = false

-- is null a value of its own?
abbrev pub keeps : Size → Bool
keeps (fixed w m) = is_kept m
keeps (compact m) = is_kept m
keeps plain = false

abbrev pub admits_null : Bool → Null → Bool
admits_null w never = false
admits_null w kept = true
admits_null w empty = not w

-- may null be read? w: in a whole read
abbrev pub admits : Bool → Size → Bool
admits w (fixed b m) = admits_null w m
admits w (compact m) = admits_null w m
admits w plain = false

-- the number that refuses null: `below` where it may never be, 8 for the null items of a whole read
abbrev pub refusal_null : ℕ → Null → ℕ
refusal_null below never = below
refusal_null below kept = below
refusal_null below empty = 8

abbrev pub refusal : Size → ℕ
refusal (fixed w m) = refusal_null 4 m
refusal (compact m) = refusal_null 6 m
refusal plain = 6

-- a length; null is refused with e unless a says that it is allowed
unfoldable pub checked : Bool → ℕ → Reader ℕ → Reader ℕ
checked a e len = primitive (then len (λ n. pick (eqb n 0) (pick a (give 0) (fail e)) (give n)))

abbrev pub Maybe : Bool → Type 0 → Type 0
Maybe true A = Option A
Maybe false A = A

-- a length, and r of that length. With b null is a value; else, if a allows it, it is as if the length were 0
unfoldable pub sized : {A : Type 0} (b a : Bool) → ℕ → Reader ℕ → (ℕ → Reader A) → Reader (Maybe b A)
sized true a e len r = then (checked true e len) (λ n. pick (eqb n 0) (give none) (then (r (n - 1)) (λ x. give (some x))))
sized false a e len r = then (checked a e len) (λ n. r (n - 1))

unfoldable pub sized_bytes : {A : Type 0} (b : Bool) → Size → (List A → List ℕ) → Maybe b (List A) → List ℕ
sized_bytes true z w none = null_bytes z
sized_bytes true z w (some xs) = length_bytes z (length xs) ++ w xs
sized_bytes false z w xs = length_bytes z (length xs) ++ w xs
