-- The one reader of all layouts. Assumes nothing.
use Rattle.std.specs.Prelude.{Bool, List, ℕ, ◌+◌, length}
use Rattle.layout.specs.Reading.{Reader, then, give, fail_at, pick, here, primitive, textual, raw, pair, many}
use Rattle.layout.specs.Primitives.{w8, Size, keeps, admits, refusal, Maybe, cell, flag, unsigned, length_of, sized}
use Rattle.layout.specs.Utf8.{utf8, well_formed}
use Rattle.layout.specs.Rows.{Basic, number, boolean, level, natural, text, blob, optional, Shape, end, field, absent, array, lacking, BasicValue, Value}

-- What is not the same in all readings: what a text is, made of its place and its bytes; the varint and the Boolean reader;
-- and whether it is a whole read, where null items are refused.
pub record Codec : Type 1 where
  pub Text : Type 0
  pub make : ℕ → List ℕ → Text
  pub varint : Reader ℕ
  pub flag : Reader Bool
  pub whole : Bool

module _ (c : Codec) where
  -- data, and text, of n bytes; text that is not well-formed is refused where its longest well-formed beginning ends
  unfoldable pub read_blob : ℕ → Reader c.Text
  read_blob n = here (λ p. then (raw n) (λ b. give (c.make p b)))

  unfoldable pub read_text : ℕ → Reader c.Text
  read_text n = here (λ p. then (raw n) (λ b. pick (utf8 b) (give (c.make p b)) (fail_at 7 (p + well_formed b))))

  -- a length or count, and what it is in front of
  abbrev pub counted : {A : Type 0} (z : Size) → (ℕ → Reader A) → Reader (Maybe (keeps z) A)
  counted z r = sized (keeps z) (admits c.whole z) (refusal z) (length_of c.varint z) r

  unfoldable pub read_basic : (k : Basic) → Reader (BasicValue c.Text k)
  read_basic (number w) = cell w
  read_basic boolean = c.flag
  read_basic level = cell w8
  read_basic natural = c.varint
  read_basic (text z) = textual (counted z read_text)
  read_basic (blob z) = primitive (counted z read_blob)
  read_basic (optional d k) = read_basic k

  unfoldable pub read : (l : Shape) → Reader (Value c.Text l)
  read end = give tt
  read (field k r) = pair (read_basic k) (read r)
  read (absent k r) = read r
  read (array z t i r) = pair (counted z (λ n. many n (read i))) (read r)
  read (lacking z t i r) = read r

-- a text as its bytes (for theorems), and as its place and length (for the tables)
abbrev pub by_bytes : Bool → Codec
by_bytes w = record { Text = List ℕ; make = λ p b. b; varint = unsigned; flag = flag; whole = w }

abbrev pub by_place : Bool → Codec
by_place w = record { Text = ℕ × ℕ; make = λ p b. (p, length b); varint = unsigned; flag = flag; whole = w }
