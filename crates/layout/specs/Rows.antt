-- A message's layout as data: rows transcribed from Kafka's guide, each with its first and last version.
-- `at` picks a version; readers, writers and laws see only the `Shape` that it gives. Assumes nothing.
use Rattle.std.specs.Prelude.{Bool, true, false, cond, ◌&&◌, List, ℕ, leb}
use Rattle.layout.specs.Primitives.{Width, w16, w32, w64, never, kept, empty, Size, fixed, compact, plain, keeps, Maybe}

-- What a field is. `level`: an Int8, written only if it is 0 or 1. `natural`: an unsigned varint.
-- `optional d k`: a k that the version may lack or the writer leave unset; unset it is written as if its cells were d.
pub data Basic : Type 0 where
  number : Width → Basic
  boolean : Basic
  level : Basic
  natural : Basic
  text : Size → Basic
  blob : Size → Basic
  optional : List ℕ → Basic → Basic

-- One version's layout. `array z t i r`: items of shape i, whose rows go to table t, their number carried as z says.
-- `absent k r`, `lacking z t i r`: a field, an array that this version lacks: no byte, but its cells in the row.
pub data Shape : Type 0 where
  end : Shape
  field : Basic → Shape → Shape
  absent : Basic → Shape → Shape
  array : Size → ℕ → Shape → Shape → Shape
  lacking : Size → ℕ → Shape → Shape → Shape

-- `row a b k r`: a field of versions a to b, of kind k. `rows a b z t i r`: an array whose items have the rows i, in table t.
-- k and z are told whether the version is flexible (compact forms)
pub data Layout : Type 0 where
  done : Layout
  row : ℕ → ℕ → (Bool → Basic) → Layout → Layout
  rows : ℕ → ℕ → (Bool → Size) → ℕ → Layout → Layout → Layout

unfoldable pub stands : Bool → Basic → Shape → Shape
stands true k r = field k r
stands false k r = absent k r

unfoldable pub standing : Bool → Size → ℕ → Shape → Shape → Shape
standing true z t i r = array z t i r
standing false z t i r = lacking z t i r

-- version v, where the forms are compact from version f on
unfoldable pub at : ℕ → ℕ → Layout → Shape
at f v done = end
at f v (row a b k r) = stands (leb a v && leb v b) (k (leb f v)) (at f v r)
at f v (rows a b z t i r) = standing (leb a v && leb v b) (z (leb f v)) t (at f v i) (at f v r)

-- ---- the guide's names

abbrev pub int16 : Bool → Basic
int16 c = number w16

abbrev pub int32 : Bool → Basic
int32 c = number w32

abbrev pub int64 : Bool → Basic
int64 c = number w64

abbrev pub bool : Bool → Basic
bool c = boolean

abbrev pub isolation : Bool → Basic
isolation c = level

abbrev pub unsigned_varint : Bool → Basic
unsigned_varint c = natural

-- STRING, COMPACT_STRING
abbrev pub string : Bool → Basic
string c = text (cond c (compact never) (fixed w16 never))

-- NULLABLE_STRING, COMPACT_NULLABLE_STRING
abbrev pub nullable_string : Bool → Basic
nullable_string c = text (cond c (compact kept) (fixed w16 kept))

-- RECORDS: NULLABLE_BYTES, null shown as empty
abbrev pub records : Bool → Basic
records c = blob (cond c (compact empty) (fixed w32 empty))

abbrev pub maybe : List ℕ → (Bool → Basic) → Bool → Basic
maybe d k c = optional d (k c)

-- ARRAY, COMPACT_ARRAY: null reads as empty, or stays null
abbrev pub items : Bool → Size
items c = cond c (compact empty) (fixed w32 empty)

abbrev pub nullable_items : Bool → Size
nullable_items c = cond c (compact kept) (fixed w32 kept)

-- TAG_BUFFER, from version a to b, in table t: a number of tags, each with its data behind the data's length
unfoldable pub tag_rows : ℕ → ℕ → Layout
tag_rows a b =
    row a b unsigned_varint ( -- tag
    row a b (λ c. blob plain) done)  -- data

abbrev pub tagged : ℕ → ℕ → ℕ → Layout → Layout
tagged a b t r = rows a b (λ c. plain) t (tag_rows a b) r

-- ---- the values of a shape; X is what a text is

module _ (X : Type 0) where
  abbrev pub BasicValue : Basic → Type 0
  BasicValue (number w) = ℕ
  BasicValue boolean = Bool
  BasicValue level = ℕ
  BasicValue natural = ℕ
  BasicValue (text z) = Maybe (keeps z) X
  BasicValue (blob z) = Maybe (keeps z) X
  BasicValue (optional d k) = BasicValue k

  abbrev pub Value : Shape → Type 0
  Value end = Unit {0}
  Value (field k r) = BasicValue k × Value r
  Value (absent k r) = Value r
  Value (array z t i r) = Maybe (keeps z) (List (Value i)) × Value r
  Value (lacking z t i r) = Value r
