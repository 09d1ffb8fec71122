-- The layout that rows give at a version: the list of fields that begins at a row, with the lists of its elements, to a number of levels. Assumes nothing.
use Rattle.std.specs.Prelude.{Bool, ◌&&◌, List, [], ◌∷◌, suc, zero, ℕ, leb, drop, replicate}
use Rattle.layout.specs.Primitives.{Size, empty, fixed, kept, plain, w16, w32}
use Rattle.layout.specs.Rows.{Basic, Shape, blob, bool, end, int16, int32, int64, isolation, items, nullable_items, optional, standing, stands, string, text, unsigned_varint}
use Rattle.layout.specs.Tables.{width}
use Rattle.layout_rows.specs.declared.Kind.{Kind}
use Rattle.layout_rows.specs.declared.Many.{Many}
use Rattle.layout_rows.specs.declared.Row.{Row}
use Rattle.layout_rows.specs.Rows.{table}

-- c: compact forms. No version here has a compact nullable string or compact records
abbrev pub basic_of : Bool → Kind → Basic
basic_of c Kind.Int16 = int16 c
basic_of c Kind.Int32 = int32 c
basic_of c Kind.Int64 = int64 c
basic_of c Kind.Boolean = bool c
basic_of c Kind.Level = isolation c
basic_of c Kind.UnsignedVarint = unsigned_varint c
basic_of c Kind.String = string c
basic_of c Kind.NullableString = text (fixed w16 kept)
basic_of c Kind.Records = blob (fixed w32 empty)
basic_of c Kind.Data = blob plain

-- a field that may be unset or absent: where it is unset, each of its cells is d
abbrev pub maybe_of : Bool → Kind → ℕ → Basic
maybe_of c k d = optional (replicate (width (basic_of c k)) d) (basic_of c k)

abbrev pub size_of : Bool → Many → Size
size_of c Many.Items = items c
size_of c Many.NullableItems = nullable_items c
size_of c Many.Tags = plain

-- does version v have a field of versions a to b?
abbrev pub between : ℕ → ℕ → ℕ → Bool
between a b v = leb a v && leb v b

module _ (c : Bool) (v : ℕ) where
  -- the fields of some rows, up to the end of their list; `inner` gives the list that begins at a row
  unfoldable pub listed : (ℕ → Shape) → List Row → Shape
  listed inner [] = end
  listed inner (Row.Field k a b ∷ rs) = stands (between a b v) (basic_of c k) (listed inner rs)
  listed inner (Row.Maybe k d a b ∷ rs) = stands (between a b v) (maybe_of c k d) (listed inner rs)
  listed inner (Row.Array z a b t i ∷ rs) = standing (between a b v) (size_of c z) t (inner i) (listed inner rs)
  listed inner (Row.End ∷ rs) = end

  -- n levels, from row i on
  unfoldable pub shape_of : ℕ → ℕ → Shape
  shape_of zero i = end
  shape_of (suc n) i = listed (shape_of n) (drop i table)
