-- The layout of tagged fields, by whether the version has them. Assumes nothing.
use Rattle.std.specs.Prelude.{Bool, false, true, ℕ}
use Rattle.layout.specs.Primitives.{plain}
use Rattle.layout.specs.Rows.{Shape, absent, array, blob, end, field, lacking, natural}

-- a row: the tag, and its data
abbrev pub tag_shape : Shape
tag_shape = field natural (field (blob plain) end)

-- at the end of a row, their rows in table t
abbrev pub tags_shape : Bool → ℕ → Shape
tags_shape true t = array plain t tag_shape end
tags_shape false t = lacking plain t (absent natural (absent (blob plain) end)) end

-- the same, shut: what readers promise names it, and laws open it
unfoldable pub tags_if : Bool → ℕ → Shape
tags_if f t = tags_shape f t
