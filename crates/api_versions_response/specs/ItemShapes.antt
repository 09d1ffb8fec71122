-- The layout of a response's items at a version, by what sets the versions apart: f, whether it is flexible (3).
-- Laws about values, and what writers promise, go into these shapes; what readers promise names them shut, below.
use Rattle.std.specs.Prelude.{Bool}
use Rattle.layout.specs.Primitives.{w16}
use Rattle.layout.specs.Rows.{Shape, end, field, number}
use Rattle.body_reading.specs.Tagged.{tags_if}

-- the numbers of an item: key, minimum, maximum
abbrev pub key_front : Shape
key_front = field (number w16) (field (number w16) (field (number w16) end))

-- ---- shut

unfoldable pub key_shape : Bool → Shape
key_shape f = field (number w16) (field (number w16) (field (number w16) (tags_if f 2)))
