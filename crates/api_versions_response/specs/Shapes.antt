-- The response's layout at a version, by what sets the versions apart: t, whether it has a throttle time (from 1 on), and f, whether it is flexible (3).
-- Laws about values, and what writers promise, go into these shapes; what readers promise names them shut, below.
use Rattle.std.specs.Prelude.{Bool, false, true, [], ◌∷◌}
use Rattle.layout.specs.Primitives.{w16, w32}
use Rattle.layout.specs.Rows.{Shape, absent, array, field, items, number, optional}
use Rattle.body_reading.specs.Tagged.{tags_if, tags_shape}
use Rattle.api_versions_response.specs.ItemShapes.{key_shape}

abbrev pub item_shape : Bool → Shape
item_shape f = field (number w16) (field (number w16) (field (number w16) (tags_shape f 2)))

abbrev pub throttle_shape : Bool → Shape → Shape
throttle_shape true r = field (optional (0 ∷ []) (number w32)) r
throttle_shape false r = absent (optional (0 ∷ []) (number w32)) r

abbrev pub response_shape : Bool → Bool → Shape
response_shape t f = field (number w16) (array (items f) 1 (item_shape f) (throttle_shape t (tags_shape f 2)))

-- ---- shut

-- behind the items: throttle time and the body's own tags
unfoldable pub tail_shape : Bool → Bool → Shape
tail_shape t f = throttle_shape t (tags_if f 2)

unfoldable pub body_shape : Bool → Bool → Shape
body_shape t f = field (number w16) (array (items f) 1 (key_shape f) (tail_shape t f))
