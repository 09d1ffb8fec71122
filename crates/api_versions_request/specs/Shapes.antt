-- The request's layout by what sets the versions apart, `f`: it is flexible (3), and has the fields. Assumes nothing.
use Rattle.std.specs.Prelude.{Bool, false, true, [], ◌∷◌}
use Rattle.layout.specs.Rows.{Basic, Shape, absent, end, field, maybe, string}
use Rattle.body_reading.specs.Tagged.{tags_shape}

-- a text: an unset one is written as an empty one
abbrev pub text_field : Bool → Basic
text_field f = maybe (0 ∷ 0 ∷ []) string f

-- name and version of the client's software, in front of r
abbrev pub texts_shape : Shape → Shape
texts_shape r = field (text_field true) (field (text_field true) r)

-- what a request has before its tags
abbrev pub texts_if : Bool → Shape
texts_if true = texts_shape end
texts_if false = absent (text_field false) (absent (text_field false) end)

abbrev pub request_shape : Bool → Shape
request_shape true = texts_shape (tags_shape true 1)
request_shape false = absent (text_field false) (absent (text_field false) (tags_shape false 1))
