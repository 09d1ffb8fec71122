-- The request's layout by what sets the versions apart, `f`: it has auto-creation (in 4). Assumes nothing.
use Rattle.std.specs.Prelude.{Bool, false, true, [], ◌∷◌}
use Rattle.layout.specs.Primitives.{fixed, kept, never, w16, w32}
use Rattle.layout.specs.Rows.{Basic, Shape, absent, array, boolean, end, field, optional, text}

abbrev pub name_shape : Shape
name_shape = field (text (fixed w16 never)) end

-- the topics, in front of r
abbrev pub topics_shape : Shape → Shape
topics_shape r = array (fixed w32 kept) 1 name_shape r

-- unset, the broker may create topics
abbrev pub creation_field : Basic
creation_field = optional (1 ∷ []) boolean

abbrev pub creation_shape : Bool → Shape
creation_shape true = field creation_field end
creation_shape false = absent creation_field end

abbrev pub request_shape : Bool → Shape
request_shape f = topics_shape (creation_shape f)
