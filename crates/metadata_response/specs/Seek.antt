-- The parts of the body that a walk to a field takes by themselves. Assumes nothing.
use Rattle.std.specs.Prelude.{Bool}
use Rattle.layout.specs.Primitives.{empty, fixed, w32}
use Rattle.layout.specs.Rows.{Shape, array, end, field, number}
use Rattle.metadata_response.specs.TopicShapes.{topic_shape}

abbrev pub topics_shape : Bool → Shape
topics_shape f = array (fixed w32 empty) 2 (topic_shape f) end

-- the controller, and what follows
abbrev pub controller_shape : Shape → Shape
controller_shape l = field (number w32) l
