-- The response's layout at version v, in the parts that code walks over: a throttle time stands from 3 on, a cluster from 2 on, a controller from 1 on.
use Rattle.std.specs.Prelude.{[], ◌∷◌, ℕ, leb}
use Rattle.layout.specs.Primitives.{empty, fixed, kept, w16, w32}
use Rattle.layout.specs.Rows.{Shape, array, end, number, optional, stands, text}
use Rattle.metadata_response.specs.Brokers.{broker_shape}
use Rattle.metadata_response.specs.TopicShapes.{topic_shape}

-- between brokers and topics
unfoldable pub middle_shape : ℕ → Shape
middle_shape v = stands (leb 2 v) (text (fixed w16 kept)) (stands (leb 1 v) (optional (0 ∷ []) (number w32)) end)

-- behind the brokers
unfoldable pub tail_shape : ℕ → Shape
tail_shape v = stands (leb 2 v) (text (fixed w16 kept)) (stands (leb 1 v) (optional (0 ∷ []) (number w32)) (array (fixed w32 empty) 2 (topic_shape (leb 1 v)) end))

unfoldable pub body_shape : ℕ → Shape
body_shape v = stands (leb 3 v) (optional (0 ∷ []) (number w32)) (array (fixed w32 empty) 1 (broker_shape (leb 1 v)) (tail_shape v))
