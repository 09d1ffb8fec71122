-- The response's layout at version v: a throttle time stands from 1 on, and in 4 a stable offset and aborted transactions.
use Rattle.std.specs.Prelude.{[], ◌∷◌, ℕ, leb}
use Rattle.layout.specs.Primitives.{empty, fixed, w32}
use Rattle.layout.specs.Rows.{Shape, array, end, number, optional, stands}
use Rattle.fetch_response.specs.TopicShapes.{topic_shape}

unfoldable pub body_shape : ℕ → Shape
body_shape v = stands (leb 1 v) (optional (0 ∷ []) (number w32)) (array (fixed w32 empty) 1 (topic_shape (leb 4 v)) end)
