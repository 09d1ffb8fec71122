-- The layouts of topics, partitions and aborted transactions, by what sets the versions apart: whether a stable offset and aborted transactions are told (in 4).
use Rattle.std.specs.Prelude.{Bool, ℕ}
use Rattle.layout.specs.Primitives.{empty, fixed, never, w16, w32, w64}
use Rattle.layout.specs.Rows.{Shape, array, blob, end, field, number, standing, stands, text}

unfoldable pub aborted_shape : Bool → Shape
aborted_shape f = stands f (number w64) (stands f (number w64) end)

-- an array of aborted transactions, in table t, at the end of a row
unfoldable pub aborted_array : Bool → ℕ → Shape
aborted_array f t = standing f (fixed w32 empty) t (aborted_shape f) end

-- the numbers of a partition, in front of its array
unfoldable pub partition_front : Bool → Shape
partition_front f = field (number w32) (field (number w16) (field (number w64) (stands f (number w64) end)))

unfoldable pub partition_shape : Bool → Shape
partition_shape f = field (number w32) (field (number w16) (field (number w64) (stands f (number w64) (standing f (fixed w32 empty) 3 (aborted_shape f) (field (blob (fixed w32 empty)) end)))))

unfoldable pub topic_shape : Bool → Shape
topic_shape f = field (text (fixed w16 never)) (array (fixed w32 empty) 2 (partition_shape f) end)
