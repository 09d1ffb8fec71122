-- The layouts of topics, partitions and nodes, by what sets the versions apart: whether a topic tells if it is internal (from 1 on).
use Rattle.std.specs.Prelude.{Bool, ℕ}
use Rattle.layout.specs.Primitives.{empty, fixed, kept, never, w16, w32}
use Rattle.layout.specs.Rows.{Shape, array, boolean, end, field, number, stands, text}

unfoldable pub node_shape : Shape
node_shape = field (number w32) end

-- an array of nodes, in table t, at the end of a row
unfoldable pub nodes_shape : ℕ → Shape
nodes_shape t = array (fixed w32 kept) t node_shape end

-- the numbers of a partition, in front of its arrays
unfoldable pub partition_front : Shape
partition_front = field (number w16) (field (number w32) (field (number w32) end))

unfoldable pub partition_shape : Shape
partition_shape = field (number w16) (field (number w32) (field (number w32) (array (fixed w32 kept) 4 node_shape (array (fixed w32 kept) 5 node_shape end))))

-- the fields of a topic in front of its partitions
unfoldable pub topic_front : Bool → Shape
topic_front f = field (number w16) (field (text (fixed w16 never)) (stands f boolean end))

unfoldable pub topic_shape : Bool → Shape
topic_shape f = field (number w16) (field (text (fixed w16 never)) (stands f boolean (array (fixed w32 empty) 3 partition_shape end)))
