-- The part of a partition that only version 4 has, with what follows it. Assumes nothing.
use Rattle.layout.specs.Primitives.{empty, fixed, w32, w64}
use Rattle.layout.specs.Rows.{Shape, array, blob, end, field, number}
use Rattle.names.specs.Walks.{numbers}

-- last stable offset, aborted transactions, records
unfoldable pub stable_shape : Shape
stable_shape = field (number w64) (array (fixed w32 empty) 3 (numbers 2 w64) (field (blob (fixed w32 empty)) end))
