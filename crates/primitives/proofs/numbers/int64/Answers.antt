-- Eight bytes are the cell.
use Rattle.primitives.proofs.Cells.{cell_64}
use Rattle.primitives.proofs.numbers.int64.Goals as goal

pub returns : goal.returns
returns c = cell_64 _ c.shared_slice_known-1.given c.uint.result c.uint.ensures
