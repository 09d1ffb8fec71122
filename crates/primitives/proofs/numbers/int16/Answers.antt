-- The bytes as a number that is not negative, and its cell.
use native.Mathlib.Omega.{arith}
use Rattle.layout.specs.Primitives.{w16}
use Rattle.primitives.proofs.Cells.{cell_extended, int_below}
use Rattle.primitives.proofs.numbers.int16.Goals as goal

pub extended-requires : goal.extended-requires
extended-requires c = (int_below w16 _ c.shared_slice_known-1.given c.uint.result c.uint.ensures _ (omega arith), omega arith)

pub returns : goal.returns
returns c = cell_extended w16 _ c.shared_slice_known-1.given c.uint.result c.uint.ensures _ c.extended.ensures
