-- The bytes are there, and are a signed number: its 64 bits are the cell.
use native.Mathlib.Omega.{arith}
use Rattle.layout.specs.Primitives.{w32}
use Rattle.metadata_response.proofs.There.{be_4, cell_there}
use Rattle.metadata_response.proofs.numbers.int32_there.Goals as goal

pub returns : goal.returns
returns c = let m = c.from_be_bytes-number.type_inv in cell_there w32 _ c.requires _ (be_4 _ c.requires) c.from_be_bytes-number.result (record { sfits = omega arith }) (record { sfits = omega arith }) c.from_be_bytes-number.ensures _ c.cast_unsigned.ensures
