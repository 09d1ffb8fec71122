-- The bytes are there, and are a signed number: its 64 bits are the cell.
use native.Mathlib.Omega.{arith}
use Rattle.layout.specs.Primitives.{w16}
use Rattle.metadata_response.proofs.There.{be_2, cell_there}
use Rattle.metadata_response.proofs.numbers.int16_there.Goals as goal

pub returns : goal.returns
returns c = let m = c.from_be_bytes-number.type_inv in cell_there w16 _ c.requires _ (be_2 _ c.requires) c.from_be_bytes-number.result (record { sfits = omega arith }) (record { sfits = omega arith }) c.from_be_bytes-number.ensures _ c.cast_unsigned.ensures
