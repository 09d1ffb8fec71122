-- The number of the width, looked at as a length.
use Rattle.layout.specs.Primitives.{kept, w32}
use Rattle.primitives.proofs.Behind.{length_is}
use Rattle.primitives.proofs.lengths.length32.Goals as goal

pub returns : goal.returns
returns c = length_is w32 kept _ c.uint.result _ c.uint.ensures c.length.ensures
