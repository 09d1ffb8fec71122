-- The length is read, and what stands behind it is what the field shows.
use mathlib.Core.Bool.{false}
use mathlib.Core.Path.{◌∙◌, refl}
use Rattle.layout.specs.Primitives.{fixed, length_of, never, unsigned, w32}
use Rattle.layout.specs.Read.{by_place, read_basic, read_blob}
use Rattle.primitives.specs.Parts.{counted, data_behind}
use Rattle.primitives.proofs.Behind.{shown_is}
use Rattle.primitives.proofs.parts.bytes.Goals as goal

pub returns : goal.returns
unfolding read_basic counted data_behind length_of
returns c = c.data_of.ensures ∙ shown_is false (length_of unsigned (fixed w32 never)) _ (read_blob (by_place false)) false 4 c.length32.result c.length32.ensures _ refl
