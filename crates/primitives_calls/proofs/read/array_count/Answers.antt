use mathlib.Core.Path.{◌∙◌}
use Rattle.layout.specs.Primitives.{fixed, kept, w32}
use Rattle.primitives.specs.Parts.{counted, of_count}
use Rattle.primitives.proofs.Alone.{alone_is, alone_long}
use Rattle.primitives.proofs.Up.{up}
use Rattle.primitives_calls.proofs.read.array_count.Goals as goal

pub returns-in_err-sized : goal.returns-in_err-sized
returns-in_err-sized c = up of_count _ _ c.from_residual.ensures ∙ alone_long (counted (fixed w32 kept)) _ _ c.in_err-sized.ensures.refusal c.in_err-sized.ensures.err

pub returns : goal.returns
returns c = alone_is (counted (fixed w32 kept)) _ c.in_ok-sized.ensures.ok _ c.length32.ensures
