-- The step's cell is what the call shows.
use mathlib.Core.Path.{◌∙◌}
use Rattle.layout.specs.Primitives.{integer, w32}
use Rattle.primitives.specs.Answers.{of_integer}
use Rattle.primitives.proofs.Alone.{alone_long, integer_is, short}
use Rattle.primitives.proofs.Up.{up}
use Rattle.primitives_calls.proofs.read.int32.Goals as goal

pub returns-in_err-sized : goal.returns-in_err-sized
returns-in_err-sized c = up of_integer _ _ c.from_residual.ensures ∙ alone_long (integer w32) _ _ c.in_err-sized.ensures.refusal c.in_err-sized.ensures.err

pub returns : goal.returns
returns c = integer_is w32 _ c.int32.result _ c.type_inv.msg c.int32.ensures (c.integer.ensures ∙ short _ _ c.in_ok-sized.ensures.ok)
