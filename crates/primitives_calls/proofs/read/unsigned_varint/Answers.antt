use mathlib.Core.Path.{◌∙◌}
use Rattle.layout.specs.Primitives.{unsigned}
use Rattle.primitives.specs.Answers.{of_number}
use Rattle.primitives.proofs.Alone.{alone_is, alone_long}
use Rattle.primitives.proofs.Up.{up}
use Rattle.primitives_calls.proofs.read.unsigned_varint.Goals as goal

pub returns-in_err-sized : goal.returns-in_err-sized
returns-in_err-sized c = up of_number _ _ c.from_residual.ensures ∙ alone_long unsigned _ _ c.in_err-sized.ensures.refusal c.in_err-sized.ensures.err

pub returns : goal.returns
returns c = alone_is unsigned _ c.in_ok-sized.ensures.ok _ c.unsigned_varint.ensures
