-- What the varint carries, within 32 bits, judged by the size.
use mathlib.Core.Path.{◌∙◌}
use Rattle.layout.specs.Primitives.{varint}
use Rattle.primitives.specs.Answers.{of_integer}
use Rattle.primitives.proofs.Alone.{alone_is, alone_long}
use Rattle.primitives.proofs.Varint.{varint_is}
use Rattle.primitives.proofs.Up.{up}
use Rattle.primitives_calls.proofs.read.varint.Goals as goal

pub returns-in_err-sized : goal.returns-in_err-sized
returns-in_err-sized c = up of_integer _ _ c.from_residual.ensures ∙ alone_long varint _ _ c.in_err-sized.ensures.refusal c.in_err-sized.ensures.err

pub returns : goal.returns
returns c = alone_is varint _ c.in_ok-sized.ensures.ok _ (c.integer.ensures ∙ c.carried.ensures ∙ varint_is _ c.unsigned_varint.result c.narrow.result c.unsigned_varint.ensures c.narrow.ensures)
