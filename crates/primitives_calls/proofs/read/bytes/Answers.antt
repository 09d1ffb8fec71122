use mathlib.Core.Bool.{false}
use mathlib.Core.Path.{◌∙◌}
use Rattle.layout.specs.Primitives.{fixed, never, w32}
use Rattle.layout.specs.Rows.{blob}
use Rattle.layout.specs.Read.{by_place, read_basic}
use Rattle.primitives.specs.Parts.{of_part}
use Rattle.primitives.proofs.Alone.{alone_is, alone_long}
use Rattle.primitives.proofs.Up.{up}
use Rattle.primitives_calls.proofs.read.bytes.Goals as goal

pub returns-in_err-sized : goal.returns-in_err-sized
returns-in_err-sized c = up of_part _ _ c.from_residual.ensures ∙ alone_long (read_basic (by_place false) (blob (fixed w32 never))) _ _ c.in_err-sized.ensures.refusal c.in_err-sized.ensures.err

pub returns : goal.returns
returns c = alone_is (read_basic (by_place false) (blob (fixed w32 never))) _ c.in_ok-sized.ensures.ok _ c.bytes.ensures
