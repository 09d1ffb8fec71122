use mathlib.Core.Bool.{false}
use mathlib.Core.Path.{◌∙◌, ap, refl}
use Rattle.layout.specs.Primitives.{compact, kept}
use Rattle.layout.specs.Rows.{text}
use Rattle.layout.specs.Read.{by_place, read_basic}
use Rattle.primitives.specs.Parts.{of_nullable, there}
use Rattle.primitives.proofs.Alone.{alone_is, alone_long}
use Rattle.primitives.proofs.Up.{up}
use Rattle.primitives_calls.proofs.read.compact_nullable_string.Goals as goal

pub returns-in_err-sized : goal.returns-in_err-sized
returns-in_err-sized c = up of_nullable _ _ c.from_residual.ensures ∙ ap there (alone_long (read_basic (by_place false) (text (compact kept))) _ _ c.in_err-sized.ensures.refusal c.in_err-sized.ensures.err)

pub returns : goal.returns
returns c = c.compact_nullable_string.ensures ∙ ap there (alone_is (read_basic (by_place false) (text (compact kept))) _ c.in_ok-sized.ensures.ok _ refl)
