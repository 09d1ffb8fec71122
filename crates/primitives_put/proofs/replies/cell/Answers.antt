-- The number's bits as those of a cell.
use mathlib.Core.Path.{◌∙◌, ap, sym}
use mir.Facts.{to_z-of_z}
use mir.Syntax.{w64}
use mir.Val.{of_z}
use Rattle.layout.proofs.Cells.{cell_is}
use Rattle.primitives_put.proofs.replies.cell.Goals as goal

pub returns : goal.returns
returns c = c.cast_unsigned.ensures ∙ ap (of_z w64) (to_z-of_z c.ranges.value) ∙ sym (cell_is c.args.value)
