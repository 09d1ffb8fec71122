-- Each way out is a case of the length that was read.
use mathlib.Core.Bool.{false, true}
use mathlib.Core.Path.{◌∙◌}
use Rattle.layout.specs.Primitives.{empty, fixed, length_of, unsigned, w32}
use Rattle.layout.specs.Read.{by_place, read_basic, read_blob}
use Rattle.primitives.specs.Parts.{counted, data_behind, of_part}
use Rattle.primitives.proofs.Behind.{shown_empty, shown_is}
use Rattle.primitives.proofs.Up.{up}
use Rattle.primitives.proofs.parts.records.Goals as goal

pub returns-in_err-value : goal.returns-in_err-value
unfolding read_basic counted data_behind length_of
returns-in_err-value c = up of_part _ _ c.from_residual.ensures ∙ shown_is false (length_of unsigned (fixed w32 empty)) _ (read_blob (by_place false)) true 8 _ c.length32.ensures _ c.in_err-value.was

pub returns : goal.returns
unfolding read_basic counted data_behind length_of
returns c = c.contents.ensures ∙ shown_empty (data_behind 0) 8 _ _ _ _ c.unwrap_or.ensures ∙ shown_is false (length_of unsigned (fixed w32 empty)) _ (read_blob (by_place false)) true 8 _ c.length32.ensures _ c.in_ok-value.was
