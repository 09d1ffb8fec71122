-- Each way out is a case of the length that was read.
use mathlib.Core.Bool.{false, true}
use mathlib.Core.Path.{◌∙◌, ap, sym}
use Rattle.layout.specs.Primitives.{fixed, kept, length_of, unsigned, w32}
use Rattle.layout.specs.Read.{by_place, read_basic, read_blob}
use Rattle.primitives.specs.Parts.{counted, data_behind, kept_or, of_nullable, some_part, there}
use Rattle.primitives.proofs.Behind.{kept_is}
use Rattle.primitives.proofs.Up.{up}
use Rattle.primitives.proofs.parts.nullable_bytes.Goals as goal

pub returns-in_err-value : goal.returns-in_err-value
unfolding read_basic counted data_behind length_of
returns-in_err-value c = up of_nullable _ _ c.from_residual.ensures ∙ ap there (kept_is false (length_of unsigned (fixed w32 kept)) _ (read_blob (by_place false)) true 4 _ c.length32.ensures _ c.in_err-value.was)

pub returns-in-Some : goal.returns-in-Some
unfolding read_basic counted data_behind length_of
returns-in-Some c = c.present.ensures ∙ ap there (ap some_part c.contents.ensures ∙ sym (ap (kept_or (data_behind 0) _ _) c.in-Some.is) ∙ kept_is false (length_of unsigned (fixed w32 kept)) _ (read_blob (by_place false)) true 4 _ c.length32.ensures _ c.in_ok-value.was)

pub returns-in-None : goal.returns-in-None
unfolding read_basic counted data_behind length_of
returns-in-None c = ap there (sym (ap (kept_or (data_behind 0) _ _) c.in-None.is) ∙ kept_is false (length_of unsigned (fixed w32 kept)) _ (read_blob (by_place false)) true 4 _ c.length32.ensures _ c.in_ok-value.was)
