-- The length is read, and what stands behind it is what the field shows.
use mathlib.Core.Bool.{false, true}
use mathlib.Core.Path.{◌∙◌, refl}
use Rattle.layout.specs.Primitives.{fixed, length_of, never, unsigned, w16}
use Rattle.layout.specs.Read.{by_place, read_basic, read_text}
use Rattle.primitives.specs.Parts.{counted, text_behind}
use Rattle.primitives.proofs.Behind.{shown_is}
use Rattle.primitives.proofs.texts.string.Goals as goal

pub returns : goal.returns
unfolding read_basic counted text_behind length_of
returns c = c.text_of.ensures ∙ shown_is true (length_of unsigned (fixed w16 never)) _ (read_text (by_place false)) false 4 c.length16.result c.length16.ensures _ refl
