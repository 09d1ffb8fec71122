-- The length is read, and what stands behind it is what the field shows.
use mathlib.Core.Bool.{false, true}
use mathlib.Core.Path.{◌∙◌, ap, refl}
use Rattle.layout.specs.Primitives.{fixed, kept, length_of, unsigned, w16}
use Rattle.layout.specs.Read.{by_place, read_basic, read_text}
use Rattle.primitives.specs.Parts.{counted, text_behind, there}
use Rattle.primitives.proofs.Behind.{kept_is}
use Rattle.primitives.proofs.texts.nullable_string.Goals as goal

pub returns : goal.returns
unfolding read_basic counted text_behind length_of
returns c = c.nullable_text.ensures ∙ ap there (kept_is true (length_of unsigned (fixed w16 kept)) _ (read_text (by_place false)) true 4 c.length16.result c.length16.ensures _ refl)
