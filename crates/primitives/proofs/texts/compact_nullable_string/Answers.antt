-- The length is read, and what stands behind it is what the field shows.
use mathlib.Core.Bool.{false, true}
use mathlib.Core.Path.{◌∙◌, ap, refl}
use Rattle.layout.specs.Primitives.{compact, kept, length_of, unsigned}
use Rattle.layout.specs.Read.{by_place, read_basic, read_text}
use Rattle.primitives.specs.Parts.{counted, text_behind, there}
use Rattle.primitives.proofs.Behind.{kept_is}
use Rattle.primitives.proofs.texts.compact_nullable_string.Goals as goal

pub returns : goal.returns
unfolding read_basic counted text_behind length_of
returns c = c.nullable_text.ensures ∙ ap there (kept_is true (length_of unsigned (compact kept)) _ (read_text (by_place false)) true 6 c.compact_length.result c.compact_length.ensures _ refl)
