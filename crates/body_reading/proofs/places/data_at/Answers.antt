-- The varint is the length, and the data behind it, or what is refused, is what the reader at the place gives.
use Rattle.primitives.specs.Parts.{of_part}
use mathlib.Core.Path.{◌∙◌}
use Rattle.body_reading.proofs.DataAt.{data_behind_lem, data_no}
use Rattle.primitives.proofs.Up.{up}
use Rattle.body_reading.proofs.places.data_at.Goals as goal

pub returns : goal.returns
returns c = c.contents.ensures ∙ data_behind_lem _ _ _ _ c.in_ok-length.ensures

pub returns-in_err-length : goal.returns-in_err-length
returns-in_err-length c = up of_part _ _ c.from_residual.ensures ∙ data_no _ _ _ c.in_err-length.ensures
