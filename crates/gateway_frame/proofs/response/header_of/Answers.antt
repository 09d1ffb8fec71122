-- The cells of the row.
use mathlib.Core.Path.{refl}
use Rattle.gateway_frame.specs.Replies.{response_row}
use Rattle.gateway_frame.proofs.response.header_of.Goals as goal

pub returns : goal.returns
unfolding response_row
returns c = refl
