-- What the call promises, of the numbers that were passed on.
use mathlib.Core.Path.{◌∙◌, ap₂}
use lib.IntN.{pos, ℤ}
use mir.Facts.{to_z-of_z}
use Rattle.layout.specs.Messages.Headers.{request_number}
use Rattle.gateway_frame.proofs.Rows.{number_back_lem}
use Rattle.gateway_frame.proofs.chosen.befrolan_request_number.Goals as goal

pub returns : goal.returns
returns c = number_back_lem _ c.args.key c.args.version (c.request_number.ensures ∙ ap₂ (λ (k v : ℤ). pos (request_number k v)) (to_z-of_z c.ranges.key) (to_z-of_z c.ranges.version))
