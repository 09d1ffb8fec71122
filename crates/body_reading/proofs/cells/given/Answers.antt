-- What is there is itself.
use mathlib.Core.Path.{◌∙◌}
use Rattle.body_reading.proofs.Alone.{given_is}
use Rattle.body_reading.proofs.cells.given.Goals as goal

pub returns : goal.returns
returns c = c.unwrap_or.ensures ∙ given_is c.args.x c.args.d
