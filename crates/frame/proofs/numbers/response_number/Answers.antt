-- One number for all of them.
use mathlib.Core.Path.{refl}
use Rattle.frame.proofs.numbers.response_number.Goals as goal

pub returns : goal.returns
returns c = refl
