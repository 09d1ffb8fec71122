-- All of the bytes, or none.
use native.Mathlib.Omega.{arith}
use Rattle.body_reading.proofs.FrontAt.{front_none, front_there}
use Rattle.body_reading.proofs.places.front.Goals as goal

pub returns-then-p-less : goal.returns-then-p-less
returns-then-p-less c = front_there _ _ _ (omega arith)

pub returns : goal.returns
returns c = front_none _ _ _ (omega arith)
