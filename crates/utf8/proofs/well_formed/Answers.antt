use native.Mathlib.Omega.{arith}
use Rattle.utf8.proofs.Steps.{end}
use Rattle.utf8.proofs.well_formed.Goals as goal

pub returns-then-at-s : goal.returns-then-at-s
returns-then-at-s c = end _ _ c.plain-at.ensures (omega arith)
