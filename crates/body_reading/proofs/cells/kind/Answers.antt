-- Each case has its kind.
use mathlib.Core.Path.{ap, sym}
use Prim.Native.Nat.{ℕ}
use lib.ListN.{get_or}
use Rattle.std.specs.Prelude.{Option}
use Rattle.body_reading.specs.Cells.{versioned_cells}
use Rattle.body_reading.proofs.cells.kind.Goals as goal

pub returns-in-None : goal.returns-in-None
returns-in-None c = ap (λ (x : Option ℕ). get_or (versioned_cells x) 0 0) (sym c.in-None.is)

pub returns-in-Some : goal.returns-in-Some
returns-in-Some c = ap (λ (x : Option ℕ). get_or (versioned_cells x) 0 0) (sym c.in-Some.is)
