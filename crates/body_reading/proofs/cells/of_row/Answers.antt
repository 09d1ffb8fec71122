-- Kind 0 is unset, any other present.
use mathlib.Core.Path.{ap, sym}
use Prim.Native.Nat.{ℕ}
use Rattle.body_reading.proofs.Unique.{present_row}
use Rattle.body_reading.specs.Cells.{versioned_row}
use Rattle.body_reading.proofs.cells.of_row.Goals as goal

pub returns-then-kind-eq0 : goal.returns-then-kind-eq0
unfolding versioned_row
returns-then-kind-eq0 c = ap (λ (k : ℕ). versioned_row k c.args.n) (sym c.if-kind-eq0.true)

pub returns : goal.returns
returns c = present_row _ _ c.if-kind-eq0.false
