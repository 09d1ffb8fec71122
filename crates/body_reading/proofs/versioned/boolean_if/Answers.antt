-- Read where the version has it, as 0 or 1.
use Rattle.body_reading.specs.Cells.{of_cell}
use mathlib.Core.Path.{◌∙◌, ap}
use mathlib.Core.List.{[], ◌∷◌}
use Prim.Native.Nat.{ℕ}
use Rattle.layout.specs.Reading.{ok}
use Rattle.body_reading.proofs.Alone.{bit_is, boolean_lacks, boolean_no, boolean_took}
use mathlib.Core.Path.{refl}
use Rattle.primitives.proofs.Up.{up}
use Rattle.body_reading.proofs.versioned.boolean_if.Goals as goal

pub returns-then-not-there : goal.returns-then-not-there
returns-then-not-there c = boolean_lacks _ _ _ c.if-not-there.true

pub returns : goal.returns
returns c = ap (λ (n : ℕ). ok (n ∷ []) c.in_ok-flag.flag.next) (bit_is c.in_ok-flag.flag.value) ∙ boolean_took _ _ _ c.if-not-there.false _ _ c.in_ok-flag.ensures _ refl

pub returns-in_err-flag : goal.returns-in_err-flag
returns-in_err-flag c = up of_cell _ _ c.from_residual.ensures ∙ boolean_no _ _ _ c.if-not-there.false _ c.in_err-flag.ensures
