-- Read where the version has it.
use Rattle.body_reading.specs.Cells.{of_versioned_at}
use mathlib.Core.Path.{◌∙◌}
use Rattle.body_reading.proofs.Alone.{int32_lacks, int32_no, int32_took}
use Rattle.primitives.proofs.Up.{up}
use Rattle.body_reading.proofs.versioned.int32_if.Goals as goal

pub returns-then-not-there : goal.returns-then-not-there
returns-then-not-there c = int32_lacks _ _ _ c.if-not-there.true

pub returns : goal.returns
returns c = int32_took _ _ _ c.if-not-there.false _ _ c.in_ok-number.ensures

pub returns-in_err-number : goal.returns-in_err-number
returns-in_err-number c = up of_versioned_at _ _ c.from_residual.ensures ∙ int32_no _ _ _ c.if-not-there.false _ c.in_err-number.ensures
