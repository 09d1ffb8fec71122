-- Each case is one of the definition.
use mathlib.Core.Path.{◌∙◌, ap, sym}
use Rattle.primitives.specs.Answers.{of_extended, of_number}
use Rattle.primitives.proofs.Cells.{extended_below, extended_is}
use Rattle.primitives.proofs.Up.{up}
use Rattle.primitives.proofs.numbers.extended.Goals as goal

pub returns-in_err-value : goal.returns-in_err-value
returns-in_err-value c = up of_number _ _ c.from_residual.ensures ∙ sym (ap (of_extended _ _) c.in_err-value.was)

pub filled-requires : goal.filled-requires
filled-requires c = (extended_below _ _ _ c.in_ok-value.was _ c.requires.0, c.requires.1)

pub returns : goal.returns
returns c = extended_is _ _ _ c.in_ok-value.was _ _ _ c.filled.ensures
