-- Each way out is a case of the definition.
use mathlib.Core.Path.{◌∙◌, ap, sym}
use Rattle.primitives.specs.Parts.{of_count, of_length}
use Rattle.primitives.proofs.Behind.{length_below, length_null, length_some}
use Rattle.primitives.proofs.Up.{up}
use borrow.Author.Rules.{rules}
use Rattle.primitives.proofs.lengths.length.Goals as goal

pub returns-in_err-value : goal.returns-in_err-value
returns-in_err-value c = up of_count _ _ c.from_residual.ensures ∙ sym (ap (of_length _ _) c.in_err-value.was)

pub returns-then-value-half : goal.returns-then-value-half
returns-then-value-half c = length_some _ _ _ _ _ c.in_ok-value.was c.if-value-half.true

pub returns-then-value-null : goal.returns-then-value-null
returns-then-value-null c = length_null _ _ _ _ _ c.in_ok-value.was c.if-value-half.false (search rules)

pub returns : goal.returns
returns c = length_below _ _ _ _ _ c.in_ok-value.was c.if-value-half.false (search rules) _ c.at.ensures
