-- Each case of the part is a case of the definition.
use mathlib.Core.Path.{◌∙◌, ap, sym}
use Rattle.primitives.specs.Answers.{Read}
use Rattle.primitives.specs.Parts.{of_nullable, of_part, some_part, there}
use Rattle.primitives.specs.declared.Span as Part
use Rattle.primitives.proofs.Up.{up}
use Rattle.primitives.proofs.parts.present.Goals as goal

pub returns-in_err-value : goal.returns-in_err-value
returns-in_err-value c = up of_nullable _ _ c.from_residual.ensures ∙ sym (ap (λ (q : Read Part.Span). there (some_part (of_part q))) c.in_err-value.was)

pub returns : goal.returns
returns c = sym (ap (λ (q : Read Part.Span). there (some_part (of_part q))) c.in_ok-value.was)
