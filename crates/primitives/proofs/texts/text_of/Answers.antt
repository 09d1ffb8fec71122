-- Each case of the length is a case of the definition.
use mathlib.Core.Bool.{false}
use mathlib.Core.Path.{◌∙◌, ap, sym}
use Rattle.layout.specs.Reading.{bad}
use Rattle.primitives.specs.Parts.{of_part, shown_behind, shown_or, text_behind}
use Rattle.primitives.proofs.Up.{up}
use Rattle.primitives.proofs.texts.text_of.Goals as goal

pub returns-in_err-value : goal.returns-in_err-value
returns-in_err-value c = up of_part _ _ c.from_residual.ensures ∙ sym (ap (shown_behind text_behind false _ _) c.in_err-value.was)

pub returns-in-Some : goal.returns-in-Some
returns-in-Some c = c.characters.ensures ∙ sym (ap (shown_or text_behind false _ _ _) c.in-Some.is) ∙ sym (ap (shown_behind text_behind false _ _) c.in_ok-value.was)

pub returns-in-None : goal.returns-in-None
returns-in-None c = ap bad c.at.ensures ∙ sym (ap (shown_or text_behind false _ _ _) c.in-None.is) ∙ sym (ap (shown_behind text_behind false _ _) c.in_ok-value.was)
