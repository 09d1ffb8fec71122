-- Each case of the length is a case of the definition.
use mathlib.Core.Path.{◌∙◌, ap, sym}
use Rattle.primitives.specs.Parts.{kept_behind, kept_or, of_nullable, some_part, text_behind, there}
use Rattle.primitives.proofs.Up.{up}
use Rattle.primitives.proofs.texts.nullable_text.Goals as goal

pub returns-in_err-value : goal.returns-in_err-value
returns-in_err-value c = up of_nullable _ _ c.from_residual.ensures ∙ ap there (sym (ap (kept_behind text_behind _) c.in_err-value.was))

pub returns-in-Some : goal.returns-in-Some
returns-in-Some c = c.present.ensures ∙ ap there (ap some_part c.characters.ensures ∙ sym (ap (kept_or text_behind _ _) c.in-Some.is) ∙ sym (ap (kept_behind text_behind _) c.in_ok-value.was))

pub returns-in-None : goal.returns-in-None
returns-in-None c = ap there (sym (ap (kept_or text_behind _ _) c.in-None.is) ∙ sym (ap (kept_behind text_behind _) c.in_ok-value.was))
