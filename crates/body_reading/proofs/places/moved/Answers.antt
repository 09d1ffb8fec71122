-- The bytes before the rest are used too, and a refusal is at the place where the rest starts.
use mathlib.Core.Path.{◌∙◌, ap, sym}
use Rattle.layout.specs.Reading.{bad}
use Rattle.primitives.specs.Answers.{of_read}
use Rattle.body_reading.specs.Moved.{from_place}
use Rattle.body_reading.proofs.places.moved.Goals as goal

pub overflow_add-result : goal.overflow_add-result
overflow_add-result g c = record { fits = c.requires.law _ _ (ap (of_read (λ v. v)) c.in-Ok.is) }

pub returns-in-Ok : goal.returns-in-Ok
returns-in-Ok g c = ap (from_place (λ d x. x) _) (sym (ap (of_read (λ v. v)) c.in-Ok.is))

pub returns-in-Err : goal.returns-in-Err
returns-in-Err g c = ap bad c.at.ensures ∙ ap (from_place (λ d x. x) _) (sym (ap (of_read (λ v. v)) c.in-Err.is))
