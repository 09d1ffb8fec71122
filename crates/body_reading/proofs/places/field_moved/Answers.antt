-- The bytes before the rest are used too, and a refusal is that much further on.
use mathlib.Core.Path.{◌∙◌, ap, sym}
use Rattle.layout.specs.Reading.{bad}
use Rattle.primitives.specs.Parts.{of_nullable}
use Rattle.body_reading.specs.Moved.{from_part, further_field}
use Rattle.body_reading.proofs.DataAt.{field_took}
use Rattle.body_reading.proofs.places.field_moved.Goals as goal

pub start_moved-requires : goal.start_moved-requires
start_moved-requires c = c.requires.start _ _ (ap of_nullable c.in-Ok.is)

pub overflow_add-result : goal.overflow_add-result
overflow_add-result c = record { fits = c.requires.behind _ _ (ap of_nullable c.in-Ok.is) }

pub refusal_moved-requires : goal.refusal_moved-requires
refusal_moved-requires c = c.requires.inside _ (ap of_nullable c.in-Err.is)

pub returns-in-Ok : goal.returns-in-Ok
returns-in-Ok c = field_took _ _ _ _ (sym (ap of_nullable c.in-Ok.is)) _ c.start_moved.ensures

pub returns-in-Err : goal.returns-in-Err
returns-in-Err c = ap bad c.refusal_moved.ensures ∙ ap (from_part further_field _) (sym (ap of_nullable c.in-Err.is))
