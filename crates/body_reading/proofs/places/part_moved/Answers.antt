-- The bytes before the rest are used too; a part starts, and a refusal is, that much further on.
use mathlib.Core.Path.{◌∙◌, ap, sym}
use Prim.Native.Nat.{◌+◌}
use Rattle.layout.specs.Reading.{bad, ok}
use Rattle.layout.specs.Tables.{Span}
use Rattle.primitives.specs.Parts.{of_part}
use Rattle.body_reading.specs.Moved.{from_part, further}
use Rattle.body_reading.proofs.places.part_moved.Goals as goal

pub span_moved-requires : goal.span_moved-requires
span_moved-requires c = (c.requires.law _ _ (ap of_part c.in-Ok.is)).0

pub overflow_add-result : goal.overflow_add-result
overflow_add-result c = record { fits = (c.requires.law _ _ (ap of_part c.in-Ok.is)).1 }

pub refusal_moved-requires : goal.refusal_moved-requires
refusal_moved-requires c = c.requires.inside _ (ap of_part c.in-Err.is)

pub returns-in-Ok : goal.returns-in-Ok
returns-in-Ok c = ap (λ (x : Span). ok x (c.args.p + c.in-Ok.part.next)) c.span_moved.ensures ∙ ap (from_part further _) (sym (ap of_part c.in-Ok.is))

pub returns-in-Err : goal.returns-in-Err
returns-in-Err c = ap bad c.refusal_moved.ensures ∙ ap (from_part further _) (sym (ap of_part c.in-Err.is))
