-- A part starts that much further on.
use mathlib.Core.Option.{some}
use mathlib.Core.Path.{◌∙◌, ap, sym}
use Rattle.layout.specs.Tables.{Span}
use Rattle.primitives.specs.Parts.{of_field}
use Rattle.body_reading.specs.Moved.{further_field}
use Rattle.body_reading.proofs.places.start_moved.Goals as goal

pub span_moved-requires : goal.span_moved-requires
span_moved-requires c = c.requires.law _ (ap of_field c.in-Present.is)

pub returns-in-Absent : goal.returns-in-Absent
returns-in-Absent c = ap (further_field _) (sym (ap of_field c.in-Absent.is))

pub returns-in-Null : goal.returns-in-Null
returns-in-Null c = ap (further_field _) (sym (ap of_field c.in-Null.is))

pub returns-in-Present : goal.returns-in-Present
returns-in-Present c = ap (λ (x : Span). some (some x)) c.span_moved.ensures ∙ ap (further_field _) (sym (ap of_field c.in-Present.is))
