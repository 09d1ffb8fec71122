-- A number of no field, or the fault of the one field.
use mathlib.Core.List.{[]}
use mathlib.Core.Path.{◌∙◌, sym}
use Rattle.layout.specs.Answers.{meant, none_yet}
use Rattle.layout.specs.Primitives.{w32}
use Rattle.layout.specs.Reading.{nowhere}
use Rattle.primitives.specs.Answers.{of_refusal}
use Rattle.body_writing.specs.Blames.{blame_at, row_blame}
use Rattle.std.specs.Prelude.{Err, Ok}
use Rattle.body_writing.proofs.Blaming.{number_here, number_next}
use Rattle.body_writing.proofs.NamedFaults.{by_blame, no_field}
use Rattle.frame.specs.Answers.{of_response}
use Rattle.layout.specs.Names.{blame}
use Rattle.frame.proofs.naming_written.response_name.Goals as goal

pub returns-then-is_fieldless : goal.returns-then-is_fieldless
returns-then-is_fieldless c = c.without_field.ensures ∙ no_field 8 _ _ _ _ (sym c.is_fieldless.ensures ∙ c.if-is_fieldless.true)

pub returns-then-number_fault-e : goal.returns-then-number_fault-e
unfolding row_blame blame_at meant
returns-then-number_fault-e c = c.blamed_by.ensures ∙ by_blame 8 _ _ _ (of_refusal c.args.e) (sym c.is_fieldless.ensures ∙ c.if-is_fieldless.false) none_yet (Err (record { row = nowhere; field = 0 })) (number_here [] _ nowhere 0 none_yet (of_response c.args.header) 0 w32 _ _ c.number_fault.ensures c.if-number_fault-e.true)

pub returns : goal.returns
unfolding row_blame blame_at meant blame
returns c = c.without_field-2.ensures ∙ by_blame 8 _ _ _ (of_refusal c.args.e) (sym c.is_fieldless.ensures ∙ c.if-is_fieldless.false) none_yet (Ok tt) (sym (number_next [] _ nowhere 0 none_yet (of_response c.args.header) 0 w32 _ _ c.number_fault.ensures c.if-number_fault-e.false))
