-- A number of no field, or what the walk came to.
use mathlib.Core.Path.{◌∙◌, sym}
use Rattle.layout.specs.Answers.{meant, none_yet}
use Rattle.primitives.specs.Answers.{of_refusal}
use Rattle.body_writing.specs.Blames.{blame_at, row_blame}
use Rattle.body_writing.proofs.NamedFaults.{by_blame, no_field}
use Rattle.frame.specs.Walks.{front_shape}
use Rattle.frame.proofs.naming_written.request_name.Goals as goal

pub returns-then-is_fieldless : goal.returns-then-is_fieldless
returns-then-is_fieldless c = c.without_field.ensures ∙ no_field 7 _ _ _ _ (sym c.is_fieldless.ensures ∙ c.if-is_fieldless.true)

pub returns : goal.returns
unfolding front_shape row_blame blame_at meant
returns c = c.blamed_by.ensures ∙ by_blame 7 _ _ _ (of_refusal c.args.e) (sym c.is_fieldless.ensures ∙ c.if-is_fieldless.false) none_yet c.request_field.result c.request_field.ensures
