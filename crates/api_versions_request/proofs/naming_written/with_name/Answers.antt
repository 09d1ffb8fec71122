-- A number of no field, or what the walk came to.
use mathlib.Core.Path.{◌∙◌, sym}
use Rattle.layout.specs.Answers.{meant, none_yet}
use Rattle.primitives.specs.Answers.{of_refusal}
use Rattle.body_writing.specs.Blames.{blame_at, row_blame}
use Rattle.body_writing.proofs.NamedFaults.{by_blame, no_field}
use Rattle.api_versions_request.proofs.naming_written.with_name.Goals as goal

pub returns-then-is_fieldless : goal.returns-then-is_fieldless
returns-then-is_fieldless c = c.without_field.ensures ∙ no_field 1 _ _ _ _ (sym c.is_fieldless.ensures ∙ c.if-is_fieldless.true)

pub returns : goal.returns
unfolding row_blame blame_at meant
returns c = c.blamed_by.ensures ∙ by_blame 1 _ _ _ (of_refusal c.args.e) (sym c.is_fieldless.ensures ∙ c.if-is_fieldless.false) none_yet c.texts.result c.texts.ensures
