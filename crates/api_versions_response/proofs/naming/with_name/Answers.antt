-- A number of no field, or what the walk came to.
use mathlib.Core.Path.{◌∙◌, sym}
use native.Mathlib.Omega.{arith}
use Rattle.primitives.specs.Answers.{of_refusal}
use Rattle.names.proofs.Given.{by_walk, no_field}
use Rattle.api_versions_response.proofs.naming.with_name.Goals as goal

pub returns-then-is_fieldless : goal.returns-then-is_fieldless
returns-then-is_fieldless c = c.without_field.ensures ∙ no_field 2 _ _ 0 _ _ (sym c.is_fieldless.ensures ∙ c.if-is_fieldless.true)

pub returns : goal.returns
returns c = c.named_by.ensures ∙ by_walk 2 _ _ 0 _ (of_refusal c.args.e) (sym c.is_fieldless.ensures ∙ c.if-is_fieldless.false) (omega arith) c.body.new.begun c.body.result c.body.ensures
