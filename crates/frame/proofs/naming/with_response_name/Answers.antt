-- A number of no field, a place in the size, or what the walk came to.
use mathlib.Core.Path.{◌∙◌, sym}
use native.Mathlib.Omega.{arith}
use Rattle.primitives.specs.Answers.{of_refusal}
use Rattle.names.proofs.Given.{before_fields, by_walk, no_field}
use Rattle.frame.proofs.naming.with_response_name.Goals as goal

pub returns-then-is_fieldless : goal.returns-then-is_fieldless
returns-then-is_fieldless c = c.without_field.ensures ∙ no_field 8 _ _ 4 c.args.frame.now _ (sym c.is_fieldless.ensures ∙ c.if-is_fieldless.true)

pub returns-then-e-lt-SIZE : goal.returns-then-e-lt-SIZE
returns-then-e-lt-SIZE c = c.without_field-then-e-lt-SIZE.ensures ∙ before_fields 8 _ _ 4 c.args.frame.now (of_refusal c.args.e) (sym c.is_fieldless.ensures ∙ c.if-is_fieldless.false) (omega arith)

pub returns : goal.returns
returns c = c.named_by.ensures ∙ by_walk 8 _ _ 4 _ (of_refusal c.args.e) (sym c.is_fieldless.ensures ∙ c.if-is_fieldless.false) (omega arith) c.response.new.begun c.response.result c.response.ensures
