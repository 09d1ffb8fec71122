-- A number of no field, or what the walk came to.
use mathlib.Core.Path.{◌∙◌, sym}
use Rattle.layout.specs.Answers.{meant}
use Rattle.primitives.specs.Answers.{of_refusal}
use Rattle.body_writing.specs.Blames.{blame_at}
use Rattle.body_writing.proofs.NamedFaults.{by_blame, no_field}
use Rattle.fetch_request.proofs.naming.with_name.Goals as goal

pub returns-then-is_fieldless : goal.returns-then-is_fieldless
returns-then-is_fieldless c = c.without_field.ensures ∙ no_field 5 _ _ _ _ (sym c.is_fieldless.ensures ∙ c.if-is_fieldless.true)

pub body-requires : goal.body-requires
body-requires c = (c.requires.some, c.requires.enough (sym c.is_fieldless.ensures ∙ c.if-is_fieldless.false))

pub returns : goal.returns
unfolding blame_at meant
returns c = c.blamed_by.ensures ∙ by_blame 5 _ _ _ (of_refusal c.args.e) (sym c.is_fieldless.ensures ∙ c.if-is_fieldless.false) _ c.body.result c.body.ensures
