-- A number of no field, or what the walk came to.
use mathlib.Core.Path.{◌∙◌, sym}
use native.Mathlib.Omega.{arith}
use Rattle.primitives.specs.Answers.{of_refusal}
use Rattle.body_writing.proofs.NamedFaults.{by_blame, no_field}
use Rattle.metadata_request.proofs.Blamed.{names_blame}
use Rattle.metadata_request.proofs.naming.with_name.Goals as goal

pub returns-then-is_fieldless : goal.returns-then-is_fieldless
returns-then-is_fieldless c = c.without_field.ensures ∙ no_field 3 _ _ _ _ (sym c.is_fieldless.ensures ∙ c.if-is_fieldless.true)

pub returns : goal.returns
returns c = c.blamed_by.ensures ∙ by_blame 3 _ _ _ (of_refusal c.args.e) (sym c.is_fieldless.ensures ∙ c.if-is_fieldless.false) _ c.names.result (c.names.ensures ∙ names_blame _ _ c.requires _ (omega arith) _)
