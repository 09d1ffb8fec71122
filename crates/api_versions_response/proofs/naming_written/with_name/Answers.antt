-- A number of no field, or what the walk came to.
use mathlib.Core.Path.{◌∙◌, sym}
use native.Mathlib.Omega.{arith}
use Rattle.primitives.specs.Answers.{of_refusal}
use Rattle.body_writing.proofs.NamedFaults.{no_field}
use Rattle.api_versions_response.proofs.NamedWritten.{by_parts}
use Rattle.api_versions_response.proofs.naming_written.with_name.Goals as goal

pub returns-then-is_fieldless : goal.returns-then-is_fieldless
returns-then-is_fieldless c = c.without_field.ensures ∙ no_field 2 _ _ _ _ (sym c.is_fieldless.ensures ∙ c.if-is_fieldless.true)

pub returns : goal.returns
returns c = c.blamed_by.ensures ∙ by_parts (of_refusal c.args.e) c.requires _ _ _ _ (omega arith) (sym c.is_fieldless.ensures ∙ c.if-is_fieldless.false) _ c.body.result c.body.ensures
