-- Below version 3 there is no field, and from 3 on two texts and tagged fields.
use mathlib.Core.Path.{◌∙◌, refl}
use native.Mathlib.Omega.{arith}
use Rattle.primitives.proofs.Up.{up}
use Rattle.names.specs.Walks.{of_sought}
use Rattle.names.proofs.Ways.{field_goes, field_out}
use Rattle.api_versions_request.proofs.Sought.{from_three, no_fields}
use Rattle.api_versions_request.proofs.naming.body.Goals as goal

pub returns-then-v-lt3 : goal.returns-then-v-lt3
returns-then-v-lt3 c = no_fields _ _ _ _ c.if-v-lt3.true

pub returns-in_err-p : goal.returns-in_err-p
returns-in_err-p c = up (of_sought _) _ _ c.from_residual.ensures ∙ from_three _ _ _ _ (omega arith) _ (field_out _ _ _ _ _ _ _ _ _ c.compact_string.ensures _ c.in_err-p.ensures.value _ refl)

pub returns-in_err-p-2 : goal.returns-in_err-p-2
returns-in_err-p-2 c = up (of_sought _) _ _ c.from_residual-in_err-p-2.ensures ∙ from_three _ _ _ _ (omega arith) _ (field_goes _ _ _ _ _ _ _ _ _ c.compact_string.ensures _ c.in_ok-p.ensures.ok_part _ (field_out _ _ _ _ _ _ _ _ _ c.compact_string-2.ensures _ c.in_err-p-2.ensures.value _ refl))

pub returns : goal.returns
returns c = from_three _ _ _ _ (omega arith) _ (field_goes _ _ _ _ _ _ _ _ _ c.compact_string.ensures _ c.in_ok-p.ensures.ok_part _ (field_goes _ _ _ _ _ _ _ _ _ c.compact_string-2.ensures _ c.in_ok-p-2.ensures.ok_part _ c.tags_if.ensures))
