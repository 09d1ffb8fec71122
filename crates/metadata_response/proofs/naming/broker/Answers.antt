-- Node, host and port are those of every version; then the version decides.
use mathlib.Core.Path.{◌∙◌, refl}
use Rattle.primitives.proofs.Up.{up}
use Rattle.names.specs.Walks.{of_sought}
use Rattle.names.proofs.Ways.{field_goes, field_last, field_out, walk_end}
use Rattle.metadata_response.proofs.Sought.{in_address, with_rack, without_rack}
use Rattle.metadata_response.proofs.naming.broker.Goals as goal

pub returns-in_err-p : goal.returns-in_err-p
returns-in_err-p c = record { law = λ k. up (of_sought _) _ _ c.from_residual.ensures ∙ in_address _ _ _ _ _ _ _ (λ l. field_out _ _ _ _ _ _ _ _ _ c.int32.ensures _ c.in_err-p.ensures.value _ refl) }

pub returns-in_err-p-2 : goal.returns-in_err-p-2
returns-in_err-p-2 c = record { law = λ k. up (of_sought _) _ _ c.from_residual-in_err-p-2.ensures ∙ in_address _ _ _ _ _ _ _ (λ l. field_goes _ _ _ _ _ _ _ _ _ c.int32.ensures _ c.in_ok-p.ensures.ok_part _ (field_out _ _ _ _ _ _ _ _ _ c.string.ensures _ c.in_err-p-2.ensures.value _ refl)) }

pub returns-in_err-p-3 : goal.returns-in_err-p-3
returns-in_err-p-3 c = record { law = λ k. up (of_sought _) _ _ c.from_residual-in_err-p-3.ensures ∙ in_address _ _ _ _ _ _ _ (λ l. field_goes _ _ _ _ _ _ _ _ _ c.int32.ensures _ c.in_ok-p.ensures.ok_part _ (field_goes _ _ _ _ _ _ _ _ _ c.string.ensures _ c.in_ok-p-2.ensures.ok_part _ (field_out _ _ _ _ _ _ _ _ _ c.int32-2.ensures _ c.in_err-p-3.ensures.value _ refl))) }

pub returns-then-not-racked : goal.returns-then-not-racked
returns-then-not-racked c = record { law = λ k. without_rack _ _ _ _ _ _ _ c.if-not-racked.true (field_goes _ _ _ _ _ _ _ _ _ c.int32.ensures _ c.in_ok-p.ensures.ok_part _ (field_goes _ _ _ _ _ _ _ _ _ c.string.ensures _ c.in_ok-p-2.ensures.ok_part _ (field_goes _ _ _ _ _ _ _ _ _ c.int32-2.ensures _ c.in_ok-p-3.ensures.ok_part _ (walk_end _ _ _ k _ _)))) }

pub returns : goal.returns
returns c = record { law = λ k. with_rack _ _ _ _ _ _ _ c.if-not-racked.false (field_goes _ _ _ _ _ _ _ _ _ c.int32.ensures _ c.in_ok-p.ensures.ok_part _ (field_goes _ _ _ _ _ _ _ _ _ c.string.ensures _ c.in_ok-p-2.ensures.ok_part _ (field_goes _ _ _ _ _ _ _ _ _ c.int32-2.ensures _ c.in_ok-p-3.ensures.ok_part _ (field_last _ _ _ _ _ _ _ _ c.nullable_string.ensures _ c.ok_or-4.ensures.value)))) }
