-- The numbers in front are those of every version; then the version decides.
use mathlib.Core.Path.{◌∙◌, refl}
use Rattle.primitives.proofs.Up.{up}
use Rattle.names.specs.Walks.{of_sought}
use Rattle.names.proofs.Ways.{field_goes, field_last, field_out}
use Rattle.fetch_response.proofs.Sought.{in_front, with_stable, without_stable}
use Rattle.fetch_response.proofs.naming.partition.Goals as goal

pub returns-in_err-p : goal.returns-in_err-p
returns-in_err-p c = up (of_sought _) _ _ c.from_residual.ensures ∙ in_front _ _ _ _ _ _ _ (λ l. field_out _ _ _ _ _ _ _ _ _ c.int32.ensures _ c.in_err-p.ensures.value _ refl)

pub returns-in_err-p-2 : goal.returns-in_err-p-2
returns-in_err-p-2 c = up (of_sought _) _ _ c.from_residual-in_err-p-2.ensures ∙ in_front _ _ _ _ _ _ _ (λ l. field_goes _ _ _ _ _ _ _ _ _ c.int32.ensures _ c.in_ok-p.ensures.ok_part _ (field_out _ _ _ _ _ _ _ _ _ c.int16.ensures _ c.in_err-p-2.ensures.value _ refl))

pub returns-in_err-p-3 : goal.returns-in_err-p-3
returns-in_err-p-3 c = up (of_sought _) _ _ c.from_residual-in_err-p-3.ensures ∙ in_front _ _ _ _ _ _ _ (λ l. field_goes _ _ _ _ _ _ _ _ _ c.int32.ensures _ c.in_ok-p.ensures.ok_part _ (field_goes _ _ _ _ _ _ _ _ _ c.int16.ensures _ c.in_ok-p-2.ensures.ok_part _ (field_out _ _ _ _ _ _ _ _ _ c.int64.ensures _ c.in_err-p-3.ensures.value _ refl)))

pub returns-then-stable : goal.returns-then-stable
returns-then-stable c = with_stable _ _ _ _ _ _ _ c.if-stable.true (field_goes _ _ _ _ _ _ _ _ _ c.int32.ensures _ c.in_ok-p.ensures.ok_part _ (field_goes _ _ _ _ _ _ _ _ _ c.int16.ensures _ c.in_ok-p-2.ensures.ok_part _ (field_goes _ _ _ _ _ _ _ _ _ c.int64.ensures _ c.in_ok-p-3.ensures.ok_part _ c.stable_fields.ensures)))

pub returns : goal.returns
returns c = without_stable _ _ _ _ _ _ _ c.if-stable.false (field_goes _ _ _ _ _ _ _ _ _ c.int32.ensures _ c.in_ok-p.ensures.ok_part _ (field_goes _ _ _ _ _ _ _ _ _ c.int16.ensures _ c.in_ok-p-2.ensures.ok_part _ (field_goes _ _ _ _ _ _ _ _ _ c.int64.ensures _ c.in_ok-p-3.ensures.ok_part _ (field_last _ _ _ _ _ _ _ _ c.records.ensures _ c.ok_or-4.ensures.value))))
