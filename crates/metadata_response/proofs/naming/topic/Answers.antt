-- Error and name are those of every version; then the version decides.
use mathlib.Core.Path.{◌∙◌, refl}
use Rattle.primitives.proofs.Up.{up}
use Rattle.names.specs.Walks.{of_sought}
use Rattle.names.proofs.Ways.{field_goes, field_out}
use Rattle.metadata_response.proofs.Sought.{in_title, with_flag, without_flag}
use Rattle.metadata_response.proofs.naming.topic.Goals as goal

pub returns-in_err-p : goal.returns-in_err-p
returns-in_err-p c = up (of_sought _) _ _ c.from_residual.ensures ∙ in_title _ _ _ _ _ _ _ (λ l. field_out _ _ _ _ _ _ _ _ _ c.int16.ensures _ c.in_err-p.ensures.value _ refl)

pub returns-in_err-p-2 : goal.returns-in_err-p-2
returns-in_err-p-2 c = up (of_sought _) _ _ c.from_residual-in_err-p-2.ensures ∙ in_title _ _ _ _ _ _ _ (λ l. field_goes _ _ _ _ _ _ _ _ _ c.int16.ensures _ c.in_ok-p.ensures.ok_part _ (field_out _ _ _ _ _ _ _ _ _ c.string.ensures _ c.in_err-p-2.ensures.value _ refl))

pub returns-then-not-internal : goal.returns-then-not-internal
returns-then-not-internal c = without_flag _ _ _ _ _ _ _ c.if-not-internal.true (field_goes _ _ _ _ _ _ _ _ _ c.int16.ensures _ c.in_ok-p.ensures.ok_part _ (field_goes _ _ _ _ _ _ _ _ _ c.string.ensures _ c.in_ok-p-2.ensures.ok_part _ c.partition_array.ensures))

pub returns-in_err-p-3 : goal.returns-in_err-p-3
returns-in_err-p-3 c = up (of_sought _) _ _ c.from_residual-in_err-p-3.ensures ∙ with_flag _ _ _ _ _ _ _ c.if-not-internal.false (field_goes _ _ _ _ _ _ _ _ _ c.int16.ensures _ c.in_ok-p.ensures.ok_part _ (field_goes _ _ _ _ _ _ _ _ _ c.string.ensures _ c.in_ok-p-2.ensures.ok_part _ (field_out _ _ _ _ _ _ _ _ _ c.flag.ensures _ c.in_err-p-3.ensures.value _ refl)))

pub returns : goal.returns
returns c = with_flag _ _ _ _ _ _ _ c.if-not-internal.false (field_goes _ _ _ _ _ _ _ _ _ c.int16.ensures _ c.in_ok-p.ensures.ok_part _ (field_goes _ _ _ _ _ _ _ _ _ c.string.ensures _ c.in_ok-p-2.ensures.ok_part _ (field_goes _ _ _ _ _ _ _ _ _ c.flag.ensures _ c.in_ok-p-3.ensures.ok_part _ c.partition_array-2.ensures)))
