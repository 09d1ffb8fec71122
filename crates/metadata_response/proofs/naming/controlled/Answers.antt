-- The controller, and the topics after it.
use mathlib.Core.Path.{◌∙◌, refl}
use Rattle.primitives.proofs.Up.{up}
use Rattle.names.specs.Walks.{of_sought}
use Rattle.names.proofs.Ways.{field_goes, field_out, next_field}
use Rattle.metadata_response.proofs.naming.controlled.Goals as goal

pub returns-in_err-p : goal.returns-in_err-p
returns-in_err-p c = up (of_sought _) _ _ c.from_residual.ensures ∙ field_out _ _ _ _ _ _ _ _ _ c.int32.ensures _ c.in_err-p.ensures.value _ refl

pub returns : goal.returns
returns c = field_goes _ _ _ _ _ _ _ _ _ c.int32.ensures _ c.in_ok-p.ensures.ok_part _ (next_field _ _ _ _ _ _ _ _ c.topic_array.ensures)
