-- The error, the items and the throttle time, one after the other.
use mathlib.Core.Path.{◌∙◌}
use Rattle.primitives.proofs.Up.{up}
use Rattle.body_writing.specs.Blames.{of_blamed}
use Rattle.api_versions_response.proofs.Blamed.{error_here, items_here, items_past}
use Rattle.api_versions_response.proofs.naming_written.body.Goals as goal

pub returns-then-number_fault-e : goal.returns-then-number_fault-e
returns-then-number_fault-e c = error_here _ _ _ _ _ _ _ c.number_fault.ensures c.if-number_fault-e.true

pub returns-in_err-all_items : goal.returns-in_err-all_items
returns-in_err-all_items c = up (of_blamed _) _ _ c.from_residual.ensures ∙ items_here _ _ _ _ _ _ _ c.number_fault.ensures c.if-number_fault-e.false _ c.all_items.result c.all_items.ensures _ c.in_err-all_items.was

pub returns : goal.returns
returns c = items_past _ _ _ _ _ _ _ c.number_fault.ensures c.if-number_fault-e.false _ c.all_items.result c.all_items.ensures _ c.in_ok-all_items.was c.throttle_time.result c.throttle_time.ensures
