-- The address, and after it the rack where the version has one.
use mathlib.Core.Path.{◌∙◌}
use Rattle.primitives.proofs.Up.{up}
use Rattle.metadata_response.specs.Brokers.{of_broker_row}
use Rattle.metadata_response.proofs.BrokerRows.{address_no, broker_took, rack_no}
use Rattle.metadata_response.proofs.brokers.broker_row.Goals as goal

pub returns-in_err-address : goal.returns-in_err-address
returns-in_err-address c = up of_broker_row _ _ c.from_residual.ensures ∙ address_no _ _ _ _ c.in_err-address.ensures

pub returns-in_err-rack : goal.returns-in_err-rack
returns-in_err-rack c = up of_broker_row _ _ c.from_residual-in_err-rack.ensures ∙ rack_no _ _ _ _ _ c.in_ok-address.ensures _ c.in_err-rack.ensures

pub returns : goal.returns
returns c = broker_took _ _ _ _ _ c.in_ok-address.ensures _ _ c.in_ok-rack.ensures
