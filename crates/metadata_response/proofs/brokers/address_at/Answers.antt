-- Three fields, one after the other.
use mathlib.Core.Path.{◌∙◌}
use Rattle.primitives.proofs.Up.{up}
use Rattle.metadata_response.specs.Brokers.{of_address}
use Rattle.metadata_response.proofs.BrokerRows.{address_took, host_no, node_no, port_no}
use Rattle.metadata_response.proofs.brokers.address_at.Goals as goal

pub returns-in_err-node : goal.returns-in_err-node
returns-in_err-node c = up of_address _ _ c.from_residual.ensures ∙ node_no _ _ _ c.in_err-node.ensures

pub returns-in_err-host : goal.returns-in_err-host
returns-in_err-host c = up of_address _ _ c.from_residual-in_err-host.ensures ∙ host_no _ _ _ _ c.in_ok-node.ensures _ c.in_err-host.ensures

pub returns-in_err-port : goal.returns-in_err-port
returns-in_err-port c = up of_address _ _ c.from_residual-in_err-port.ensures ∙ port_no _ _ _ _ c.in_ok-node.ensures _ _ _ c.in_ok-host.ensures _ c.in_err-port.ensures

pub returns : goal.returns
returns c = address_took _ _ _ _ c.in_ok-node.ensures _ _ _ c.in_ok-host.ensures _ _ c.in_ok-port.ensures
