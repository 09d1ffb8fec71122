-- A broker is read, and then stored at once.
use Rattle.metadata_response.specs.Brokers.{filled_is}
use Rattle.metadata_response.proofs.BrokerRows.{row_no, row_took}
use Rattle.body_reading.proofs.Turns.{runs_up}
use Rattle.metadata_response.proofs.brokers.broker_at.Goals as goal

pub returns-in_err-row : goal.returns-in_err-row
returns-in_err-row c = runs_up (filled_is _) _ _ c.from_residual.ensures (row_no _ _ _ _ _ _ c.in_err-row.ensures)

pub returns : goal.returns
returns c = row_took _ _ _ _ _ c.in_ok-row.row.value _ c.in_ok-row.ensures _ _ c.store_broker-after.ensures
