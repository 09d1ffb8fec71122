-- The numbers are there, so the row is theirs; without room any row leaves the table as it is.
use Rattle.api_versions_response.proofs.BareRows.{bare_never, bare_out, bare_stored}
use Rattle.api_versions_response.proofs.items.bare_in.Goals as goal

pub returns-then-items-row : goal.returns-then-items-row
returns-then-items-row c = bare_out _ _ c.requires _ _ _ c.skip4.ensures c.if-items-row.true

pub returns-in-Ok : goal.returns-in-Ok
returns-in-Ok c = bare_stored _ _ c.requires _ _ _ _ c.in-Ok.ensures _ _ _ _ c.store_row.ensures

pub returns-in-Err : goal.returns-in-Err
returns-in-Err c = bare_never _ _ c.requires _ c.in-Err.ensures
