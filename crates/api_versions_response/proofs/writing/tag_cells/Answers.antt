-- A version that lacks tags takes none.
use Rattle.api_versions_response.proofs.ItemsWritten.{cells_lacking, cells_there}
use Rattle.api_versions_response.proofs.writing.tag_cells.Goals as goal

pub returns-then-flexible : goal.returns-then-flexible
returns-then-flexible c = cells_there _ _ c.if-flexible.true c.rows_told.ensures

pub returns : goal.returns
returns c = cells_lacking _ _ c.if-flexible.false
