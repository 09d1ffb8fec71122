-- The three rows are the definition's, with the ranges of the three APIs.
use Rattle.api_versions_agreement.proofs.FirstRow.{three_rows}
use Rattle.api_versions_agreement.proofs.agree.Goals as goal

pub returns : goal.returns
returns c = three_rows _ _ _ _ c.agreed.ensures c.agreed-2.ensures c.agreed-3.ensures
