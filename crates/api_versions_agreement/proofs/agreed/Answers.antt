-- The range found is that of the key's first row, and each cell is shown as the number that it stands for.
use Rattle.api_versions_agreement.proofs.FirstRow.{row_listed, row_unlisted}
use borrow.Author.Rules.{rules}
use Rattle.api_versions_agreement.proofs.agreed.Goals as goal

pub returns-in-Some : goal.returns-in-Some
returns-in-Some c = row_listed _ _ _ _ _ c.range_of.ensures c.signed.result c.signed.ensures (search rules) _ _ c.in-Some.is c.highest_common.ensures c.signed-in-Some.result c.signed-in-Some-2.result c.signed-in-Some.ensures c.signed-in-Some-2.ensures (search rules) (search rules)

pub returns-in-None : goal.returns-in-None
returns-in-None c = row_unlisted _ _ _ _ _ c.range_of.ensures c.signed-in-None.result c.signed-in-None.ensures (search rules) c.in-None.is
