-- The rows that are passed are of other keys, so the first row of the key is among those left, or there is none.
use Rattle.api_versions_agreement.proofs.FirstRow.{Searched}
use Rattle.api_versions_agreement.proofs.range_of.Given as goal

abbrev pub invariant-loop-row : goal.invariant-loop-row
invariant-loop-row l = Searched l.key l.rows l.row-index
