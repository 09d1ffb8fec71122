-- Before each turn the rows left decide.
use mathlib.Core.Path.{◌≡◌}
use Rattle.layout.specs.Tables.{all, rows_of}
use Rattle.fetch_request.proofs.Judgement.{clean}
use Rattle.fetch_request.proofs.judge.all_fit.Given as goal

abbrev pub invariant-loop-row : goal.invariant-loop-row
invariant-loop-row l = (all clean (rows_of 3 l.row-iterator.rest.now) ≡ all clean (rows_of 3 l.partitions)) × (l.row-iterator.size ≡ 3)
