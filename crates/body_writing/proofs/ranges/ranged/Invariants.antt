-- Before each turn the rows left decide.
use mathlib.Core.Path.{◌≡◌}
use Rattle.layout.specs.Tables.{all, rows_of}
use Rattle.body_writing.specs.Asked.{ranged}
use Rattle.body_writing.proofs.ranges.ranged.Given as goal

abbrev pub invariant-loop-row : goal.invariant-loop-row
invariant-loop-row l = (all (ranged l.at l.size) (rows_of l.width l.row-iterator.rest.now) ≡ all (ranged l.at l.size) (rows_of l.width l.table)) × (l.row-iterator.size ≡ l.width)
