-- Before each turn the rows left decide, with what is left of the number.
use mathlib.Core.Path.{◌≡◌}
use Rattle.layout.specs.Tables.{rows_of}
use Rattle.body_writing.specs.Asked.{tells}
use Rattle.body_writing.proofs.ranges.do_tell.Given as goal

abbrev pub invariant-loop-row : goal.invariant-loop-row
invariant-loop-row l = (tells l.null l.at l.left (rows_of l.width l.row-iterator.rest.now) ≡ tells l.null l.at l.n (rows_of l.width l.table)) × (l.row-iterator.size ≡ l.width)
