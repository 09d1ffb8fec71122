-- Before each turn no name so far has a fault, and those left decide.
use Rattle.metadata_request.specs.Shapes.{name_shape}
use Rattle.body_writing.specs.Writes.{row_fault}
use Rattle.body_writing.proofs.Turns.{Clean}
use Rattle.metadata_request.proofs.judge.names_fault.Given as goal

abbrev pub invariant-loop-i : goal.invariant-loop-i
invariant-loop-i l = Clean (row_fault l.lent name_shape) 2 l.topics l.i
