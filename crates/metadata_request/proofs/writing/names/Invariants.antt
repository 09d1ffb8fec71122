-- Before each turn the first i names stand there.
use Rattle.metadata_request.specs.Shapes.{name_shape}
use Rattle.body_writing.specs.Writes.{row_bytes}
use Rattle.body_writing.proofs.Turns.{Walked}
use Rattle.metadata_request.proofs.writing.names.Given as goal

abbrev pub invariant-loop-i : goal.invariant-loop-i
invariant-loop-i l = Walked (row_bytes l.lent name_shape) 2 l.topics l.initial.out l.i l.done l.out
