-- Where bytes are missing, so is a node. Else the nodes fill the table from the mark on, as far as it goes, and the mark after all is known from the start.
use Rattle.metadata_response.proofs.NodeRows.{Filling}
use Rattle.metadata_response.proofs.nodes.nodes_in.Given as goal

abbrev pub invariant-loop-row : goal.invariant-loop-row
invariant-loop-row l = Filling l.s l.count l.p l.initial.table l.mark l.after l.table l.row l.place
