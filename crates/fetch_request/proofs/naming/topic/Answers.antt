-- The name comes before the partitions.
use native.Mathlib.Omega.{arith}
use lib.ListN.{length-take}
use Rattle.fetch_request.proofs.Blamed.{in_name, in_partitions_lem}
use Rattle.fetch_request.proofs.naming.topic.Goals as goal

pub returns-then-string_fault-e : goal.returns-then-string_fault-e
returns-then-string_fault-e c = in_name _ _ c.requires.0 _ _ c.requires.2 _ _ _ c.part.ensures _ c.string_fault.ensures c.if-string_fault-e.true

pub slice_bounds-all_partitions-end : goal.slice_bounds-all_partitions-end
slice_bounds-all_partitions-end c = omega (arith, length-take c.cells-k.result c.args.partitions.now, c.requires.2, c.cells-k.ensures)

pub returns : goal.returns
returns c = in_partitions_lem _ _ c.requires.0 _ _ c.requires.2 _ _ _ c.part.ensures _ c.string_fault.ensures c.if-string_fault-e.false _ c.cells-k.ensures _ c.all_partitions.ensures
