-- The name comes before the partitions.
use native.Mathlib.Omega.{arith}
use lib.ListN.{length-take}
use Rattle.body_writing.proofs.Faults.{unless_bad, unless_none}
use Rattle.fetch_request.proofs.Judgement.{topic_name, topic_partitions}
use Rattle.fetch_request.proofs.judge.topic_fault.Goals as goal

pub returns-then-e-ne0 : goal.returns-then-e-ne0
returns-then-e-ne0 c = topic_name _ _ _ c.requires.1 _ c.part.ensures _ c.string_fault-e.ensures c.if-e-ne0.true

pub cells-k-requires : goal.cells-k-requires
cells-k-requires c = (c.requires.0, omega (arith, c.requires.1))

pub slice_bounds-partitions_fit-end : goal.slice_bounds-partitions_fit-end
slice_bounds-partitions_fit-end c = omega (arith, length-take c.cells-k.result c.args.partitions.now, c.requires.1, c.cells-k.ensures)

pub returns-then-not-partitions_fit : goal.returns-then-not-partitions_fit
returns-then-not-partitions_fit c = unless_bad _ _ _ (topic_partitions _ _ _ c.requires.1 _ c.part.ensures _ c.string_fault-e.ensures c.if-e-ne0.false _ c.cells-k.ensures _ c.partitions_fit.ensures) c.if-not-partitions_fit.true

pub returns : goal.returns
returns c = unless_none _ 11 _ (topic_partitions _ _ _ c.requires.1 _ c.part.ensures _ c.string_fault-e.ensures c.if-e-ne0.false _ c.cells-k.ensures _ c.partitions_fit.ensures) c.if-not-partitions_fit.false
