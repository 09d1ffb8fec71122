-- The rows fill the front of the output, or have no room in it.
use mathlib.Core.Path.{sym}
use lib.Seq.{length-take-le}
use Rattle.body_writing.proofs.Even.{front_all, front_none}
use Rattle.fetch_request.proofs.Walk.{partitions_wide}
use Rattle.fetch_request.proofs.writing.partitions.Goals as goal

pub slice_bounds-rows-end-then-all-out : goal.slice_bounds-rows-end-then-all-out
slice_bounds-rows-end-then-all-out c = sym (length-take-le _ _ c.if-all-out.true)

pub rows-requires : goal.rows-requires
rows-requires c = length-take-le _ _ c.if-all-out.true

pub returns-then-all-out : goal.returns-then-all-out
returns-then-all-out c = front_all (partitions_wide _) c.if-all-out.true c.rows.ensures

pub returns-else-all-out : goal.returns-else-all-out
returns-else-all-out c = front_none (partitions_wide _) c.if-all-out.false
