use native.Mathlib.Omega.{arith}
use lib.Dec.{lit<}
use Rattle.body_writing.specs.Writes.{rows_bytes}
use Rattle.body_writing.proofs.Even.{even_end, even_inside, even_left, even_more, even_start}
use Rattle.fetch_request.proofs.Walk.{first_row_lem, last_row, partition_wide, second_left, second_room}
use Rattle.fetch_request.proofs.writing.rows.Goals as goal

pub loop-out-init : goal.loop-out-init
loop-out-init c = even_start

pub overflow_sub-out : goal.overflow_sub-out
overflow_sub-out c = even_inside c.requires c.loop-out.invariant

pub slice_bounds-partition-count : goal.slice_bounds-partition-count
slice_bounds-partition-count c = even_inside c.requires c.loop-out.invariant

pub partition-requires : goal.partition-requires
partition-requires c = even_left c.requires c.loop-out.invariant (lit< tt) (omega (arith, c.loop-out-test.true))

pub slice_bounds-partition-count-in-loop-out : goal.slice_bounds-partition-count-in-loop-out
slice_bounds-partition-count-in-loop-out c = even_inside c.requires (first_row_lem c.requires c.loop-out.invariant c.partition.ensures c.loop-out-test.true)

pub partition-requires-in-loop-out : goal.partition-requires-in-loop-out
partition-requires-in-loop-out c = second_left c.requires c.loop-out.invariant c.partition.ensures c.loop-out-test.true

pub loop-out-preserved : goal.loop-out-preserved
loop-out-preserved c = even_more c.requires (first_row_lem c.requires c.loop-out.invariant c.partition.ensures c.loop-out-test.true) (lit< tt) (second_room c.requires c.loop-out.invariant c.partition.ensures c.loop-out-test.true) (partition_wide _) c.partition-in-loop-out.ensures

pub overflow_sub-out-2 : goal.overflow_sub-out-2
overflow_sub-out-2 c = even_inside c.requires c.loop-out.invariant

pub slice_bounds-partition-count-then-out-p-ge16 : goal.slice_bounds-partition-count-then-out-p-ge16
slice_bounds-partition-count-then-out-p-ge16 c = even_inside c.requires c.loop-out.invariant

pub partition-requires-then-out-p-ge16 : goal.partition-requires-then-out-p-ge16
partition-requires-then-out-p-ge16 c = even_left c.requires c.loop-out.invariant (lit< tt) c.if-out-p-ge16.true

pub returns-then-out-p-ge16 : goal.returns-then-out-p-ge16
returns-then-out-p-ge16 c = last_row c.requires c.loop-out.invariant c.partition-then-out-p-ge16.ensures c.if-out-p-ge16.true c.loop-out-test.false

pub returns : goal.returns
unfolding rows_bytes
returns c = even_end c.requires c.loop-out.invariant c.if-out-p-ge16.false
