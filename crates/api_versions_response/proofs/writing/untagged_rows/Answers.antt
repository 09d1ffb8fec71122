use native.Mathlib.Omega.{arith}
use mathlib.Core.List.{[]}
use lib.ListN.{get_or}
use Rattle.layout.specs.Tables.{rows_of}
use Rattle.body_writing.proofs.Even.{even_end, even_inside, even_left, even_more, even_start}
use Rattle.api_versions_response.proofs.Untagged.{told_some, told_wide}
use Rattle.api_versions_response.proofs.writing.untagged_rows.Goals as goal

pub loop-out-init : goal.loop-out-init
loop-out-init c = even_start

pub overflow_sub-out : goal.overflow_sub-out
overflow_sub-out c = even_inside c.requires.1 c.loop-out.invariant

pub slice_bounds-untagged_item-count : goal.slice_bounds-untagged_item-count
slice_bounds-untagged_item-count c = even_inside c.requires.1 c.loop-out.invariant

pub slice_bounds-untagged_item-start : goal.slice_bounds-untagged_item-start
slice_bounds-untagged_item-start c = even_inside c.requires.1 c.loop-out.invariant

pub untagged_item-requires : goal.untagged_item-requires
untagged_item-requires c = even_left c.requires.1 c.loop-out.invariant (told_some c.args.flexible c.requires.0) c.loop-out-test.true

pub overflow_add-p : goal.overflow_add-p
overflow_add-p c = omega (arith, even_inside c.requires.1 c.loop-out.invariant, c.loop-out-test.true)

pub loop-out-smaller : goal.loop-out-smaller
loop-out-smaller c = omega (arith, even_inside c.requires.1 c.loop-out.invariant, c.loop-out-test.true, c.loop-out.invariant.walked.step.long, told_some c.args.flexible c.requires.0)

pub loop-out-preserved : goal.loop-out-preserved
loop-out-preserved c = even_more c.requires.1 c.loop-out.invariant (told_some c.args.flexible c.requires.0) c.loop-out-test.true (told_wide c.args.flexible c.requires.0 (get_or (rows_of 4 c.args.items.now) c.loop-out.i [])) c.untagged_item.ensures

pub returns : goal.returns
returns c = even_end c.requires.1 c.loop-out.invariant c.loop-out-test.false
