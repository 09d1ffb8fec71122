use native.Mathlib.Omega.{arith}
use lib.ListN.{get_or}
use Rattle.api_versions_response.proofs.ItemsWritten.{cells_most, going_end, going_enough, going_more, going_start}
use Rattle.api_versions_response.proofs.writing.all_items.Goals as goal

pub loop-left-init : goal.loop-left-init
loop-left-init c = going_start _ c.args.flexible _ _ _ c.requires

pub item-more-requires : goal.item-more-requires
item-more-requires c = (c.loop-left-test.true, going_enough _ c.args.flexible _ _ c.loop-left.invariant c.loop-left-test.true)

pub tag_cells-k-requires : goal.tag_cells-k-requires
tag_cells-k-requires c = omega (arith, going_enough _ c.args.flexible _ _ c.loop-left.invariant c.loop-left-test.true)

pub offset_bounds-free-k : goal.offset_bounds-free-k
offset_bounds-free-k c = omega (arith, c.tag_cells-k.ensures, cells_most c.args.flexible (get_or c.loop-left.left.now 3 0), going_enough _ c.args.flexible _ _ c.loop-left.invariant c.loop-left-test.true)

pub slice_bounds-free-count : goal.slice_bounds-free-count
slice_bounds-free-count c = omega (arith, c.tag_cells-k.ensures, cells_most c.args.flexible (get_or c.loop-left.left.now 3 0), going_enough _ c.args.flexible _ _ c.loop-left.invariant c.loop-left-test.true)

pub slice_bounds-free-start : goal.slice_bounds-free-start
slice_bounds-free-start c = omega (arith, c.tag_cells-k.ensures, cells_most c.args.flexible (get_or c.loop-left.left.now 3 0), going_enough _ c.args.flexible _ _ c.loop-left.invariant c.loop-left-test.true)

pub loop-left-preserved : goal.loop-left-preserved
loop-left-preserved c = going_more _ c.args.flexible _ _ c.loop-left.invariant c.loop-left-test.true _ c.behind-p.ensures c.item-more.ensures _ c.add-done.ensures _ c.tag_cells-k.ensures

pub returns : goal.returns
returns c = going_end _ c.args.flexible _ _ c.loop-left.invariant c.loop-left-test.false
