-- The item's tags go to the rest behind its three numbers.
use lib.Seq.{length-take-le}
use mathlib.Core.Path.{sym}
use native.Mathlib.Omega.{arith}
use lib.ListN.{get_or}
use Rattle.api_versions_response.proofs.ItemsWritten.{cells_most, item_put}
use Rattle.api_versions_response.proofs.writing.item.Goals as goal

pub slice_bounds-tags_part-end-2 : goal.slice_bounds-tags_part-end-2
slice_bounds-tags_part-end-2 c = sym (length-take-le _ _ (omega (arith, c.tag_cells-k.ensures, cells_most c.args.flexible (get_or c.args.items.now 3 0), c.requires.1)))

pub returns : goal.returns
returns c = item_put _ c.behind-p.ensures _ c.add.ensures c.args.flexible c.args.lent.now c.args.items.now c.args.tags.now c.requires.1 _ c.tag_cells-k.ensures c.key-a.ensures c.tags_part-b.ensures
