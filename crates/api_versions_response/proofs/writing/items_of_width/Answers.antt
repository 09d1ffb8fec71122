-- The items fill the front of the output, or have no room in it.
use mathlib.Core.Path.{sym}
use native.Mathlib.Omega.{arith}
use Prim.Native.Nat.{◌/◌}
use lib.ListN.{length}
use lib.Seq.{length-take-le}
use Rattle.body_writing.proofs.Even.{front_all, front_none}
use Rattle.api_versions_response.proofs.Untagged.{told_fits, told_items}
use Rattle.api_versions_response.proofs.writing.items_of_width.Goals as goal

pub overflow_mul-all : goal.overflow_mul-all
overflow_mul-all c = omega (arith, told_fits c.args.flexible c.requires (length c.args.items.now / 4) (omega arith))

pub slice_bounds-untagged_rows-end-then-all-out : goal.slice_bounds-untagged_rows-end-then-all-out
slice_bounds-untagged_rows-end-then-all-out c = sym (length-take-le _ _ c.if-all-out.true)

pub untagged_rows-requires : goal.untagged_rows-requires
untagged_rows-requires c = (c.requires, length-take-le _ _ c.if-all-out.true)

pub returns-then-all-out : goal.returns-then-all-out
returns-then-all-out c = front_all (told_items c.args.flexible c.requires _) c.if-all-out.true c.untagged_rows.ensures

pub returns-else-all-out : goal.returns-else-all-out
returns-else-all-out c = front_none (told_items c.args.flexible c.requires _) c.if-all-out.false
