use mathlib.Core.Path.{◌∙◌, refl}
use Rattle.primitives.proofs.Up.{up}
use Rattle.body_writing.specs.Blames.{of_blamed}
use Rattle.body_writing.proofs.Blaming.{flat_found, flat_more, searched_end, searched_start}
use borrow.Author.Rules.{rules}
use Rattle.fetch_request.proofs.naming.all_partitions.Goals as goal

pub loop-i-init : goal.loop-i-init
loop-i-init c = (searched_start _ _ _ _ _ _ _, refl)

pub loop-i-preserved : goal.loop-i-preserved
loop-i-preserved c = (flat_more _ _ _ _ _ _ _ _ _ c.loop-i.invariant.0 c.loop-i-test.true _ c.begin-row.ensures.row _ c.begin-row.ensures.counted tt _ c.partition.ensures _ c.in_ok-partition.was, search rules)

pub returns-in_err-partition : goal.returns-in_err-partition
returns-in_err-partition c = up (of_blamed _) _ _ c.from_residual.ensures ∙ flat_found _ _ _ _ _ _ _ _ _ c.loop-i.invariant.0 c.loop-i-test.true _ c.begin-row.ensures.row _ c.begin-row.ensures.counted tt _ c.partition.ensures _ c.in_err-partition.was

pub returns : goal.returns
returns c = searched_end _ _ _ _ _ _ _ _ _ c.loop-i.invariant.0 c.loop-i-test.false
