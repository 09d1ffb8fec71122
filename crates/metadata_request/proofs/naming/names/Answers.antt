use mathlib.Core.Path.{refl}
use Rattle.body_writing.proofs.Blaming.{only_here, only_past, searched_end, searched_found, searched_more, searched_start}
use borrow.Author.Rules.{rules}
use Rattle.metadata_request.proofs.naming.names.Goals as goal

pub loop-i-init : goal.loop-i-init
loop-i-init c = (searched_start _ _ _ _ _ _ _, refl)

pub returns-then-name_fault-e : goal.returns-then-name_fault-e
returns-then-name_fault-e c = searched_found _ _ _ _ _ _ _ _ _ c.loop-i.invariant.0 c.loop-i-test.true _ c.begin-row.ensures.row _ c.begin-row.ensures.counted _ _ (only_here _ _ _ _ _ _ _ _ c.name_fault.ensures c.if-name_fault-e.true)

pub loop-i-preserved : goal.loop-i-preserved
loop-i-preserved c = (searched_more _ _ _ _ _ _ _ _ _ c.loop-i.invariant.0 c.loop-i-test.true _ c.begin-row.ensures.row _ c.begin-row.ensures.counted (only_past _ _ _ _ _ _ _ _ c.name_fault.ensures c.if-name_fault-e.false), search rules)

pub returns : goal.returns
returns c = searched_end _ _ _ _ _ _ _ _ _ c.loop-i.invariant.0 c.loop-i-test.false
