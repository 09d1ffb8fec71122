use Prim.Native.Nat.{◌-◌}
use Rattle.body_writing.specs.Writes.{rows_fault}
use Rattle.body_writing.proofs.Turns.{clean_end, clean_more, clean_start, clean_stop}
use Rattle.metadata_request.proofs.judge.names_fault.Goals as goal

pub loop-i-init : goal.loop-i-init
loop-i-init c = clean_start _ _ _

pub returns-then-e-ne0 : goal.returns-then-e-ne0
unfolding rows_fault
returns-then-e-ne0 c = clean_stop _ _ _ _ c.loop-i.invariant c.loop-i-test.true _ c.name_fault-e.ensures c.if-e-ne0.true

pub loop-i-preserved : goal.loop-i-preserved
loop-i-preserved c = clean_more _ _ _ _ c.loop-i.invariant c.loop-i-test.true _ c.name_fault-e.ensures c.if-e-ne0.false

pub returns : goal.returns
unfolding rows_fault
returns c = clean_end _ _ _ _ c.loop-i.invariant c.loop-i-test.false
