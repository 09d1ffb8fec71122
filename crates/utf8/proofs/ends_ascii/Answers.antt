-- The last eight bytes have all that are left, or nothing is told.
use Rattle.utf8.proofs.Steps.{ended_eight, not_ended}
use Rattle.utf8.proofs.ends_ascii.Goals as goal

pub returns-then-s-from : goal.returns-then-s-from
returns-then-s-from c = ended_eight _ _ _ c.requires c.if-s-ge8.true c.if-s-from.true c.is_ascii.ensures

pub returns-else-s-from : goal.returns-else-s-from
returns-else-s-from c = not_ended _

pub returns-else-s-ge8 : goal.returns-else-s-ge8
returns-else-s-ge8 c = not_ended _
