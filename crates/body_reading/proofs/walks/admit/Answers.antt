-- The version first, then the size.
use Rattle.body_reading.proofs.Admission.{admits, no_size, no_version}
use Rattle.body_reading.proofs.walks.admit.Goals as goal

pub returns-then-last-v : goal.returns-then-last-v
returns-then-last-v c = no_version _ c.ranges.version _ _ _ c.version_of-v.ensures _ c.if-last-v.true c.at.ensures

pub returns-then-size-gt-MOST : goal.returns-then-size-gt-MOST
returns-then-size-gt-MOST c = no_size _ c.ranges.version _ _ _ c.version_of-v.ensures _ c.if-last-v.false c.if-size-gt-MOST.true c.at-then-size-gt-MOST.ensures

pub returns : goal.returns
returns c = admits _ c.ranges.version _ _ _ c.version_of-v.ensures c.if-last-v.false c.if-size-gt-MOST.false
