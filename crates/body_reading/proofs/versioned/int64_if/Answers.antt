-- Read where the version has it.
use Rattle.body_reading.proofs.Alone.{int64_lacks, int64_there}
use Rattle.body_reading.proofs.versioned.int64_if.Goals as goal

pub returns-then-not-there : goal.returns-then-not-there
returns-then-not-there c = int64_lacks _ _ _ c.if-not-there.true

pub returns : goal.returns
returns c = int64_there _ _ _ c.if-not-there.false c.int64_at.result c.int64_at.ensures
