-- Read where the version has it: then null is one value of it, and absent is none.
use Rattle.body_reading.proofs.Alone.{text_lacks, text_there}
use Rattle.body_reading.proofs.versioned.nullable_string_if.Goals as goal

pub returns-then-not-there : goal.returns-then-not-there
returns-then-not-there c = text_lacks _ _ _ c.if-not-there.true

pub returns : goal.returns
returns c = text_there _ _ _ c.if-not-there.false c.nullable_string_at.result c.nullable_string_at.ensures
