-- The numbers of what the write promises.
use Rattle.gateway.proofs.Told.{told_by}
use Rattle.gateway.specs.Replies.{numbers}
use Rattle.gateway_primitives.proofs.tagged.befrolan_write_tagged_fields.Goals as goal

pub returns : goal.returns
returns c = told_by numbers _ _ c.written.ensures _ _ c.tagged_fields.ensures
