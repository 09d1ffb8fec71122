-- The numbers of what the read promises.
use Rattle.gateway.proofs.Told.{told_by}
use Rattle.gateway_primitives.specs.Replies.{tags_numbers}
use Rattle.gateway_primitives.proofs.tagged.befrolan_read_tagged_fields.Goals as goal

pub returns : goal.returns
returns c = told_by tags_numbers _ _ c.reply.ensures _ _ c.tagged_fields.ensures
