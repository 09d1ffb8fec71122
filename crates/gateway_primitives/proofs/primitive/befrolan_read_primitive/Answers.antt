-- The numbers of what the read by kind answers.
use mathlib.Core.Path.{◌∙◌, ap}
use Rattle.gateway_primitives.specs.Replies.{primitive_numbers}
use Rattle.gateway_primitives.proofs.primitive.befrolan_read_primitive.Goals as goal

pub returns : goal.returns
returns c = c.reply.ensures ∙ ap primitive_numbers c.primitive.ensures
