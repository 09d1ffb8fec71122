-- The numbers of what the write by kind answers.
use mathlib.Core.Bool.{Bool}
use mathlib.Core.Path.{◌∙◌, ap}
use Rattle.gateway_primitives.specs.Kinds.{write_kind}
use Rattle.gateway.proofs.Told.{told_by}
use Rattle.gateway.specs.Replies.{numbers}
use Rattle.gateway_primitives.proofs.primitive.befrolan_write_primitive.Goals as goal

pub returns : goal.returns
returns c = told_by numbers _ _ c.written.ensures _ _ (c.primitive.ensures ∙ ap (λ (n : Bool). write_kind c.args.kind n c.args.value c.args.content.now c.args.out.now) c.is_set.ensures)
