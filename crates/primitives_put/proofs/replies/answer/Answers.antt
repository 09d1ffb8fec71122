use Rattle.primitives_put.proofs.Answered.{told_all, told_none}
use Rattle.primitives_put.proofs.replies.answer.Goals as goal

pub returns-then-n-room : goal.returns-then-n-room
returns-then-n-room c = told_all _ _ c.if-n-room.true

pub returns : goal.returns
returns c = told_none _ _ _ c.no_room.ensures c.if-n-room.false
