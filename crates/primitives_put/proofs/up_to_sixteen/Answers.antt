-- The last part stands behind what it leaves of the first.
use mathlib.Core.Path.{refl}
use Rattle.primitives_put.proofs.Parts.{last_part}
use Rattle.primitives_put.proofs.Stored.{put_none}
use Rattle.primitives_put.proofs.up_to_sixteen.Goals as goal

pub returns-then-n-out : goal.returns-then-n-out
returns-then-n-out c = last_part 8 _ _ c.requires.0 c.if-n-out.true c.eight.ensures 8 c.requires.0 c.requires.1 c.eight-then-n-out.ensures

pub returns-else-n-out : goal.returns-else-n-out
returns-else-n-out c = put_none _ _ _ refl c.if-n-out.false
