use Rattle.primitives_put.proofs.Stored.{put_flag}
use Rattle.primitives_put.proofs.boolean.Goals as goal

pub returns : goal.returns
returns c = put_flag _ _ _ _ c.lowest.ensures
