-- 0 is false, any other number true.
use Rattle.primitives.proofs.Versions.{is_set_lem}
use Rattle.primitives.proofs.is_set.Goals as goal

pub returns : goal.returns
returns c = is_set_lem c.args.n
