-- What is behind the items goes to the rest; the body's own tags are the last rows.
use native.Mathlib.Omega.{arith}
use mathlib.Core.Path.{refl}
use Rattle.api_versions_response.proofs.Whole.{rest_put}
use Rattle.api_versions_response.proofs.writing.rest.Goals as goal

pub returns : goal.returns
returns c = rest_put _ c.behind-p.ensures _ c.add.ensures c.args.throttle c.args.flexible c.args.lent.now c.args.n c.args.own c.args.items.now c.args.tags.now (omega arith) (omega arith) c.requires c.rows_told.ensures _ refl c.array-a.ensures c.end-b.ensures
