-- Each family reads its kinds, and behind the last there is none.
use native.Mathlib.Omega.{arith}
use Rattle.gateway_primitives.proofs.ByKind.{no_kind}
use Rattle.gateway_primitives.proofs.read_kind.primitive.Goals as goal

pub returns : goal.returns
returns c = no_kind c.args.kind (omega arith) _ _ c.at.ensures
