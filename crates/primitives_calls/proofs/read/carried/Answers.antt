-- The cell of the number shows the number.
use Rattle.primitives.proofs.Varint.{carried_took}
use borrow.Author.Rules.{rules}
use Rattle.primitives_calls.proofs.read.carried.Goals as goal

pub returns : goal.returns
returns c = carried_took _ _ _ _ c.in_ok-value.was (search rules) c.unzigzag.ensures
