-- Every number below -1 is refused.
use native.Mathlib.Omega.{arith}
use Rattle.metadata_response.proofs.There.{count_below}
use borrow.Author.Rules.{rules}
use Rattle.metadata_response.proofs.numbers.count_at.Goals as goal

pub returns : goal.returns
returns c = count_below _ _ c.type_inv.s (omega arith) _ c.int32_there-cell.ensures (omega arith) (search rules) _ c.at-2.ensures
