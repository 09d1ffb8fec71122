-- So many bytes are left, or they end, which is refused at the length's start.
use mathlib.Core.Path.{ap}
use native.Mathlib.Omega.{arith}
use lib.ListN.{length, length-drop}
use Rattle.primitives.proofs.Behind.{data_is, data_short}
use borrow.Author.Rules.{rules}
use Rattle.primitives.proofs.parts.contents.Goals as goal

pub returns-then-left-count : goal.returns-then-left-count
returns-then-left-count c = data_short _ _ _ _ c.rest-left.ensures _ _ c.at.ensures (search rules)

pub overflow_add-result : goal.overflow_add-result
overflow_add-result c = omega (arith, ap length c.rest-left.ensures, length-drop c.args.used c.args.s.now)

pub returns : goal.returns
returns c = data_is _ _ _ _ c.rest-left.ensures _ (search rules)
