-- One byte is the flag, or there is none.
use Rattle.primitives.proofs.Cells.{flag_short, flag_is}
use borrow.Author.Rules.{rules}
use mathlib.Core.Path.{refl}
use Rattle.primitives.proofs.numbers.boolean.Goals as goal

pub returns-in-empty : goal.returns-in-empty
returns-in-empty c = flag_short _ _ c.at.ensures (search rules)

pub returns-in-len1-up : goal.returns-in-len1-up
returns-in-len1-up c = flag_is c.args.s.now _ (search rules) refl
