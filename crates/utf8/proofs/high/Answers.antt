use borrow.Author.Rules.{rules}
use mathlib.Core.Path.{sym}
use Rattle.utf8.proofs.Lines.{high_4, high_8, high_other}
use Rattle.utf8.proofs.high.Goals as goal

pub returns-in-4 : goal.returns-in-4
returns-in-4 c = sym (high_4 _ c.in-4.is)

pub returns-in-8 : goal.returns-in-8
returns-in-8 c = sym (high_8 _ c.in-8.is)

pub returns-in_default : goal.returns-in_default
returns-in_default c = sym (high_other _ c.requires.0 c.requires.1 (search rules) (search rules))
