use native.Mathlib.Omega.{arith}
use mathlib.Core.Path.{sym}
use Rattle.utf8.proofs.Lines.{low_2, low_6, low_other}
use Rattle.utf8.proofs.low.Goals as goal

pub returns-in-2 : goal.returns-in-2
returns-in-2 c = sym (low_2 _ c.in-2.is)

pub returns-in-6 : goal.returns-in-6
returns-in-6 c = sym (low_6 _ c.in-6.is)

pub returns-in_default : goal.returns-in_default
returns-in_default c = sym (low_other _ c.requires.0 c.requires.1 (λ e. omega (arith, e)) (λ e. omega (arith, e)))
