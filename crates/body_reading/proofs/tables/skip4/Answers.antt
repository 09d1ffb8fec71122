-- Below the limit four steps are four; at it they are taken one by one.
use mathlib.Core.Path.{◌∙◌, ap}
use Rattle.body_reading.specs.Store.{step}
use Rattle.body_reading.proofs.Stores.{step_4}
use native.Mathlib.Omega.{arith}
use Rattle.body_reading.proofs.tables.skip4.Goals as goal

pub returns-then-mark : goal.returns-then-mark
returns-then-mark c = step_4 _ (omega arith)

pub returns : goal.returns
returns c = c.stepped-4.ensures ∙ ap step (c.stepped-3.ensures ∙ ap step (c.stepped-2.ensures ∙ ap step c.stepped.ensures))
