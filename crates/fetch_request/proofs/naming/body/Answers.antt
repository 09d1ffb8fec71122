-- The numbers come before the topics.
use mathlib.Core.Path.{◌∙◌}
use native.Mathlib.Omega.{arith}
use Rattle.primitives.proofs.Up.{up}
use Rattle.body_writing.specs.Blames.{of_blamed}
use Rattle.fetch_request.proofs.Blamed.{in_numbers, in_topics_lem}
use Rattle.fetch_request.proofs.naming.body.Goals as goal

pub returns-in_err-numbers : goal.returns-in_err-numbers
returns-in_err-numbers c = up (of_blamed _) _ _ c.from_residual.ensures ∙ in_numbers _ _ c.requires.0 _ _ _ _ _ _ (omega arith) _ _ _ _ _ _ c.numbers.ensures _ c.in_err-numbers.was

pub returns : goal.returns
returns c = in_topics_lem _ _ c.requires.0 _ _ _ _ _ _ (omega arith) _ _ _ _ _ _ c.numbers.ensures _ c.in_ok-numbers.was _ c.all_topics.ensures
