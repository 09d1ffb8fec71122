-- The throttle time and the number of topics, and the topics.
use mathlib.Core.Path.{◌∙◌}
use Rattle.primitives.proofs.Up.{up}
use Rattle.fetch_response.specs.Walks.{of_walked}
use Rattle.fetch_response.proofs.Whole.{body_took, no_front, no_topics}
use Rattle.fetch_response.proofs.body.body_at.Goals as goal

pub returns-in_err-front : goal.returns-in_err-front
returns-in_err-front c = up (of_walked _ _ _) _ _ c.from_residual.ensures ∙ no_front _ _ _ _ _ _ c.in_err-front.ensures

pub returns-in_err-filled : goal.returns-in_err-filled
returns-in_err-filled c = up (of_walked _ _ _) _ _ c.from_residual-in_err-filled.ensures ∙ no_topics _ _ _ _ _ _ c.in_ok-front.ensures _ c.in_err-filled.ensures

pub returns : goal.returns
returns c = body_took _ _ _ _ _ _ c.in_ok-front.ensures _ _ _ _ c.in_ok-filled.ensures
