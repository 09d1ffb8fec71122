-- The throttle time and the number of brokers, the brokers, and what stands after them.
use mathlib.Core.Path.{◌∙◌, refl}
use Rattle.primitives.proofs.Up.{up}
use Rattle.metadata_response.specs.Walks.{of_walked}
use Rattle.metadata_response.proofs.Around.{body_is, brokers_bad, no_front, tail_bad}
use Rattle.metadata_response.proofs.body.body_at.Goals as goal

pub returns-in_err-front : goal.returns-in_err-front
returns-in_err-front c = up (of_walked _ _ _ _ _) _ _ c.from_residual.ensures ∙ no_front _ _ _ _ _ _ _ _ c.in_err-front.ensures

pub returns-in_err-rows : goal.returns-in_err-rows
returns-in_err-rows c = up (of_walked _ _ _ _ _) _ _ c.from_residual-in_err-rows.ensures ∙ brokers_bad _ _ _ _ _ _ _ c.in_ok-front.front.throttle _ _ c.in_ok-front.ensures _ c.in_err-rows.ensures

pub returns-in_err-tail : goal.returns-in_err-tail
returns-in_err-tail c = up (of_walked _ _ _ _ _) _ _ c.from_residual-in_err-tail.ensures ∙ tail_bad _ _ _ _ _ _ _ c.in_ok-front.front.throttle _ _ c.in_ok-front.ensures _ c.in_ok-rows.rows c.in_ok-rows.ensures _ c.in_err-tail.ensures _ (λ e. refl)

pub returns : goal.returns
returns c = body_is _ _ _ _ _ _ _ c.in_ok-front.front.throttle _ _ c.in_ok-front.ensures _ c.in_ok-rows.rows c.in_ok-rows.ensures _ c.in_ok-tail.ensures _ _ _ _ c.in_ok-tail.tail (λ e. refl)
