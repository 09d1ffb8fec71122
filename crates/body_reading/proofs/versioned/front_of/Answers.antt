-- A throttle time, where the version has one, and a count behind it.
use Rattle.body_reading.specs.Fronts.{of_front}
use mathlib.Core.Path.{◌∙◌}
use Rattle.body_reading.proofs.Fronts.{count_no, count_took, throttle_no}
use Rattle.primitives.proofs.Up.{up}
use Rattle.body_reading.proofs.versioned.front_of.Goals as goal

pub returns : goal.returns
returns c = count_took _ _ _ _ c.in_ok-throttle.ensures _ _ c.in_ok-count.ensures

pub returns-in_err-count : goal.returns-in_err-count
returns-in_err-count c = up of_front _ _ c.from_residual-in_err-count.ensures ∙ count_no _ _ _ _ c.in_ok-throttle.ensures _ c.in_err-count.ensures

pub returns-in_err-throttle : goal.returns-in_err-throttle
returns-in_err-throttle c = up of_front _ _ c.from_residual.ensures ∙ throttle_no _ _ _ c.in_err-throttle.ensures
