-- Cluster and controller, the number of topics, and the topics.
use mathlib.Core.Path.{refl}
use Rattle.metadata_response.specs.Walks.{of_tail}
use Rattle.metadata_response.proofs.Around.{no_middle, no_topics, tail_took, topics_bad}
use Rattle.body_reading.proofs.Turns.{runs_up}
use Rattle.metadata_response.proofs.body.tail_at.Goals as goal

pub returns-in_err-middle : goal.returns-in_err-middle
returns-in_err-middle c = runs_up (of_tail _ _ _ _) _ _ c.from_residual.ensures (no_middle _ _ _ _ _ _ _ _ c.in_err-middle.ensures)

pub returns-in_err-count : goal.returns-in_err-count
returns-in_err-count c = runs_up (of_tail _ _ _ _) _ _ c.from_residual-in_err-count.ensures (no_topics _ _ _ _ _ _ _ c.in_ok-middle.middle.value _ c.in_ok-middle.ensures _ c.in_err-count.ensures)

pub returns-in_err-rows : goal.returns-in_err-rows
returns-in_err-rows c = runs_up (of_tail _ _ _ _) _ _ c.from_residual-in_err-rows.ensures (topics_bad _ _ _ _ _ _ _ c.in_ok-middle.middle.value _ c.in_ok-middle.ensures _ _ c.in_ok-count.ensures _ c.in_err-rows.ensures _ (λ e. refl))

pub returns : goal.returns
returns c = tail_took _ _ _ _ _ _ _ c.in_ok-middle.middle.value _ c.in_ok-middle.ensures _ _ c.in_ok-count.ensures _ c.in_ok-rows.ensures _ _ _ _ c.in_ok-rows.rows (λ e. refl)
