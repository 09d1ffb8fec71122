-- Cluster, then controller, each where the version has it.
use mathlib.Core.Path.{◌∙◌}
use Rattle.primitives.proofs.Up.{up}
use Rattle.metadata_response.specs.Walks.{of_middle}
use Rattle.metadata_response.proofs.Around.{middle_took, no_cluster, no_controller}
use Rattle.metadata_response.proofs.body.middle_at.Goals as goal

pub returns-in_err-cluster : goal.returns-in_err-cluster
returns-in_err-cluster c = up of_middle _ _ c.from_residual.ensures ∙ no_cluster _ _ _ _ c.in_err-cluster.ensures

pub returns-in_err-controller : goal.returns-in_err-controller
returns-in_err-controller c = up of_middle _ _ c.from_residual-in_err-controller.ensures ∙ no_controller _ _ _ _ _ c.in_ok-cluster.ensures _ c.in_err-controller.ensures

pub returns : goal.returns
returns c = middle_took _ _ _ _ _ c.in_ok-cluster.ensures _ _ c.in_ok-controller.ensures
