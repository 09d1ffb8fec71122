-- The count is an array's, and the walk over its items is the loop of `nodes_in`, with the row and the table in their places. A null array has no items.
use mathlib.Core.Path.{◌∙◌, ap, sym}
use Rattle.layout.specs.Reading.{ok}
use Rattle.primitives.specs.Parts.{counted_as}
use Rattle.body_reading.specs.Walked.{beside_is}
use Rattle.metadata_response.proofs.NodeRows.{count_no, count_null, nodes_at_no, nodes_at_took}
use Rattle.body_reading.proofs.Turns.{runs_up}
use Rattle.metadata_response.proofs.nodes.nodes_at.Goals as goal

pub returns-in_err-number : goal.returns-in_err-number
returns-in_err-number c = runs_up (beside_is _) _ _ c.from_residual.ensures (count_no _ _ _ _ _ c.in_err-number.ensures)

pub returns-in_err-nodes-in-Some : goal.returns-in_err-nodes-in-Some
returns-in_err-nodes-in-Some c = runs_up (beside_is _) _ _ c.from_residual-in_err-nodes-in-Some.ensures (nodes_at_no _ _ _ _ _ _ (ap (λ v. ok (counted_as v) c.in_ok-number.number.next) (sym c.in-Some.is) ∙ c.in_ok-number.ensures) _ _ c.nodes_in.ensures _ c.in_err-nodes-in-Some.was)

pub returns-in_ok-nodes-in-Some : goal.returns-in_ok-nodes-in-Some
returns-in_ok-nodes-in-Some c = nodes_at_took _ _ _ _ _ _ (ap (λ v. ok (counted_as v) c.in_ok-number.number.next) (sym c.in-Some.is) ∙ c.in_ok-number.ensures) _ _ c.nodes_in.ensures c.in_ok-nodes-in-Some.nodes c.in_ok-nodes-in-Some.was

pub returns-in-None : goal.returns-in-None
returns-in-None c = count_null _ _ _ _ _ (ap (λ v. ok (counted_as v) c.in_ok-number.number.next) (sym c.in-None.is) ∙ c.in_ok-number.ensures)
