-- A row off the front is judged, and those after it decide.
use mathlib.Core.Path.{◌∙◌, ap, sym}
use native.Mathlib.Omega.{arith}
use borrow.Author.Rules.{rules}
use Rattle.layout.specs.Tables.{all}
use Rattle.body_writing.specs.Asked.{all_ranged}
use Rattle.body_writing.proofs.Fronts.{next_row, no_row}
use Rattle.body_writing.proofs.Inside.{range_told}
use Rattle.body_writing.proofs.Judged.{all_more, all_none, all_stop}
use Rattle.body_writing.proofs.ranges.ranged.Goals as goal

pub returns-then-not-is_inside : goal.returns-then-not-is_inside
unfolding all_ranged
returns-then-not-is_inside c = all_stop _ _ _ _ (range_told _ _ _ _ c.is_inside.ensures) c.if-not-is_inside.true ∙ ap (all _) (sym (next_row _ _ (omega arith) _ _ c.in-Some.ensures.steps.1.0 (c.in-Some.ensures.steps.1.1 ∙ c.loop-row.invariant.1))) ∙ c.loop-row.invariant.0

pub loop-row-preserved : goal.loop-row-preserved
loop-row-preserved c = (all_more _ _ _ _ (range_told _ _ _ _ c.is_inside.ensures) c.if-not-is_inside.false ∙ ap (all _) (sym (next_row _ _ (omega arith) _ _ c.in-Some.ensures.steps.1.0 (c.in-Some.ensures.steps.1.1 ∙ c.loop-row.invariant.1))) ∙ c.loop-row.invariant.0, search rules)

pub returns : goal.returns
unfolding all_ranged
returns c = all_none _ ∙ ap (all _) (sym (no_row _ _ (omega (arith, c.in-None.ensures.steps.1.0, c.loop-row.invariant.1)))) ∙ c.loop-row.invariant.0
