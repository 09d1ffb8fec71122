-- The count of a row off the front is taken from the number, and those after it tell the rest.
use mathlib.Core.Path.{◌∙◌, ap, sym}
use native.Mathlib.Omega.{arith}
use borrow.Author.Rules.{rules}
use Rattle.body_writing.specs.Asked.{tells}
use Rattle.body_writing.proofs.Counts.{tells_bad, tells_end, tells_more, tells_over}
use Rattle.body_writing.proofs.Fronts.{next_row, no_row}
use Rattle.body_writing.proofs.ranges.do_tell.Goals as goal

pub returns-then-not-is_count : goal.returns-then-not-is_count
returns-then-not-is_count c = tells_bad _ _ _ _ _ _ c.is_count.ensures c.if-not-is_count.true ∙ ap (tells _ _ _) (sym (next_row _ _ (omega arith) _ _ c.in-Some.ensures.steps.1.0 (c.in-Some.ensures.steps.1.1 ∙ c.loop-row.invariant.1))) ∙ c.loop-row.invariant.0

pub returns-then-left-k : goal.returns-then-left-k
returns-then-left-k c = tells_over _ _ _ _ _ _ c.is_count.ensures _ c.rows_told-k.ensures c.if-left-k.true ∙ ap (tells _ _ _) (sym (next_row _ _ (omega arith) _ _ c.in-Some.ensures.steps.1.0 (c.in-Some.ensures.steps.1.1 ∙ c.loop-row.invariant.1))) ∙ c.loop-row.invariant.0

pub loop-row-preserved : goal.loop-row-preserved
loop-row-preserved c = (tells_more _ _ _ _ _ _ c.is_count.ensures _ c.rows_told-k.ensures c.if-not-is_count.false c.if-left-k.false ∙ ap (tells _ _ _) (sym (next_row _ _ (omega arith) _ _ c.in-Some.ensures.steps.1.0 (c.in-Some.ensures.steps.1.1 ∙ c.loop-row.invariant.1))) ∙ c.loop-row.invariant.0, search rules)

pub returns : goal.returns
returns c = tells_end _ _ _ ∙ ap (tells _ _ _) (sym (no_row _ _ (omega (arith, c.in-None.ensures.steps.1.0, c.loop-row.invariant.1)))) ∙ c.loop-row.invariant.0
