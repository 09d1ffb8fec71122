-- A row off the front is judged, and those after it decide.
use mathlib.Core.Path.{◌∙◌, ap, sym}
use native.Mathlib.Omega.{arith}
use borrow.Author.Rules.{rules}
use Rattle.layout.specs.Tables.{all}
use Rattle.body_writing.proofs.Faults.{rows_clean}
use Rattle.body_writing.proofs.Fronts.{next_row, no_row}
use Rattle.body_writing.proofs.Judged.{all_more, all_none, all_stop}
use Rattle.fetch_request.proofs.Judgement.{clean, row_told}
use Rattle.fetch_request.proofs.judge.all_fit.Goals as goal

pub returns-then-not-both_fit : goal.returns-then-not-both_fit
returns-then-not-both_fit c = all_stop clean _ _ _ (row_told _ (search rules) _ c.both_fit.ensures) c.if-not-both_fit.true ∙ ap (all clean) (sym (next_row _ _ (omega arith) _ _ c.in-Some.ensures.steps.1.0 (c.in-Some.ensures.steps.1.1 ∙ c.loop-row.invariant.1))) ∙ c.loop-row.invariant.0 ∙ rows_clean _ _ _ _

pub loop-row-preserved : goal.loop-row-preserved
loop-row-preserved c = (all_more clean _ _ _ (row_told _ (search rules) _ c.both_fit.ensures) c.if-not-both_fit.false ∙ ap (all clean) (sym (next_row _ _ (omega arith) _ _ c.in-Some.ensures.steps.1.0 (c.in-Some.ensures.steps.1.1 ∙ c.loop-row.invariant.1))) ∙ c.loop-row.invariant.0, search rules)

pub returns : goal.returns
returns c = all_none clean ∙ ap (all clean) (sym (no_row _ _ (omega (arith, c.in-None.ensures.steps.1.0, c.loop-row.invariant.1)))) ∙ c.loop-row.invariant.0 ∙ rows_clean _ _ _ _
