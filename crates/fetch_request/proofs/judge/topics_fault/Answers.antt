use mathlib.Core.Path.{◌∙◌}
use native.Mathlib.Omega.{arith}
use borrow.Author.Rules.{rules}
use Rattle.fetch_request.proofs.Topics.{clear_enough, clear_next, clear_start, clear_stop}
use Rattle.fetch_request.proofs.Walk.{topic_nest}
use Rattle.body_writing.proofs.Nested.{clearing_end}
use Rattle.fetch_request.proofs.judge.topics_fault.Goals as goal

pub loop-row-init : goal.loop-row-init
loop-row-init c = (clear_start _ _ _ _ (search rules) c.requires, search rules)

pub topic_fault-e-requires : goal.topic_fault-e-requires
topic_fault-e-requires c = (search rules, clear_enough _ _ _ c.in-Some.ensures.steps.1.0 (c.in-Some.ensures.steps.1.1 ∙ c.loop-row.invariant.1) _ _ _ _ c.loop-row.invariant.0)

pub returns-then-e-ne0 : goal.returns-then-e-ne0
returns-then-e-ne0 c = clear_stop _ _ _ c.in-Some.ensures.steps.1.0 (c.in-Some.ensures.steps.1.1 ∙ c.loop-row.invariant.1) _ _ _ _ c.loop-row.invariant.0 _ c.topic_fault-e.ensures c.if-e-ne0.true

pub cells-k-requires : goal.cells-k-requires
cells-k-requires c = (search rules, omega (arith, clear_enough _ _ _ c.in-Some.ensures.steps.1.0 (c.in-Some.ensures.steps.1.1 ∙ c.loop-row.invariant.1) _ _ _ _ c.loop-row.invariant.0))

pub offset_bounds-free-k : goal.offset_bounds-free-k
offset_bounds-free-k c = omega (arith, c.cells-k.ensures, clear_enough _ _ _ c.in-Some.ensures.steps.1.0 (c.in-Some.ensures.steps.1.1 ∙ c.loop-row.invariant.1) _ _ _ _ c.loop-row.invariant.0)

pub slice_bounds-free-count : goal.slice_bounds-free-count
slice_bounds-free-count c = omega (arith, c.cells-k.ensures, clear_enough _ _ _ c.in-Some.ensures.steps.1.0 (c.in-Some.ensures.steps.1.1 ∙ c.loop-row.invariant.1) _ _ _ _ c.loop-row.invariant.0)

pub slice_bounds-free-start : goal.slice_bounds-free-start
slice_bounds-free-start c = omega (arith, c.cells-k.ensures, clear_enough _ _ _ c.in-Some.ensures.steps.1.0 (c.in-Some.ensures.steps.1.1 ∙ c.loop-row.invariant.1) _ _ _ _ c.loop-row.invariant.0)

pub loop-row-preserved : goal.loop-row-preserved
loop-row-preserved c = (clear_next _ _ _ c.in-Some.ensures.steps.1.0 (c.in-Some.ensures.steps.1.1 ∙ c.loop-row.invariant.1) _ _ _ _ c.loop-row.invariant.0 _ c.topic_fault-e.ensures c.if-e-ne0.false _ c.cells-k.ensures, search rules)

pub returns : goal.returns
returns c = clearing_end topic_nest _ _ _ c.loop-row.invariant.0 (omega (arith, c.in-None.ensures.steps.1.0, c.loop-row.invariant.1))
