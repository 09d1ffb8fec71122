use mathlib.Core.Path.{◌∙◌}
use native.Mathlib.Omega.{arith}
use borrow.Author.Rules.{rules}
use Rattle.fetch_request.proofs.Topics.{stand_enough, stand_next, stand_start}
use Rattle.fetch_request.proofs.Walk.{topic_nest}
use Rattle.body_writing.proofs.Nested.{going_end}
use Rattle.fetch_request.proofs.writing.all_topics.Goals as goal

pub loop-row-init : goal.loop-row-init
loop-row-init c = (stand_start _ _ _ _ (search rules) c.requires _, search rules)

pub cells-k-requires : goal.cells-k-requires
cells-k-requires c = (search rules, omega (arith, stand_enough _ _ _ c.in-Some.ensures.steps.1.0 (c.in-Some.ensures.steps.1.1 ∙ c.loop-row.invariant.1) _ _ _ _ c.loop-row.invariant.0))

pub topic-more-requires : goal.topic-more-requires
topic-more-requires c = (search rules, stand_enough _ _ _ c.in-Some.ensures.steps.1.0 (c.in-Some.ensures.steps.1.1 ∙ c.loop-row.invariant.1) _ _ _ _ c.loop-row.invariant.0)

pub offset_bounds-free-k : goal.offset_bounds-free-k
offset_bounds-free-k c = omega (arith, c.cells-k.ensures, stand_enough _ _ _ c.in-Some.ensures.steps.1.0 (c.in-Some.ensures.steps.1.1 ∙ c.loop-row.invariant.1) _ _ _ _ c.loop-row.invariant.0)

pub slice_bounds-free-count : goal.slice_bounds-free-count
slice_bounds-free-count c = omega (arith, c.cells-k.ensures, stand_enough _ _ _ c.in-Some.ensures.steps.1.0 (c.in-Some.ensures.steps.1.1 ∙ c.loop-row.invariant.1) _ _ _ _ c.loop-row.invariant.0)

pub slice_bounds-free-start : goal.slice_bounds-free-start
slice_bounds-free-start c = omega (arith, c.cells-k.ensures, stand_enough _ _ _ c.in-Some.ensures.steps.1.0 (c.in-Some.ensures.steps.1.1 ∙ c.loop-row.invariant.1) _ _ _ _ c.loop-row.invariant.0)

pub loop-row-preserved : goal.loop-row-preserved
loop-row-preserved c = (stand_next _ _ _ c.in-Some.ensures.steps.1.0 (c.in-Some.ensures.steps.1.1 ∙ c.loop-row.invariant.1) _ _ _ _ c.loop-row.invariant.0 _ c.behind-p.ensures c.topic-more.ensures _ c.add-done.ensures _ c.cells-k.ensures, search rules)

pub returns : goal.returns
returns c = going_end topic_nest _ _ _ c.loop-row.invariant.0 (omega (arith, c.in-None.ensures.steps.1.0, c.loop-row.invariant.1))
