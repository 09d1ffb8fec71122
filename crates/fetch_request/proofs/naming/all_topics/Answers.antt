use mathlib.Core.Path.{◌∙◌}
use native.Mathlib.Omega.{arith}
use borrow.Author.Rules.{rules}
use Rattle.primitives.proofs.Up.{up}
use Rattle.body_writing.specs.Blames.{of_blamed}
use Rattle.body_writing.proofs.BlamingRows.{searching_end}
use Rattle.fetch_request.proofs.Blamed.{search_enough, search_found, search_next, search_start}
use Rattle.fetch_request.proofs.Walk.{topic_nest}
use Rattle.fetch_request.proofs.naming.all_topics.Goals as goal

pub loop-asked-init : goal.loop-asked-init
loop-asked-init c = (search_start _ _ _ _ _ _ (search rules) c.requires.1, search rules, search rules)

pub topic-requires : goal.topic-requires
topic-requires c = (c.requires.0, search rules, search_enough _ _ _ c.in-Some.ensures.steps.1.0 (c.in-Some.ensures.steps.1.1 ∙ c.loop-asked.invariant.1) _ _ c.requires.0 _ _ _ _ _ c.loop-asked.invariant.0)

pub cells-k-requires : goal.cells-k-requires
cells-k-requires c = (search rules, omega (arith, search_enough _ _ _ c.in-Some.ensures.steps.1.0 (c.in-Some.ensures.steps.1.1 ∙ c.loop-asked.invariant.1) _ _ c.requires.0 _ _ _ _ _ c.loop-asked.invariant.0))

pub offset_bounds-free-k : goal.offset_bounds-free-k
offset_bounds-free-k c = omega (arith, c.cells-k.ensures, search_enough _ _ _ c.in-Some.ensures.steps.1.0 (c.in-Some.ensures.steps.1.1 ∙ c.loop-asked.invariant.1) _ _ c.requires.0 _ _ _ _ _ c.loop-asked.invariant.0)

pub slice_bounds-free-count : goal.slice_bounds-free-count
slice_bounds-free-count c = omega (arith, c.cells-k.ensures, search_enough _ _ _ c.in-Some.ensures.steps.1.0 (c.in-Some.ensures.steps.1.1 ∙ c.loop-asked.invariant.1) _ _ c.requires.0 _ _ _ _ _ c.loop-asked.invariant.0)

pub slice_bounds-free-start : goal.slice_bounds-free-start
slice_bounds-free-start c = omega (arith, c.cells-k.ensures, search_enough _ _ _ c.in-Some.ensures.steps.1.0 (c.in-Some.ensures.steps.1.1 ∙ c.loop-asked.invariant.1) _ _ c.requires.0 _ _ _ _ _ c.loop-asked.invariant.0)

pub loop-asked-preserved : goal.loop-asked-preserved
loop-asked-preserved c = (search_next _ _ _ c.in-Some.ensures.steps.1.0 (c.in-Some.ensures.steps.1.1 ∙ c.loop-asked.invariant.1) _ _ c.requires.0 _ _ _ _ _ c.loop-asked.invariant.0 _ c.begin-row.ensures.row _ c.begin-row.ensures.counted _ _ c.topic.ensures _ c.in_ok-topic.was _ c.cells-k.ensures, search rules, search rules)

pub returns-in_err-topic : goal.returns-in_err-topic
returns-in_err-topic c = up (of_blamed _) _ _ c.from_residual.ensures ∙ search_found _ _ _ c.in-Some.ensures.steps.1.0 (c.in-Some.ensures.steps.1.1 ∙ c.loop-asked.invariant.1) _ _ c.requires.0 _ _ _ _ _ c.loop-asked.invariant.0 _ c.begin-row.ensures.row _ c.begin-row.ensures.counted _ _ c.topic.ensures _ c.in_err-topic.was

pub returns : goal.returns
returns c = searching_end topic_nest _ _ _ _ _ c.loop-asked.invariant.0 (omega (arith, c.in-None.ensures.steps.1.0, c.loop-asked.invariant.1))
