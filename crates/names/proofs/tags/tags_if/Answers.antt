-- Tagged fields end their row; where the version lacks them there is nothing to walk over.
use Rattle.std.proofs.Common.{sym, ◌∙◌}
use Rattle.primitives.proofs.Up.{up}
use Rattle.names.specs.Walks.{of_sought}
use Rattle.names.proofs.Ways.{array_last, array_out, went, tags_lacking, tags_there}
use Rattle.names.proofs.tags.tags_if.Goals as goal

pub returns-then-not-flexible : goal.returns-then-not-flexible
returns-then-not-flexible c = tags_lacking _ _ _ _ _ _ _ _ c.if-not-flexible.true

pub returns-in_err-value : goal.returns-in_err-value
returns-in_err-value c = up (of_sought _) _ _ c.from_residual.ensures ∙ tags_there _ _ _ _ _ _ _ _ c.if-not-flexible.false _ (array_out _ _ _ _ _ _ _ _ _ _ _ c.count.ensures _ c.ok_or.ensures.value _ c.in_err-value.was)

pub returns : goal.returns
returns c = tags_there _ _ _ _ _ _ _ _ c.if-not-flexible.false _ (array_last _ _ _ _ _ _ _ _ _ _ c.count.ensures _ (went _ _ _ (sym c.ok_or.ensures.value ∙ c.in_ok-value.was)) _ c.tags.ensures)
