-- The error, the number of items, the items, and what stands after them.
use mathlib.Core.Path.{◌∙◌, ap, sym}
use Rattle.primitives.proofs.Up.{up}
use Rattle.api_versions_response.specs.Walks.{finish, of_measured}
use Rattle.api_versions_response.proofs.AroundItems.{body_is, count_no, error_no, items_bad}
use Rattle.api_versions_response.proofs.reading.body_at.Goals as goal

pub returns-in_err-error : goal.returns-in_err-error
returns-in_err-error c = up (of_measured _ _) _ _ c.from_residual.ensures ∙ error_no _ _ _ _ _ _ _ c.in_err-error.ensures

pub returns-in_err-count : goal.returns-in_err-count
returns-in_err-count c = up (of_measured _ _) _ _ c.from_residual-in_err-count.ensures ∙ count_no _ _ _ _ _ _ _ _ c.in_ok-error.ensures _ c.in_err-count.ensures

pub returns-in_err-rows : goal.returns-in_err-rows
returns-in_err-rows c = up (of_measured _ _) _ _ c.from_residual-in_err-rows.ensures ∙ items_bad _ _ _ _ _ _ _ _ c.in_ok-error.ensures _ _ c.in_ok-count.ensures _ _ _ c.items_in.ensures _ c.in_err-rows.was

pub returns-in_err-tail : goal.returns-in_err-tail
returns-in_err-tail c = up (of_measured _ _) _ _ c.from_residual-in_err-tail.ensures ∙ body_is _ _ _ _ _ _ _ _ c.in_ok-error.ensures _ _ c.in_ok-count.ensures _ _ _ c.items_in.ensures _ _ _ c.in_ok-rows.was _ c.tail_at.result c.tail_at.ensures _ (ap (finish _ _ _) (sym c.in_err-tail.was))

pub returns : goal.returns
returns c = body_is _ _ _ _ _ _ _ _ c.in_ok-error.ensures _ _ c.in_ok-count.ensures _ _ _ c.items_in.ensures _ _ _ c.in_ok-rows.was _ c.tail_at.result c.tail_at.ensures _ (ap (finish _ _ _) (sym c.in_ok-tail.was))
