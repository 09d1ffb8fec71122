-- The throttle time's cells, then the own tags: their number in the own row and their rows after the items'.
use Rattle.primitives.proofs.Up.{is_err_of}
use Rattle.api_versions_response.proofs.AroundItems.{tail_no, tail_no_tags, tail_took}
use Rattle.api_versions_response.proofs.reading.tail_at.Goals as goal

pub returns-in_err-throttle : goal.returns-in_err-throttle
returns-in_err-throttle c = rw (is_err_of _ _ c.from_residual.ensures) (tail_no _ _ _ _ _ _ _ c.in_err-throttle.ensures)

pub returns-in_err-own : goal.returns-in_err-own
returns-in_err-own c = rw (is_err_of _ _ c.from_residual-in_err-own.ensures) (tail_no_tags _ _ _ _ _ _ _ _ c.in_ok-throttle.ensures _ _ c.tags_if.ensures _ c.in_err-own.was)

pub returns : goal.returns
returns c = tail_took _ _ _ _ _ _ _ _ c.in_ok-throttle.ensures _ _ c.tags_if.ensures _ c.in_ok-own.was
