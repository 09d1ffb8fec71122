-- A number, and after it the tags where the header has them.
use Rattle.primitives.proofs.Up.{is_err_of}
use Rattle.frame.proofs.Rows.{number_no, response_tags_no, response_took, response_untagged}
use Rattle.frame.proofs.reading.response_header.Goals as goal

pub returns-in_err-correlation : goal.returns-in_err-correlation
returns-in_err-correlation c = number_no _ c.requires _ _ _ c.in_err-correlation.ensures _ _ (is_err_of _ _ c.from_residual.ensures)

pub returns-then-number-lt1 : goal.returns-then-number-lt1
returns-then-number-lt1 c = response_untagged _ c.requires _ _ c.if-number-lt1.true _ _ c.in_ok-correlation.ensures

pub returns-in_err-tags : goal.returns-in_err-tags
returns-in_err-tags c = response_tags_no _ c.requires _ _ _ _ c.in_ok-correlation.ensures _ _ c.tags_if.ensures _ c.in_err-tags.was _ (is_err_of _ _ c.from_residual-in_err-tags.ensures)

pub returns : goal.returns
returns c = response_took _ c.requires _ _ _ _ c.in_ok-correlation.ensures _ _ c.tags_if.ensures _ _ _ c.in_ok-tags.was
