-- What both headers have, and after it the tags where the header has them.
use Rattle.primitives.proofs.Up.{is_err_of}
use Rattle.frame.proofs.Rows.{front_no, header_took, tags_no}
use Rattle.frame.proofs.reading.request_header.Goals as goal

pub returns-in_err-value : goal.returns-in_err-value
returns-in_err-value c = front_no _ c.requires.0 c.requires.1 _ _ _ c.in_err-value.ensures _ _ (is_err_of _ _ c.from_residual.ensures)

pub returns-in_err-tags : goal.returns-in_err-tags
returns-in_err-tags c = tags_no _ c.requires.0 c.requires.1 _ _ _ _ c.in_ok-value.ensures _ _ c.tags_if.ensures _ c.in_err-tags.was _ (is_err_of _ _ c.from_residual-in_err-tags.ensures)

pub returns : goal.returns
returns c = header_took _ c.requires.0 c.requires.1 _ _ _ _ c.in_ok-value.ensures _ _ c.tags_if.ensures _ _ _ c.in_ok-tags.was
