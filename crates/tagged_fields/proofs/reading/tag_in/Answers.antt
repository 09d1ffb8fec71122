-- A tag is a row with no arrays, kept by one store.
use Rattle.primitives.proofs.Up.{is_err_of}
use Rattle.tagged_fields.proofs.Replies.{in_no, in_took}
use Rattle.tagged_fields.proofs.reading.tag_in.Goals as goal

pub returns-in_err-value : goal.returns-in_err-value
returns-in_err-value c = in_no _ _ _ _ _ c.in_err-value.ensures _ _ (is_err_of _ _ c.from_residual.ensures)

pub returns : goal.returns
returns c = in_took _ _ _ _ _ _ _ _ c.in_ok-value.ensures _ _ c.store_row.ensures
