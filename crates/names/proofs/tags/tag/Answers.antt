-- A tag and its data are two fields, whatever the row.
use Rattle.std.proofs.Common.{sym, ap, ◌∙◌}
use Rattle.std.specs.Prelude.{Err}
use Rattle.primitives.proofs.Up.{is_err_of}
use Rattle.names.proofs.AtOnce.{in_data, in_tag}
use Rattle.names.proofs.Ways.{stopped, went}
use Rattle.names.proofs.tags.tag.Goals as goal

pub returns-in_err-n : goal.returns-in_err-n
returns-in_err-n c = let h = stopped _ _ _ (sym c.ok_or.ensures.value ∙ c.in_err-n.was) in in_tag _ _ _ _ c.varint.ensures h.0 _ (is_err_of _ _ c.from_residual.ensures ∙ ap Err h.1)

pub returns : goal.returns
returns c = in_data _ _ _ _ c.varint.ensures _ (went _ _ _ (sym c.ok_or.ensures.value ∙ c.in_ok-n.was)) _ c.data.ensures _ c.ok_or-2.ensures.value
