-- A varint and then data: the two fields of a tag's row.
use mathlib.Core.Path.{◌∙◌}
use Rattle.primitives.proofs.Up.{up}
use Rattle.tagged_fields.specs.Read.{of_tag}
use Rattle.tagged_fields.proofs.Replies.{tag_no, tag_no_data, tag_took}
use Rattle.tagged_fields.proofs.reading.tag_at.Goals as goal

pub returns-in_err-tag : goal.returns-in_err-tag
returns-in_err-tag c = up of_tag _ _ c.from_residual.ensures ∙ tag_no _ _ _ c.in_err-tag.ensures

pub returns-in_err-data : goal.returns-in_err-data
returns-in_err-data c = up of_tag _ _ c.from_residual-in_err-data.ensures ∙ tag_no_data _ _ _ _ c.in_ok-tag.ensures _ c.in_err-data.ensures

pub returns : goal.returns
returns c = tag_took _ _ _ _ c.in_ok-tag.ensures _ _ c.in_ok-data.ensures
