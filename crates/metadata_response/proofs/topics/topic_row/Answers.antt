-- A number, a string, and a Boolean where the version has it.
use mathlib.Core.Path.{◌∙◌}
use Rattle.primitives.proofs.Up.{up}
use Rattle.metadata_response.specs.TopicWalks.{of_topic_row}
use Rattle.metadata_response.proofs.TopicRows.{error_no, fields_took, internal_no, name_no}
use Rattle.metadata_response.proofs.topics.topic_row.Goals as goal

pub returns-in_err-error : goal.returns-in_err-error
returns-in_err-error c = up of_topic_row _ _ c.from_residual.ensures ∙ error_no _ _ _ _ c.in_err-error.ensures

pub returns-in_err-name : goal.returns-in_err-name
returns-in_err-name c = up of_topic_row _ _ c.from_residual-in_err-name.ensures ∙ name_no _ _ _ _ _ c.in_ok-error.ensures _ c.in_err-name.ensures

pub returns-in_err-internal : goal.returns-in_err-internal
returns-in_err-internal c = up of_topic_row _ _ c.from_residual-in_err-internal.ensures ∙ internal_no _ _ _ _ _ c.in_ok-error.ensures _ _ c.in_ok-name.ensures _ c.in_err-internal.ensures

pub returns : goal.returns
returns c = fields_took _ _ _ _ _ c.in_ok-error.ensures _ _ c.in_ok-name.ensures _ _ c.in_ok-internal.ensures
