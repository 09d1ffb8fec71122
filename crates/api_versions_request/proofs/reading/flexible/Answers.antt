-- Field after field: each is a step of the walk, and its cells stand after those before.
use mathlib.Core.Path.{◌∙◌}
use Rattle.primitives.proofs.Up.{up}
use Rattle.api_versions_request.specs.Walks.{of_request_walked}
use Rattle.api_versions_request.proofs.Replies.{all_took, no_name, no_tags, no_version}
use Rattle.api_versions_request.proofs.reading.flexible.Goals as goal

pub returns-in_err-name : goal.returns-in_err-name
returns-in_err-name c = up (of_request_walked _) _ _ c.from_residual.ensures ∙ no_name _ _ _ c.in_err-name.ensures

pub returns-in_err-version : goal.returns-in_err-version
returns-in_err-version c = up (of_request_walked _) _ _ c.from_residual-in_err-version.ensures ∙ no_version _ _ _ _ _ c.in_ok-name.ensures _ c.in_err-version.ensures

pub returns-in_err-tags : goal.returns-in_err-tags
returns-in_err-tags c = up (of_request_walked _) _ _ c.from_residual-in_err-tags.ensures ∙ no_tags _ _ _ _ _ c.in_ok-name.ensures _ _ _ c.in_ok-version.ensures _ _ c.tag_buffer_at.ensures _ c.in_err-tags.was

pub returns : goal.returns
returns c = all_took _ _ _ _ _ c.in_ok-name.ensures _ _ _ c.in_ok-version.ensures _ _ c.tag_buffer_at.ensures _ c.in_ok-tags.was
