-- Only a whole read minds what is left.
use mathlib.Core.Path.{◌∙◌}
use Rattle.api_versions_response.proofs.Replies.{left_prefix, left_whole}
use Rattle.api_versions_response.proofs.reading.is_left.Goals as goal

pub returns-then-whole : goal.returns-then-whole
returns-then-whole c = left_whole _ _ _ c.if-whole.true

pub returns-else-whole : goal.returns-else-whole
returns-else-whole c = c.if-whole.false ∙ left_prefix _ _ _ c.if-whole.false
