-- Versions below 3 have no field, and 3 is the only one left.
use Rattle.api_versions_request.proofs.Replies.{as_flexible, nothing_read}
use borrow.Author.Rules.{rules}
use Rattle.api_versions_request.proofs.reading.body.Goals as goal

pub returns-then-version-lt3 : goal.returns-then-version-lt3
returns-then-version-lt3 c = nothing_read _ _ _ c.if-version-lt3.true

pub returns : goal.returns
returns c = as_flexible _ _ _ c.if-version-lt3.false (search rules) _ c.flexible.ensures
