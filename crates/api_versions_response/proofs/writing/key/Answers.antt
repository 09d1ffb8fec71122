-- The versions go to the rest behind the key.
use Rattle.api_versions_response.proofs.ItemsWritten.{key_put}
use borrow.Author.Rules.{rules}
use Rattle.api_versions_response.proofs.writing.key.Goals as goal

pub returns : goal.returns
returns c = search (rules, key_put)
