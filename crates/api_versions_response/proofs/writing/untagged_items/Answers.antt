-- Each branch knows whether the version is flexible, and with it the width.
use Rattle.api_versions_response.proofs.Untagged.{known_version}
use Rattle.api_versions_response.proofs.writing.untagged_items.Goals as goal

pub returns-then-flexible : goal.returns-then-flexible
returns-then-flexible c = known_version _ _ c.if-flexible.true _ c.items_of_width.ensures

pub returns : goal.returns
returns c = known_version _ _ c.if-flexible.false _ c.items_of_width-2.ensures
