-- The number of no tags goes to the rest behind the item's three numbers.
use Rattle.api_versions_response.proofs.Untagged.{untagged_put}
use Rattle.api_versions_response.proofs.writing.untagged_item.Goals as goal

pub returns : goal.returns
returns c = untagged_put c.args.flexible c.args.items.now _ c.requires _ c.behind-p.ensures _ c.add.ensures c.key-a.ensures c.no_tags-b.ensures
