-- Where no tags are lent no item has any.
use Rattle.primitives_put.proofs.Capped.{capped_as}
use Rattle.api_versions_response.proofs.Untagged.{all_untagged}
use Rattle.api_versions_response.proofs.writing.items_part.Goals as goal

pub returns-then-tags-lt3 : goal.returns-then-tags-lt3
returns-then-tags-lt3 c = capped_as (all_untagged c.args.flexible _ c.args.tags.now _ c.requires c.if-tags-lt3.true) c.untagged_items.ensures
