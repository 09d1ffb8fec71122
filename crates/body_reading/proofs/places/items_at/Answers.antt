-- The count on the rest, less one, is the number of items at the place where the rest starts.
use Rattle.body_reading.proofs.DataAt.{items_counted}
use Rattle.body_reading.proofs.FrontAt.{at_place, fits, portable_items}
use borrow.Author.Rules.{rules}
use Rattle.body_reading.proofs.places.items_at.Goals as goal

pub moved-requires : goal.moved-requires
moved-requires c = fits _ _ (portable_items _ _) _ _ _ c.rest.ensures (search rules) (search rules) _ (items_counted _ _ _ _ _ c.items.ensures c.count.ensures)

pub returns : goal.returns
returns c = at_place _ _ (portable_items _ _) _ _ _ c.rest.ensures _ _ (items_counted _ _ _ _ _ c.items.ensures c.count.ensures) c.moved.ensures
