-- The step on the rest is a read at the place where the rest starts.
use Rattle.body_reading.proofs.FrontAt.{at_place, fits, portable_flag}
use borrow.Author.Rules.{rules}
use Rattle.body_reading.proofs.places.boolean_at.Goals as goal

pub moved-requires : goal.moved-requires
moved-requires c = fits _ _ portable_flag _ _ _ c.rest.ensures (search rules) (search rules) _ c.boolean.ensures

pub returns : goal.returns
returns c = at_place _ _ portable_flag _ _ _ c.rest.ensures _ _ c.boolean.ensures c.moved.ensures
