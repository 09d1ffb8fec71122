-- On just its bytes it is read as on the rest, and the step on the rest is a read at the place where the rest starts.
use mathlib.Core.Path.{refl}
use Rattle.layout.specs.Primitives.{w16}
use Rattle.body_reading.proofs.FrontAt.{at_place, fits, front_cell, on_front, portable_cell}
use borrow.Author.Rules.{rules}
use Rattle.body_reading.proofs.places.int16_at.Goals as goal

pub moved-requires : goal.moved-requires
moved-requires c = fits _ _ (portable_cell w16) c.args.s.now _ _ refl (search rules) (search rules) _ (on_front _ _ 1 _ (front_cell w16) _ c.front.ensures _ c.int16.ensures)

pub returns : goal.returns
returns c = at_place _ _ (portable_cell w16) _ _ _ refl _ _ (on_front _ _ 1 _ (front_cell w16) _ c.front.ensures _ c.int16.ensures) c.moved.ensures
