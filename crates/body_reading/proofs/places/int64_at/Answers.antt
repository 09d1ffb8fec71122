-- On just its bytes it is read as on the rest, and the step on the rest is a read at the place where the rest starts.
use mathlib.Core.Path.{refl}
use Rattle.layout.specs.Primitives.{w64}
use Rattle.body_reading.proofs.FrontAt.{at_place, fits, front_cell, on_front, portable_cell}
use borrow.Author.Rules.{rules}
use Rattle.body_reading.proofs.places.int64_at.Goals as goal

pub moved-requires : goal.moved-requires
moved-requires c = fits _ _ (portable_cell w64) c.args.s.now _ _ refl (search rules) (search rules) _ (on_front _ _ 7 _ (front_cell w64) _ c.front.ensures _ c.int64.ensures)

pub returns : goal.returns
returns c = at_place _ _ (portable_cell w64) _ _ _ refl _ _ (on_front _ _ 7 _ (front_cell w64) _ c.front.ensures _ c.int64.ensures) c.moved.ensures
