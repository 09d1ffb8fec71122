-- A byte below 128 is the number; else the step on the rest is a read at the place where the rest starts.
use mathlib.Core.Path.{refl}
use Rattle.body_reading.proofs.FrontAt.{at_place, byte_cut, fits, portable_unsigned}
use borrow.Author.Rules.{rules}
use Rattle.body_reading.proofs.places.varint_at.Goals as goal

pub returns-then-b-lt128 : goal.returns-then-b-lt128
returns-then-b-lt128 c = byte_cut _ _ _ refl c.if-p-s.true c.if-b-lt128.true

pub moved-requires : goal.moved-requires
moved-requires c = fits _ _ (portable_unsigned) _ _ _ c.rest.ensures (search rules) (search rules) _ c.unsigned_varint.ensures

pub returns : goal.returns
returns c = at_place _ _ (portable_unsigned) _ _ _ c.rest.ensures _ _ c.unsigned_varint.ensures c.moved.ensures
