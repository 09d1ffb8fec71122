-- The step on the rest is a read at the place where the rest starts.
use Rattle.body_reading.proofs.DataAt.{field_at, field_fits}
use borrow.Author.Rules.{rules}
use Rattle.body_reading.proofs.places.nullable_string_at.Goals as goal

pub field_moved-requires : goal.field_moved-requires
field_moved-requires c = field_fits _ _ _ c.rest.ensures _ c.nullable_string.ensures (search rules) (search rules)

pub returns : goal.returns
returns c = field_at _ _ _ c.rest.ensures _ c.nullable_string.ensures _ c.field_moved.ensures
