-- The step on the rest is a read at the place where the rest starts.
use Rattle.body_reading.proofs.DataAt.{part_at, part_fits, shows_records}
use borrow.Author.Rules.{rules}
use Rattle.body_reading.proofs.places.records_at.Goals as goal

pub part_moved-requires : goal.part_moved-requires
part_moved-requires c = part_fits _ shows_records _ _ _ c.rest.ensures _ c.records.ensures (search rules) (search rules)

pub returns : goal.returns
returns c = part_at _ shows_records _ _ _ c.rest.ensures _ c.records.ensures _ c.part_moved.ensures
