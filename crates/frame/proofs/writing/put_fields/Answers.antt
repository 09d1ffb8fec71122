-- The client name goes to the rest after the numbers.
use Rattle.primitives_put.proofs.Capped.{capped_behind}
use Rattle.frame.proofs.writing.put_fields.Goals as goal

pub returns : goal.returns
returns c = capped_behind c.put_numbers-a.ensures _ c.behind-p.ensures c.put_client-b.ensures _ c.add.ensures
