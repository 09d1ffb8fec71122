-- Each form has its own reader.
use Rattle.body_reading.proofs.DataAt.{compact_count, fixed_count}
use Rattle.body_reading.proofs.places.count.Goals as goal

pub returns-then-flexible : goal.returns-then-flexible
returns-then-flexible c = compact_count _ _ _ c.compact_length.ensures c.if-flexible.true

pub returns : goal.returns
returns c = fixed_count _ _ _ c.length32.ensures c.if-flexible.false
