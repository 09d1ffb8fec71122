use Rattle.layout.specs.Primitives.{length_bytes}
use Rattle.primitives_put.proofs.length.Goals as goal

pub returns-in-Int16 : goal.returns-in-Int16
unfolding length_bytes
returns-in-Int16 c = rw c.in-Int16.is c.lowest.ensures

pub returns-in-Int32 : goal.returns-in-Int32
unfolding length_bytes
returns-in-Int32 c = rw c.in-Int32.is c.lowest-in-Int32.ensures

pub returns-in-Compact : goal.returns-in-Compact
unfolding length_bytes
returns-in-Compact c = rw c.in-Compact.is c.compact_length.ensures
