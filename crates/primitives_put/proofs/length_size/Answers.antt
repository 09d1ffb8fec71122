use mathlib.Core.Path.{sym}
use Rattle.layout.specs.Primitives.{length_bytes}
use Rattle.layout.proofs.Back.{length_bytes_lem}
use Rattle.primitives_put.proofs.length_size.Goals as goal

pub returns-in-Int16 : goal.returns-in-Int16
unfolding length_bytes
returns-in-Int16 c = rw c.in-Int16.is (sym (length_bytes_lem 2 _))

pub returns-in-Int32 : goal.returns-in-Int32
unfolding length_bytes
returns-in-Int32 c = rw c.in-Int32.is (sym (length_bytes_lem 4 _))

pub returns-in-Compact : goal.returns-in-Compact
unfolding length_bytes
returns-in-Compact c = rw c.in-Compact.is c.compact_size.ensures
