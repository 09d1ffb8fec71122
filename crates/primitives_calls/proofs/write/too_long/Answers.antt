use mathlib.Core.Path.{refl}
use Rattle.layout.specs.Write.{too_long}
use Rattle.primitives_calls.proofs.Judged.{over_two}
use Rattle.primitives_calls.proofs.write.too_long.Goals as goal

pub returns-in-Int16 : goal.returns-in-Int16
returns-in-Int16 c = rw c.in-Int16.is (over_two c.args.n)

pub returns-in-Int32 : goal.returns-in-Int32
unfolding too_long
returns-in-Int32 c = rw c.in-Int32.is refl

pub returns-in-Compact : goal.returns-in-Compact
unfolding too_long
returns-in-Compact c = rw c.in-Compact.is refl
