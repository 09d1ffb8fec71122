use mathlib.Core.Path.{refl}
use Rattle.layout.specs.Primitives.{compact, never}
use Rattle.layout.specs.Write.{basic_fault, unless, write_basic}
use Rattle.primitives_calls.proofs.Judged.{field_written}
use Rattle.primitives_calls.proofs.write.compact_bytes.Goals as goal

pub returns : goal.returns
unfolding basic_fault write_basic unless
returns c = field_written (compact never) _ _ (λ y. 0) refl _ c.sized.ensures
