use mathlib.Core.Path.{refl}
use Rattle.layout.specs.Primitives.{fixed, never, w32}
use Rattle.layout.specs.Write.{basic_fault, unless, write_basic}
use Rattle.primitives_calls.proofs.Judged.{field_written}
use Rattle.primitives_calls.proofs.write.bytes.Goals as goal

pub returns : goal.returns
unfolding basic_fault write_basic unless
returns c = field_written (fixed w32 never) _ _ (λ y. 0) refl _ c.sized.ensures
