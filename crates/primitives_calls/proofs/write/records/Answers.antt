use mathlib.Core.Path.{refl}
use Rattle.layout.specs.Primitives.{empty, fixed, length_bytes, w32}
use Rattle.layout.specs.Write.{basic_fault, too_long, unless, write_basic}
use Rattle.primitives_put.specs.Put.{behind_length}
use Rattle.primitives_put.specs.Answers.{length_fault}
use Rattle.primitives_calls.proofs.Judged.{field_written}
use Rattle.primitives_calls.proofs.write.records.Goals as goal

pub returns : goal.returns
unfolding basic_fault write_basic unless length_fault behind_length length_bytes too_long
returns c = field_written (fixed w32 empty) _ _ (λ y. 0) refl _ c.sized.ensures
