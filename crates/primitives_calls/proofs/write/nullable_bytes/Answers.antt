use mathlib.Core.Path.{refl}
use Rattle.layout.specs.Primitives.{fixed, kept, length_bytes, null_bytes, w32}
use Rattle.layout.specs.Write.{basic_fault, too_long, unless, write_basic}
use Rattle.primitives_put.specs.Put.{behind_length}
use Rattle.primitives_put.specs.Answers.{length_fault}
use Rattle.primitives_calls.proofs.Judged.{null_written, some_written}
use Rattle.primitives_calls.proofs.write.nullable_bytes.Goals as goal

pub returns-in-Some : goal.returns-in-Some
unfolding basic_fault write_basic unless length_fault behind_length length_bytes too_long
returns-in-Some c = rw c.in-Some.is (some_written (fixed w32 kept) _ _ (λ y. 0) refl _ c.sized.ensures)

pub returns-in-None : goal.returns-in-None
unfolding basic_fault write_basic null_bytes
returns-in-None c = rw c.in-None.is (null_written (fixed w32 kept) _ (λ y. 0) _ c.null_length.ensures)
