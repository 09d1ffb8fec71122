use mathlib.Core.Bool.{Bool}
use mathlib.Core.Path.{ap}
use Rattle.layout.specs.Primitives.{compact, kept, length_bytes, null_bytes}
use Rattle.layout.specs.Utf8.{utf8}
use Rattle.layout.specs.Write.{basic_fault, too_long, unless, write_basic}
use Rattle.primitives_put.specs.Put.{behind_length}
use Rattle.primitives_put.specs.Answers.{length_fault}
use Rattle.primitives_calls.proofs.Judged.{null_written, some_written}
use Rattle.primitives_calls.proofs.write.compact_nullable_string.Goals as goal

pub returns-in-Some : goal.returns-in-Some
unfolding basic_fault write_basic length_fault behind_length length_bytes too_long
returns-in-Some c = rw c.in-Some.is (some_written (compact kept) _ _ (λ y. unless (utf8 y) 7) (ap (λ (b : Bool). unless b 7) c.is_text.ensures) _ c.sized.ensures)

pub returns-in-None : goal.returns-in-None
unfolding basic_fault write_basic null_bytes
returns-in-None c = rw c.in-None.is (null_written (compact kept) _ (λ y. unless (utf8 y) 7) _ c.null_length.ensures)
