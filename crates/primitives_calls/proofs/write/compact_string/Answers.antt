use mathlib.Core.Bool.{Bool}
use mathlib.Core.Path.{ap}
use Rattle.layout.specs.Primitives.{compact, never}
use Rattle.layout.specs.Utf8.{utf8}
use Rattle.layout.specs.Write.{basic_fault, unless, write_basic}
use Rattle.primitives_calls.proofs.Judged.{field_written}
use Rattle.primitives_calls.proofs.write.compact_string.Goals as goal

pub returns : goal.returns
unfolding basic_fault write_basic
returns c = field_written (compact never) _ _ (λ y. unless (utf8 y) 7) (ap (λ (b : Bool). unless b 7) c.is_text.ensures) _ c.sized.ensures
