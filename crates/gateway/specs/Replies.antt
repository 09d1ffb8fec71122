-- What the entry points hand back: for each answer of the definitions (layout/specs/Answers.antt) the numbers of the struct.
-- An acceptance has the number 0; a refusal tells its number, place and need, and every other number is 0. Assumes nothing.
use Rattle.std.specs.Prelude.{List, [], ℕ}
use Rattle.layout.specs.Answers.{Answer, accepted, refused}
use Rattle.gateway.specs.declared.Numbers.{Numbers}

-- the answer as numbers, and the tables or the output as they are
unfoldable pub told : {N A : Type 0} → (Answer → N) → Answer × A → N × A
told f x = (f x.0, x.1)

abbrev pub numbers : Answer → Numbers
numbers (accepted cs n) = record { number = 0; place = 0; need = 0; used = n }
numbers (refused e) = record { number = e.number; place = e.place; need = e.need; used = 0 }

-- the own row of what is accepted; a refusal has none, and every number read from it is 0
abbrev pub row_of : Answer → List ℕ
row_of (accepted cs n) = cs
row_of (refused e) = []
