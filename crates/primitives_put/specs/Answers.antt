-- What a call that writes answers, and the output behind it.
use Rattle.std.specs.Prelude.{◌-◌, ◌^◌, ℕ, leb, ltb, length, Bool, cond, false, true, List, [], Result, Ok, Err, Some, None, Option as Maybe}
use Rattle.std.proofs.Math.Option.{Option, none, some}
use denote.Ref.{Bor}
use Rattle.layout.specs.Reading.{no_room}
use Rattle.layout.specs.Answers.{Answer, accepted, refused}
use Rattle.layout.specs.Primitives.{Size, length_bytes, limit, null_bytes}
use Rattle.layout.specs.Write.{or, too_long, unless}
use Rattle.primitives.specs.Answers.{of_refusal}
use Rattle.primitives.specs.declared.Refusal.{Refusal}

-- how many bytes were written, or why none were
abbrev pub Written : Type 0
Written = Result ℕ Refusal

-- writers have no row to show
abbrev pub of_written : Written → Answer
of_written (Ok n) = accepted [] n
of_written (Err e) = refused (of_refusal e)

-- a count, or null
unfoldable pub count_bytes : Size → Maybe ℕ → List ℕ
count_bytes z None = null_bytes z
count_bytes z (Some n) = length_bytes z n

-- 2: a count that cannot be carried, for an array of so many items is over the size of a body
unfoldable pub count_fault : Size → Maybe ℕ → ℕ
count_fault z None = 0
count_fault z (Some n) = unless (ltb n (limit z)) 2

-- 11: too long; else e, what is wrong inside
unfoldable pub length_fault : Size → List ℕ → ℕ → ℕ
length_fault z x e = or (too_long z (length x)) e

-- null, or the value that is lent
abbrev pub null_or : Maybe (Bor (List ℕ)) → Option (List ℕ)
null_or None = none
null_or (Some x) = some x.now

-- the answer where n bytes were put into an output of so much room
unfoldable pub told : ℕ → ℕ → Answer
told room n = cond (leb n room) (accepted [] n) (refused (no_room n))

-- the answer, and the output behind it
abbrev pub replied : Written → List ℕ → Answer × List ℕ
replied r d = (of_written r, d)

-- the cell holds a number from −half to half − 1
unfoldable pub within : ℕ → ℕ → Bool
within half c = cond (ltb c half) true (cond (leb (2 ^ 64 - half) c) (ltb c (2 ^ 64)) false)
