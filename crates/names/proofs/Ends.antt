-- Where a field ends: what the walk learns of each.
use Rattle.std.proofs.Common.{◌≡◌, ℕ, ◌≤◌, refl}
use mathlib.Core.Option.{Option, some}
use Rattle.std.specs.Prelude.{Ok, Err}
use Rattle.layout.specs.Reading.{Res, bad, ok}
use Rattle.layout.specs.Tables as Tables
use Rattle.layout.proofs.Tests.{lt-false}
use Rattle.primitives.specs.Answers.{Read, of_read}
use Rattle.primitives.specs.Parts.{there}
use Rattle.names.specs.Walks.{count_up_to, extent}

-- a number of elements that the walk passes
pub count_goes : (q k n : ℕ) → n ≤ q → some (k, n) ≡ count_up_to q (ok k n)
count_goes q k n h = rw (lt-false q n h)

-- the place after what was read is the same however the value is shown
pub ends_alike : {A B C : Type 0} (f : A → B) (g : A → C) (r : Read A) → extent (of_read f r) ≡ extent (of_read g r)
ends_alike f g (Ok t) = refl
ends_alike f g (Err e) = refl

pub there_ends : (o : Res (Option Tables.Span)) → extent (there o) ≡ extent o
there_ends (ok y n) = refl
there_ends (bad e) = refl
