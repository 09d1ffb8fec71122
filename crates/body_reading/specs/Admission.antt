-- What is checked of a message before its bytes are: its version, and then its size.
use Rattle.std.specs.Prelude.{◌⊎◌, ◌≡◌, ◌<◌, ◌≤◌, ℕ, ℤ, Result, Ok, Err}
use Rattle.layout.specs.Answers.{most}
use Rattle.layout.specs.Reading.{because}
use Rattle.primitives.specs.Answers.{of_refusal, version_of}
use Rattle.primitives.specs.declared.Refusal.{Refusal}

-- of n bytes: 1 for a version that is not one of 0 to the last, then 2 for the size
unfoldable pub Judged : ℤ → ℕ → ℕ → Result ℕ Refusal → Type 0
Judged z last n (Ok v) = (v ≡ version_of z) × ((v ≤ last) × (n ≤ most))
Judged z last n (Err e) = ((last < version_of z) × (of_refusal e ≡ because 1 0)) ⊎ ((version_of z ≤ last) × ((most < n) × (of_refusal e ≡ because 2 0)))
