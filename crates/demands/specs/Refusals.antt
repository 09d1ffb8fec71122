-- The first demand, of a refusal: "Bad input gets a number from the table and a place; a refusal leaves every lent table and output unaltered." Assumes nothing.
use Rattle.std.specs.Prelude.{◌⊎◌, ◌≢◌, ◌≡◌, ◌≤◌, ℕ}
use Rattle.layout.specs.Reading.{Refusal, nowhere}
use Rattle.layout.specs.Answers.{Answer, accepted, refused}

-- a number of the table, a place in the message of `size` bytes, and a need with 10 alone. On writing `size` is 0, and so is the place
pub record Fair (size : ℕ) (e : Refusal) : Type 0 where
  pub least : 1 ≤ e.number
  pub greatest : e.number ≤ 14
  pub place_in : e.place ≤ size
  pub no_need : e.number ≢ 10 → e.need ≡ 0

-- an answer, and what was lent before and after it: an acceptance; or a fair refusal, and what was lent is as it was
abbrev pub Answered : {A : Type 0} → ℕ → A → A → Answer → Type 0
Answered size before after (accepted r n) = Unit {0}
Answered size before after (refused e) = Fair size e × (after ≡ before)

-- the same in the numbers that the C interface hands back: 0 is an acceptance
abbrev pub InNumbers : {A : Type 0} → ℕ → A → A → ℕ → ℕ → ℕ → Type 0
InNumbers size before after n p k = (n ≡ 0) ⊎ (Fair size (record { number = n; place = p; need = k; message = 0; row = nowhere; field = nowhere }) × (after ≡ before))
