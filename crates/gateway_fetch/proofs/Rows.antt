-- The own row of a response that was read: the cells of its throttle time, and the number of topics.
use mathlib.Core.List.{[], ◌++◌, ◌∷◌}
use mathlib.Core.Path.{◌∙◌, ◌≡◌, ap, refl}
use Prim.Native.Nat.{ℕ}
use lib.ListN.{get_or}
use Rattle.layout.specs.Answers.{accepted, refused}
use Rattle.layout.specs.Reading.{Refusal}
use Rattle.body_reading.specs.Cells.{given, versioned_cells}
use Rattle.std.specs.Prelude.{Option, Some, None}
use Rattle.gateway.specs.Replies.{numbers}
use Rattle.gateway.specs.declared.Numbers.{Numbers}
use Rattle.gateway_fetch.specs.Replies.{fetch_numbers}
use Rattle.gateway_fetch.specs.declared.FetchNumbers.{FetchNumbers}

module _ (k : ℕ) where
  abbrev shown : Numbers → ℕ → ℕ → FetchNumbers
  shown r a x = record { answer = r; timed = a; throttle = x; topics = k }

  module _ (n : ℕ) where
    by_time : (t : Option ℕ) → shown (numbers (accepted [] n)) (get_or (versioned_cells t) 0 0) (given 0 t) ≡ fetch_numbers (accepted (versioned_cells t ++ (k ∷ [])) n)
    by_time None = refl
    by_time (Some x) = refl

    pub time_told : (t : Option ℕ) (r : Numbers) (a x : ℕ) → r ≡ numbers (accepted [] n) → a ≡ get_or (versioned_cells t) 0 0 → x ≡ given 0 t → shown r a x ≡ fetch_numbers (accepted (versioned_cells t ++ (k ∷ [])) n)
    time_told t r a x d e f = (λ i. shown (d i) (e i) (f i)) ∙ by_time t

-- and of a refusal: none
pub none_told : (e : Refusal) (r : Numbers) → r ≡ numbers (refused e) → shown 0 r 0 0 ≡ fetch_numbers (refused e)
none_told e r h = ap (λ (x : Numbers). shown 0 x 0 0) h
