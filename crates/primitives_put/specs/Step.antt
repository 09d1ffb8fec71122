-- What a writer leaves in the output that it is lent. Assumes nothing.
use Rattle.std.specs.Prelude.{◌+◌, ◌≤◌, min, ℕ, drop, length, List, ◌++◌, ◌≡◌}
use Rattle.layout.specs.Answers.{most}

-- bs written into d: r tells how many they are, room or not, and d' is what d is afterwards.
-- Where there is room they stand at the front, and what is behind them is untouched.
pub record Step (bs d : List ℕ) (r : ℕ) (d' : List ℕ) : Type 0 where
  pub count : r ≡ length bs
  pub long : length d' ≡ length d
  pub stored : length bs ≤ length d → d' ≡ bs ++ drop (length bs) d

-- counts over the most that may be written are not told apart
abbrev pub cap : ℕ → ℕ
cap n = min n (most + 1)

-- a step of a walk, whose bytes may be more than any number of the machine: the count is right up to the limit, and over it where the bytes are.
-- Bytes over the limit may be stored anyhow
pub record Capped (bs d : List ℕ) (r : ℕ) (d' : List ℕ) : Type 0 where
  pub count : cap r ≡ cap (length bs)
  pub long : length d' ≡ length d
  pub stored : length bs ≤ most → length bs ≤ length d → d' ≡ bs ++ drop (length bs) d
