-- The mark that private functions promise.
use Rattle.std.specs.Prelude.{suc, zero, ℕ}
use Rattle.body_reading.specs.Store.{step}

-- a mark behind n cells, room or not
unfoldable pub steps : ℕ → ℕ → ℕ
steps zero k = k
steps (suc n) k = steps n (step k)
