-- What is known of a message before any room is looked at: the body's own row, and the cells that each table will have. Assumes nothing.
use Rattle.std.specs.Prelude.{cond, List, [], ◌∷◌, ◌/◌, ℕ, eqb, leb, drop, get_or, length}
use Rattle.std.proofs.Math.Option.{Option, none, some}
use Rattle.layout.specs.Reading.{Res, bad, ok}
use Rattle.layout.specs.Tables.{Tables}

abbrev pub lengths : Tables → List ℕ
lengths [] = []
lengths (l ∷ ls) = length l ∷ lengths ls

unfoldable pub metered : Res Tables → Res (List ℕ × List ℕ)
metered (ok st n) = ok (get_or st 0 [], lengths (drop 1 st)) n
metered (bad e) = bad e

-- the rows needed of the first table that is too small: widths, cells that there will be, cells lent
unfoldable pub short : List ℕ → List ℕ → List ℕ → Option ℕ
short [] ms ls = none
short (w ∷ ws) [] ls = none
short (w ∷ ws) (m ∷ ms) [] = cond (eqb (m / w) 0) (short ws ms []) (some (m / w))
short (w ∷ ws) (m ∷ ms) (l ∷ ls) = cond (leb (m / w) (l / w)) (short ws ms ls) (some (m / w))
