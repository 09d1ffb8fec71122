-- The first row that begins with a cell decides, whatever rows come after it.
use mathlib.Core.List.{List, [], ◌++◌, ◌∷◌}
use mathlib.Core.Logic.{◌≢◌}
use mathlib.Core.Option.{some}
use mathlib.Core.Path.{◌≡◌}
use Prim.Native.Nat.{ℕ}
use lib.ListN.{get_or}
use borrow.Author.Tests.{eq-eqb, ne_eqb}
use Rattle.layout.specs.Tables.{first_row}
use Rattle.layout.proofs.Every.{All}

-- the row begins with another cell
abbrev pub Other : ℕ → List ℕ → Type 0
Other c r = get_or r 0 0 ≢ c

pub first_decides : (c : ℕ) (before : List (List ℕ)) (r : List ℕ) (after : List (List ℕ)) → All (Other c) before → get_or r 0 0 ≡ c → first_row c (before ++ r ∷ after) ≡ some r
unfolding first_row
first_decides c [] r after h e = rw (eq-eqb (get_or r 0 0) c e)
first_decides c (q ∷ before) r after h e = rw (ne_eqb (get_or q 0 0) c h.0) (first_decides c before r after h.1 e)
