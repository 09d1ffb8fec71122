-- The cells of the row, the two numbers that may be unset aside.
use mathlib.Core.List.{List, [], ◌++◌, ◌∷◌}
use mathlib.Core.Path.{ap₂}
use Prim.Native.Nat.{ℕ}
use lib.ListN.{get_or}
use Rattle.gateway_fetch.specs.Replies.{request_row}
use Rattle.gateway_fetch.proofs.request.body_of.Goals as goal

pub returns : goal.returns
unfolding request_row
returns c = ap₂ (λ (t u : List ℕ). get_or c.args.row.now 0 0 ∷ get_or c.args.row.now 1 0 ∷ get_or c.args.row.now 2 0 ∷ (t ++ (u ++ (get_or c.args.row.now 7 0 ∷ [])))) c.of_row.ensures c.of_row-2.ensures
