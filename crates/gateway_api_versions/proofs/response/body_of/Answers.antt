-- The cells of the row, the kind of its throttle time aside.
use mathlib.Core.List.{List, [], ◌++◌, ◌∷◌}
use mathlib.Core.Path.{ap}
use Prim.Native.Nat.{ℕ}
use lib.ListN.{get_or}
use Rattle.gateway_api_versions.specs.Replies.{response_row}
use Rattle.gateway_api_versions.proofs.response.body_of.Goals as goal

pub returns : goal.returns
unfolding response_row
returns c = ap (λ (t : List ℕ). get_or c.args.row.now 0 0 ∷ get_or c.args.row.now 1 0 ∷ (t ++ (get_or c.args.row.now 4 0 ∷ []))) c.of_row.ensures
