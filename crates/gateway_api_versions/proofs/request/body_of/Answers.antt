-- The cells of the row, the kinds of its texts aside.
use mathlib.Core.List.{List, [], ◌++◌, ◌∷◌}
use mathlib.Core.Path.{ap₂}
use Prim.Native.Nat.{ℕ}
use lib.ListN.{get_or}
use Rattle.gateway_api_versions.specs.Replies.{request_row}
use Rattle.gateway_api_versions.proofs.request.body_of.Goals as goal

pub returns : goal.returns
unfolding request_row
returns c = ap₂ (λ (t u : List ℕ). t ++ (u ++ (get_or c.args.row.now 6 0 ∷ []))) c.text_of.ensures c.text_of-2.ensures
