-- The cells of the row, the kind of its client name aside.
use mathlib.Core.List.{List, [], ◌++◌, ◌∷◌}
use mathlib.Core.Path.{ap}
use Prim.Native.Nat.{ℕ}
use lib.ListN.{get_or}
use Rattle.gateway_frame.specs.Replies.{request_row}
use Rattle.gateway_frame.proofs.request.header_of.Goals as goal

pub returns : goal.returns
unfolding request_row
returns c = ap (λ (f : List ℕ). get_or c.args.row.now 0 0 ∷ get_or c.args.row.now 1 0 ∷ get_or c.args.row.now 2 0 ∷ (f ++ (get_or c.args.row.now 6 0 ∷ []))) c.client_of.ensures
