-- Eight stores from the front on.
use mathlib.Core.List.{[], ◌∷◌}
use native.Mathlib.Omega.{arith}
use lib.ListN.{get_or}
use Rattle.primitives_put.proofs.Parts.{first_eight, sets_inside, sets_long}
use Rattle.primitives_put.proofs.eight.Goals as goal

pub bounds-out-1 : goal.bounds-out-1
bounds-out-1 c = sets_inside (get_or c.args.content.now 0 0 ∷ []) c.args.out.now 0 1 (omega (arith, c.requires.0))

pub bounds-out-2 : goal.bounds-out-2
bounds-out-2 c = sets_inside (get_or c.args.content.now 0 0 ∷ get_or c.args.content.now 1 0 ∷ []) c.args.out.now 0 2 (omega (arith, c.requires.0))

pub bounds-out-3 : goal.bounds-out-3
bounds-out-3 c = sets_inside (get_or c.args.content.now 0 0 ∷ get_or c.args.content.now 1 0 ∷ get_or c.args.content.now 2 0 ∷ []) c.args.out.now 0 3 (omega (arith, c.requires.0))

pub bounds-out-4 : goal.bounds-out-4
bounds-out-4 c = sets_inside (get_or c.args.content.now 0 0 ∷ get_or c.args.content.now 1 0 ∷ get_or c.args.content.now 2 0 ∷ get_or c.args.content.now 3 0 ∷ []) c.args.out.now 0 4 (omega (arith, c.requires.0))

pub bounds-out-5 : goal.bounds-out-5
bounds-out-5 c = sets_inside (get_or c.args.content.now 0 0 ∷ get_or c.args.content.now 1 0 ∷ get_or c.args.content.now 2 0 ∷ get_or c.args.content.now 3 0 ∷ get_or c.args.content.now 4 0 ∷ []) c.args.out.now 0 5 (omega (arith, c.requires.0))

pub bounds-out-6 : goal.bounds-out-6
bounds-out-6 c = sets_inside (get_or c.args.content.now 0 0 ∷ get_or c.args.content.now 1 0 ∷ get_or c.args.content.now 2 0 ∷ get_or c.args.content.now 3 0 ∷ get_or c.args.content.now 4 0 ∷ get_or c.args.content.now 5 0 ∷ []) c.args.out.now 0 6 (omega (arith, c.requires.0))

pub bounds-out-7 : goal.bounds-out-7
bounds-out-7 c = sets_inside (get_or c.args.content.now 0 0 ∷ get_or c.args.content.now 1 0 ∷ get_or c.args.content.now 2 0 ∷ get_or c.args.content.now 3 0 ∷ get_or c.args.content.now 4 0 ∷ get_or c.args.content.now 5 0 ∷ get_or c.args.content.now 6 0 ∷ []) c.args.out.now 0 7 (omega (arith, c.requires.0))

pub shape_of-out : goal.shape_of-out
shape_of-out c = sets_long (get_or c.args.content.now 0 0 ∷ get_or c.args.content.now 1 0 ∷ get_or c.args.content.now 2 0 ∷ get_or c.args.content.now 3 0 ∷ get_or c.args.content.now 4 0 ∷ get_or c.args.content.now 5 0 ∷ get_or c.args.content.now 6 0 ∷ get_or c.args.content.now 7 0 ∷ []) c.args.out.now 0

pub returns : goal.returns
returns c = first_eight c.args.content.now c.args.out.now c.requires.1 c.requires.0
