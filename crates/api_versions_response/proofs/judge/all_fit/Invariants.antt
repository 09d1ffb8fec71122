-- Before each turn the rows of the turns before have no fault, and those left decide.
use Prim.Native.Nat.{◌*◌}
use Rattle.body_writing.proofs.Judged.{Judged}
use Rattle.api_versions_response.proofs.Fits.{clean}
use Rattle.api_versions_response.proofs.judge.all_fit.Given as goal

abbrev pub invariant-loop-turn : goal.invariant-loop-turn
invariant-loop-turn l = Judged clean 4 l.items (l.turn * 2)
