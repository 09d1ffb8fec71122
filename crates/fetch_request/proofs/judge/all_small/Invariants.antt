-- Before each turn the rows of the turns before have no fault, and those left decide.
use Prim.Native.Nat.{◌*◌}
use Rattle.body_writing.proofs.Judged.{Judged}
use Rattle.fetch_request.proofs.Judgement.{clean}
use Rattle.fetch_request.proofs.judge.all_small.Given as goal

abbrev pub invariant-loop-turn : goal.invariant-loop-turn
invariant-loop-turn l = Judged clean 3 l.partitions (l.turn * 2)
