-- Before each turn the first p bytes are copied; the last eight go behind them or over their end.
use Prim.Native.Nat.{◌-◌}
use Rattle.primitives_put.proofs.Parts.{Copied}
use Rattle.primitives_put.proofs.by_eights.Given as goal

abbrev pub invariant-loop-p : goal.invariant-loop-p
invariant-loop-p l = Copied l.initial.out l.content l.out l.p

abbrev pub decreases-loop-p : goal.decreases-loop-p
decreases-loop-p l = l.n - l.p
