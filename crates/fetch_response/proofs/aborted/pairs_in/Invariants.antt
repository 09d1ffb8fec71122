-- What is left to read from here is what was asked at the start.
use mathlib.Core.Bool.{false, true}
use Prim.Native.Nat.{◌-◌}
use Rattle.body_reading.specs.Walk.{in_place, walk}
use Rattle.body_reading.proofs.Chains.{Going}
use Rattle.fetch_response.specs.TopicShapes.{aborted_shape}
use Rattle.fetch_response.proofs.aborted.pairs_in.Given as goal

abbrev pub invariant-loop : goal.invariant-loop
invariant-loop l = Going (λ e. walk false (aborted_shape true) e.o) l.s l.count l.p (in_place l.initial.table l.mark) (l.count - l.counter) l.filled.next (in_place l.table l.filled.mark)
