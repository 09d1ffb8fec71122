-- What is left to read from here is what was asked at the start.
use mathlib.Core.Bool.{false}
use Prim.Native.Nat.{◌-◌}
use Rattle.body_reading.specs.Walk.{walk}
use Rattle.body_reading.proofs.Chains.{Going}
use Rattle.fetch_response.specs.TopicShapes.{partition_shape}
use Rattle.fetch_response.specs.TopicWalks.{in_partitions}
use Rattle.fetch_response.proofs.partitions.partitions_in.Given as goal

abbrev pub invariant-loop : goal.invariant-loop
invariant-loop l = Going (λ e. walk false (partition_shape l.stable) 2) l.s l.count l.p (in_partitions l.initial.partitions l.initial.aborted l.fn.marks) (l.count - l.counter) l.filled.next (in_partitions l.partitions l.aborted l.filled.marks)
