-- What is left to read from here is what was asked at the start.
use mathlib.Core.Bool.{false}
use Rattle.body_reading.specs.Walk.{walk}
use Rattle.body_reading.proofs.Turns.{Turned}
use Rattle.metadata_response.specs.TopicShapes.{partition_shape}
use Rattle.metadata_response.specs.TopicWalks.{in_partitions}
use Rattle.metadata_response.proofs.partitions.partitions_in.Given as goal

abbrev pub invariant-loop : goal.invariant-loop
invariant-loop l = Turned (λ e. walk false partition_shape 3) l.s l.count l.p (in_partitions l.initial.partitions l.initial.replicas l.initial.synced l.initial.all.value) l.counter l.all.next (in_partitions l.partitions l.replicas l.synced l.all.value)
