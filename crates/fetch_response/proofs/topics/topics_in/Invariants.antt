-- What is left to read from here is what was asked at the start.
use mathlib.Core.Bool.{false}
use Prim.Native.Nat.{◌-◌}
use Rattle.body_reading.specs.Walk.{walk}
use Rattle.body_reading.proofs.Chains.{Going}
use Rattle.fetch_response.specs.TopicShapes.{topic_shape}
use Rattle.fetch_response.specs.TopicWalks.{in_topics, no_marks}
use Rattle.fetch_response.proofs.topics.topics_in.Given as goal

abbrev pub invariant-loop : goal.invariant-loop
invariant-loop l = Going (λ e. walk false (topic_shape l.stable) 1) l.s l.count l.p (in_topics l.initial.topics l.initial.partitions l.initial.aborted no_marks) (l.count - l.counter) l.filled.next (in_topics l.topics l.partitions l.aborted l.filled.marks)
