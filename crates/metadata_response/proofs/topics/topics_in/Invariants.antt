-- What is left to read from here is what was asked at the start.
use mathlib.Core.Bool.{false}
use Rattle.body_reading.specs.Walk.{walk}
use Rattle.body_reading.proofs.Turns.{Turned}
use Rattle.metadata_response.specs.TopicShapes.{topic_shape}
use Rattle.metadata_response.specs.TopicWalks.{in_topics, no_marks}
use Rattle.metadata_response.proofs.topics.topics_in.Given as goal

abbrev pub invariant-loop : goal.invariant-loop
invariant-loop l = Turned (λ e. walk false (topic_shape l.flagged) 2) l.s l.count l.p (in_topics l.initial.topics l.initial.partitions l.initial.replicas l.initial.synced no_marks) l.counter l.all.next (in_topics l.topics l.partitions l.replicas l.synced l.all.value)
