-- What is left to read from here is what was asked at the start.
use mathlib.Core.Bool.{false}
use Rattle.body_reading.specs.Walk.{walk}
use Rattle.body_reading.proofs.Turns.{Turned}
use Rattle.metadata_response.specs.Brokers.{at_brokers, broker_shape}
use Rattle.metadata_response.proofs.brokers.brokers_in.Given as goal

abbrev pub invariant-loop : goal.invariant-loop
invariant-loop l = Turned (λ e. walk false (broker_shape l.racked) 1) l.s l.count l.p (at_brokers l.initial.table 0) l.counter l.all.next (at_brokers l.table l.all.mark)
