-- What is found among the brokers left is what is found among all: those passed have other nodes.
use mathlib.Core.List.{[]}
use Rattle.body_reading.specs.Walk.{row_from}
use Rattle.metadata_response.specs.Brokers.{broker_shape}
use Rattle.metadata_lookup.proofs.Bodies.{After}
use Rattle.metadata_lookup.proofs.seek.Given as goal

abbrev pub invariant-loop : goal.invariant-loop
invariant-loop l = After (row_from [] (broker_shape l.racked)) l.s l.node l.count l.p l.counter l.place
