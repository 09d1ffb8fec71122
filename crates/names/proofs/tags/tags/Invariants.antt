-- What is left from here is what was asked at the start, with the rows of the tags passed.
use Rattle.std.proofs.Common.{◌≡◌, ◌-◌}
use Rattle.layout.specs.Reading.{loop}
use Rattle.body_reading.specs.Tagged.{tag_shape}
use Rattle.body_reading.specs.Walk.{on}
use Rattle.names.specs.Walks.{element, many_begun}
use Rattle.names.proofs.tags.tags.Given as goal

abbrev pub invariant-loop-passed : goal.invariant-loop-passed
invariant-loop-passed l = (on (loop l.count (element l.q tag_shape l.t) l.initial.begun) l.s l.p ≡ on (loop (l.count - l.passed) (element l.q tag_shape l.t) (many_begun l.passed l.t l.initial.begun)) l.s l.next) × (l.begun ≡ l.initial.begun)
