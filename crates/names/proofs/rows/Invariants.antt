-- What is left from here is what was asked at the start, whatever the layout of the elements.
use Rattle.std.proofs.Common.{◌≡◌, ℕ, List, ◌-◌, length}
use Rattle.layout.specs.Reading.{loop}
use Rattle.layout.specs.Rows.{Shape}
use Rattle.body_reading.specs.Walk.{on}
use Rattle.names.specs.Walks.{Each, element}
use Rattle.names.proofs.rows.Given as goal

abbrev pub invariant-loop : goal.invariant-loop
invariant-loop g l = ((q : ℕ) (i : Shape) (s : List ℕ) → Each q i s (goal.F-post g l.walk) → on (loop l.count (element q i l.t) l.initial.begun) s l.p ≡ on (loop (l.count - l.counter) (element q i l.t) l.begun) s l.next) × (length l.begun ≡ length l.initial.begun)
