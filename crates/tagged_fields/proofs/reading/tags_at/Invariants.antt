-- What is left to read from here is what was asked at the start.
use Prim.Native.Nat.{◌-◌}
use Rattle.body_reading.specs.Tagged.{tag_shape}
use Rattle.body_reading.specs.Walk.{walk}
use Rattle.body_reading.proofs.Chains.{Going}
use Rattle.tagged_fields.specs.Read.{in_table}
use Rattle.tagged_fields.proofs.reading.tags_at.Given as goal

abbrev pub invariant-loop-done : goal.invariant-loop-done
invariant-loop-done l = Going (λ e. walk e.0 tag_shape e.1.o) l.s l.count l.p (in_table l.initial.table l.mark) (l.count - l._done) l.filled.next (in_table l.table l.filled.mark)
