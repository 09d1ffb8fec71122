-- Before each turn the first i rows stand there.
use Rattle.body_writing.proofs.Turns.{Walked}
use Rattle.body_reading.specs.Tagged.{tag_shape}
use Rattle.body_writing.specs.Writes.{row_bytes}
use Rattle.tagged_fields.proofs.writing.put_tags.Given as goal

abbrev pub invariant-loop-i : goal.invariant-loop-i
invariant-loop-i l = Walked (row_bytes l.lent tag_shape) 3 l.table l.initial.out l.i l.done l.out
