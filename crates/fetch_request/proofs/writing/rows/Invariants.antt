-- Before each turn the first i partitions stand there, up to p.
use Prim.Native.Nat.{◌-◌}
use lib.ListN.{length}
use mathlib.Core.List.{[]}
use Rattle.body_writing.specs.Writes.{row_bytes}
use Rattle.fetch_request.specs.Shapes.{partition_shape}
use Rattle.body_writing.proofs.Even.{Even}
use Rattle.fetch_request.proofs.writing.rows.Given as goal

abbrev pub invariant-loop-out : goal.invariant-loop-out
invariant-loop-out l = Even (row_bytes [] partition_shape) 16 3 l.table l.initial.out l.i l.p l.out

abbrev pub decreases-loop-out : goal.decreases-loop-out
decreases-loop-out l = length l.initial.out - l.p
