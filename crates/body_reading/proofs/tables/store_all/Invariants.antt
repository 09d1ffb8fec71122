-- So many cells of the row are stored.
use mathlib.Core.Path.{◌≡◌}
use Prim.Native.Nat.{◌+◌}
use lib.ListN.{take}
use Rattle.body_reading.specs.Store.{store, tab}
use Rattle.body_reading.proofs.tables.store_all.Given as goal

abbrev pub invariant-loop-i : goal.invariant-loop-i
invariant-loop-i g l = tab l.table (l.mark + l.i) ≡ store (tab l.initial.table l.mark) (take l.i l.row)
