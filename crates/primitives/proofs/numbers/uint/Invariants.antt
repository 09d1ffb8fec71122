-- The bytes before byte i are the number so far.
use mathlib.Core.Path.{◌≡◌}
use Prim.Native.Nat.{◌<◌, ◌^◌}
use lib.ListN.{take}
use Rattle.layout.specs.Primitives.{be}
use Rattle.primitives.proofs.numbers.uint.Given as goal

abbrev pub invariant-loop-i : goal.invariant-loop-i
invariant-loop-i g l = (l.value ≡ be 0 (take l.i l.s)) × (l.value < 256 ^ l.i)
