-- What the entry point for version agreement hands back: row behind row, each cell as its signed number. Assumes nothing.
use Rattle.std.specs.Prelude.{List, map, ℕ, ℤ}
use Rattle.layout.specs.Primitives.{signed, w64}
use Rattle.layout.specs.Agreement.{agreement}
use Rattle.layout.specs.Write.{each}

unfoldable pub agreed_numbers : List ℕ → List ℤ
agreed_numbers items = map (signed w64) (each (λ r. r) (agreement items))
