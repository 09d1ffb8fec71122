-- The promise of `befrolan_agree` determines what the run of numbers holds: it is an equation with the definition.
use mathlib.Core.List.{List}
use mathlib.Core.Path.{◌∙◌, ◌≡◌, sym}
use lib.IntN.{ℤ}

pub agree_unique : (o x y : List ℤ) → x ≡ o → y ≡ o → x ≡ y
agree_unique o x y h k = h ∙ sym k
