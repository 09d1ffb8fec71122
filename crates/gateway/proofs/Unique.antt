-- The promises determine the replies, with the tables or the output.
use mathlib.Core.List.{List}
use mathlib.Core.Path.{◌∙◌, ◌≡◌, sym}
use Prim.Native.Nat.{ℕ}
use Rattle.gateway.specs.declared.Numbers.{Numbers}

-- each promise is an equation: what an entry point hands back and leaves is what the definition gives
pub unique : {R : Type 0} (o x y : R) → x ≡ o → y ≡ o → x ≡ y
unique o x y h k = h ∙ sym k

-- all writers
pub written_unique : (o x y : Numbers × List ℕ) → x ≡ o → y ≡ o → x ≡ y
written_unique = unique
