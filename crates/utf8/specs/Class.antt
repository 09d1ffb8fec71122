-- The class of a byte is the line of the grammar whose characters it begins, counted from 0; 9, their count, if it begins none. Assumes nothing.
use Rattle.std.specs.Prelude.{Bool, false, true, cond, List, [], ◌∷◌, ◌≡◌, ℕ, suc, ◌+◌, ◌*◌, ◌<◌, ◌≤◌, length, drop, get_or}
use Rattle.layout.specs.Utf8.{Range, within, characters, begins, well_formed}

unfoldable pub starts : List Range → ℕ → Bool
starts [] b = false
starts (r ∷ rs) b = within r b

unfoldable pub line_of : List (List Range) → ℕ → ℕ
line_of [] b = 0
line_of (c ∷ cs) b = cond (starts c b) 0 (suc (line_of cs b))

unfoldable pub class_of : ℕ → ℕ
class_of b = line_of characters b

-- a table of 256 entries that has the class of each byte
pub record Right (t : List ℕ) : Type 0 where
  pub at : (b : ℕ) → b < 256 → get_or t b 0 ≡ class_of b

-- the range of the second byte in a line
unfoldable pub second : List Range → Range
second [] = (0, 0)
second (r ∷ []) = (0, 0)
second (r ∷ q ∷ rs) = q

unfoldable pub second_of : ℕ → Range
second_of k = second (get_or characters k [])

-- the length of a character whose first byte was read, and whose others have these ranges; 0 if the text does not go on so
unfoldable pub after : List Range → List ℕ → ℕ
after rs s = cond (begins rs s) (suc (length rs)) 0

-- the bytes in front of a place are characters
pub record Along (s : List ℕ) (at : ℕ) : Type 0 where
  pub fits : at ≤ length s
  pub kept : well_formed s ≡ at + well_formed (drop at s)

-- r tells no more than that the eight bytes from a place are ASCII, and that all of them are to the end
pub record Ascii (s : List ℕ) (at : ℕ) (r : Bool) : Type 0 where
  pub each : r ≡ true → (i : ℕ) → i < 8 → get_or s (at + i) 0 < 128

pub record Ended (s : List ℕ) (r : Bool) : Type 0 where
  pub all : r ≡ true → Along s (length s)

-- four bytes from a place, the first one lowest
abbrev pub four_of : List ℕ → ℕ → ℕ
four_of s at = ((get_or s (at + 3) 0 * 256 + get_or s (at + 2) 0) * 256 + get_or s (at + 1) 0) * 256 + get_or s at 0
