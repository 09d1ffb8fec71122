-- What a writer leaves in the part of an output that it is lent.
use Rattle.std.specs.Prelude.{ℕ, leb, drop, length, cond, List, ◌++◌, ◌≡◌}
use Rattle.layout.specs.Primitives.{Size, compact, fixed, length_bytes, never, w16, w32}
use Rattle.primitives_put.specs.declared.Form.{Form}

-- bs put into d: r tells how many they are, and d' is what d is afterwards
pub record Put (bs d : List ℕ) (r : ℕ) (d' : List ℕ) : Type 0 where
  pub count : r ≡ length bs
  pub left : d' ≡ cond (leb (length bs) (length d)) (bs ++ drop (length bs) d) d

-- a length has the same bytes whatever null is
abbrev pub size_of : Form → Size
size_of Form.Int16 = fixed w16 never
size_of Form.Int32 = fixed w32 never
size_of Form.Compact = compact never

-- a text or data that is not null, behind its length
unfoldable pub behind_length : Size → List ℕ → List ℕ
behind_length z x = length_bytes z (length x) ++ x
