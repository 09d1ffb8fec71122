-- Text is well-formed UTF-8, by the grammar of RFC 3629, section 4: UTF8-octets = *( UTF8-char ). Assumes nothing.
use Rattle.std.specs.Prelude.{Bool, true, false, cond, ◌&&◌, List, [], ◌∷◌, ℕ, zero, suc, ◌-◌, length, leb, eqb}

-- the bytes from .0 to .1
abbrev pub Range : Type 0
Range = ℕ × ℕ

unfoldable pub within : Range → ℕ → Bool
within r b = leb r.0 b && leb b r.1

abbrev pub tail : Range
tail = (0x80, 0xBF)

-- UTF8-char, one alternative of the grammar a line
unfoldable pub characters : List (List Range)
characters =
    ((0x00, 0x7F) ∷ [])
    ∷ ((0xC2, 0xDF) ∷ tail ∷ [])
    ∷ ((0xE0, 0xE0) ∷ (0xA0, 0xBF) ∷ tail ∷ [])
    ∷ ((0xE1, 0xEC) ∷ tail ∷ tail ∷ [])
    ∷ ((0xED, 0xED) ∷ (0x80, 0x9F) ∷ tail ∷ [])
    ∷ ((0xEE, 0xEF) ∷ tail ∷ tail ∷ [])
    ∷ ((0xF0, 0xF0) ∷ (0x90, 0xBF) ∷ tail ∷ tail ∷ [])
    ∷ ((0xF1, 0xF3) ∷ tail ∷ tail ∷ tail ∷ [])
    ∷ ((0xF4, 0xF4) ∷ (0x80, 0x8F) ∷ tail ∷ tail ∷ [])
    ∷ []

-- the text begins with bytes of these ranges
unfoldable pub begins : List Range → List ℕ → Bool
begins [] s = true
begins (r ∷ rs) [] = false
begins (r ∷ rs) (b ∷ s) = within r b && begins rs s

-- the length of the first alternative that the text begins with; 0 if there is none
unfoldable pub first : List (List Range) → List ℕ → ℕ
first [] s = 0
first (c ∷ cs) s = cond (begins c s) (length c) (first cs s)

-- the length of the longest well-formed beginning, where k bytes of a character are still to come
unfoldable pub well_formed_from : ℕ → List ℕ → ℕ
well_formed_from k [] = 0
well_formed_from (suc k) (b ∷ s) = suc (well_formed_from k s)
well_formed_from zero (b ∷ s) = let n = first characters (b ∷ s) in let r = suc (well_formed_from (n - 1) s) in cond (eqb n 0) 0 r

-- the length of the longest well-formed beginning
unfoldable pub well_formed : List ℕ → ℕ
well_formed s = well_formed_from 0 s

unfoldable pub utf8 : List ℕ → Bool
utf8 s = eqb (well_formed s) (length s)
