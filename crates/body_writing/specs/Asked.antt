-- What is asked of lent rows, whatever their width: ranges inside the lent bytes, counts that add up, and the content of a text. Assumes nothing.
use Rattle.std.specs.Prelude.{Bool, ◌&&◌, List, suc, ℕ, eqb, ltb, get_or, length}
use Rattle.layout.specs.Primitives.{fixed, limit, never, w16}
use Rattle.layout.specs.Tables.{all, count, good_count, inside, rows_of, sum}
use Rattle.layout.specs.Utf8.{utf8}
use Rattle.layout.specs.Write.{or, unless}
use Rattle.body_writing.specs.declared.ranges.Row.{Row}

-- the cells of a row, and where its start stands; its length stands behind that
abbrev pub width_of : Row → ℕ
width_of Row.Name = 2
width_of Row.Topic = 3
width_of Row.Tag = 3

abbrev pub start_of : Row → ℕ
start_of Row.Name = 0
start_of Row.Topic = 0
start_of Row.Tag = 1

-- the row's range is inside the lent bytes, `size` in all
unfoldable pub ranged : ℕ → ℕ → List ℕ → Bool
ranged at size r = inside size (get_or r at 0) (get_or r (suc at) 0)

unfoldable pub all_ranged : ℕ → ℕ → ℕ → List ℕ → Bool
all_ranged w at size table = all (ranged at size) (rows_of w table)

-- ---- counts

-- the rows that a row's count tells
unfoldable pub told : ℕ → List ℕ → ℕ
told at r = count (get_or r at 0)

-- `b`: it may be −1
unfoldable pub told_good : Bool → ℕ → List ℕ → Bool
told_good b at r = good_count b (get_or r at 0)

-- the rows tell n in all
unfoldable pub tells : Bool → ℕ → ℕ → List (List ℕ) → Bool
tells b at n rs = all (told_good b at) rs && eqb (sum (told at) rs) n

-- ---- text

-- of the content of a STRING, 11 before 7; 0 is neither
unfoldable pub string_fault : List ℕ → ℕ
string_fault x = or (unless (ltb (length x) (limit (fixed w16 never))) 11) (unless (utf8 x) 7)
