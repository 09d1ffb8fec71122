-- What a writer of a part of a body promises: the bytes, and the first fault, of the value that tables mean, by the one writer of all layouts.
-- Assumes nothing.
use Rattle.std.specs.Prelude.{cond, List, [], ◌++◌, ◌∷◌, ◌*◌, ◌/◌, ℕ, get_or, length}
use Rattle.layout.specs.Primitives.{Size, length_bytes}
use Rattle.layout.specs.Rows.{Shape}
use Rattle.layout.specs.Tables.{Tables, count, good, rows_of, times, value_of}
use Rattle.layout.specs.Write.{each, fault, first_of, write}

module _ (lent : List ℕ) (l : Shape) where
  -- of the row at the front of table o, with the rows of other tables that it takes
  unfoldable pub bytes_at : ℕ → Tables → List ℕ
  bytes_at o st = write l (value_of lent l o st).0

  unfoldable pub fault_at : ℕ → Tables → ℕ
  fault_at o st = fault l (value_of lent l o st).0

  -- of the first n rows of table o, one behind the other
  unfoldable pub items_bytes : ℕ → ℕ → Tables → List ℕ
  items_bytes n o st = each (write l) (times n (value_of lent l o) st).0

  unfoldable pub items_fault : ℕ → ℕ → Tables → ℕ
  items_fault n o st = first_of (fault l) (times n (value_of lent l o) st).0

  -- of a row with no arrays in it, by itself
  unfoldable pub row_bytes : List ℕ → List ℕ
  row_bytes r = bytes_at 0 (r ∷ [])

  unfoldable pub row_fault : List ℕ → ℕ
  row_fault r = fault_at 0 (r ∷ [])

  -- of all such rows of a table, w cells each
  unfoldable pub rows_bytes : ℕ → List ℕ → List ℕ
  rows_bytes w table = each row_bytes (rows_of w table)

  -- behind their number
  unfoldable pub counted_bytes : Size → ℕ → List ℕ → List ℕ
  counted_bytes z w table = length_bytes z (length table / w) ++ rows_bytes w table

  unfoldable pub rows_fault : ℕ → List ℕ → ℕ
  rows_fault w table = first_of row_fault (rows_of w table)

-- 13, or the first fault; 0 is none. n tables are lent beside the body's own row, and all that is lent is judged by the layout a
unfoldable pub refusal_of : List ℕ → ℕ → Shape → Shape → Tables → ℕ
refusal_of lent n a l st = cond (good (length lent) n a st) (fault_at lent l 0 st) 13

-- the cells that a row takes of the table of its items, w to an item: their number stands behind n cells
unfoldable pub takes : ℕ → ℕ → List ℕ → ℕ
takes w n r = count (get_or r n 0) * w
