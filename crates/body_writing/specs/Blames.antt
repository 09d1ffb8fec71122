-- What a walk to the faulty field of a refused writer answers, in the definition's words: the first field, in what tables mean, whose fault is e. Assumes nothing.
use Rattle.std.specs.Prelude.{false, List, [], ◌∷◌, ◌≢◌, ◌≡◌, ◌≤◌, ℕ, length, Result, Ok, Err}
use Rattle.layout.specs.Names.{Sought, blame, blame_each, fieldless, past, there}
use Rattle.layout.specs.Rows.{Shape}
use Rattle.layout.specs.Tables.{Tables, rows_of, sum, times, value_of}
use Rattle.names.specs.declared.Found.{Found}

-- the end of what was walked over, or the field that was found
abbrev pub Blamed : Type 0
Blamed = Result (Unit {0}) Found

-- c: how many rows of each table were begun
abbrev pub of_blamed : List ℕ → Blamed → Sought
of_blamed c (Err x) = there x.row x.field
of_blamed c (Ok u) = past c

module _ (lent : List ℕ) (e : ℕ) (l : Shape) where
  -- of the row at the front of table o, with the rows of other tables that it takes; its number is `row`, and l are its fields from f on
  unfoldable pub blame_at : ℕ → Tables → ℕ → ℕ → List ℕ → Sought
  blame_at o st row f c = blame e l row f c (value_of lent l o st).0

  -- of the first n rows of table t, one after the other
  unfoldable pub items_blame : ℕ → ℕ → Tables → List ℕ → Sought
  items_blame n t st c = blame_each (λ j d x. blame e l j 0 d x) t (times n (value_of lent l t) st).0 c

  -- of a row with no arrays in it, by itself
  unfoldable pub row_blame : ℕ → ℕ → List ℕ → List ℕ → Sought
  row_blame row f c r = blame_at 0 (r ∷ []) row f c

  -- of all such rows of table t, w cells each
  unfoldable pub rows_blame : ℕ → ℕ → List ℕ → List ℕ → Sought
  rows_blame w t table c = blame_each (λ j d r. row_blame j 0 d r) t (rows_of w table) c

-- ---- what a walk may rest on, since it runs after a refusal

-- the number of a refusal, where e was found to be wrong: it is e, if it is of a field at all
pub record Cause (number e : ℕ) : Type 0 where
  pub some : number ≢ 0
  pub field : fieldless number ≡ false → number ≡ e

-- where the number is of a field, `others` has the cells that the rows of `items`, w cells each, take of it: t of each row
pub record Walkable (number w : ℕ) (t : List ℕ → ℕ) (items others : List ℕ) : Type 0 where
  pub some : number ≢ 0
  pub enough : fieldless number ≡ false → sum t (rows_of w items) ≤ length others
