-- How code keeps the tables of a body: each is a lent slice of cells with a mark, which counts the cells so far.
-- A cell is stored at the mark where there is room for it, and the mark moves on in any case. Assumes nothing.
use Rattle.std.specs.Prelude.{cond, List, [], ◌∷◌, ◌++◌, ◌+◌, ℕ, ltb, get_or, set}

-- `tab l k`: a slice that holds l, with the mark k; `own cs`: a row that stands in a struct
pub data Tab : Type 0 where
  tab : List ℕ → ℕ → Tab
  own : List ℕ → Tab

-- a mark stops far beyond every table, so that code counts on without a bound
abbrev pub limit : ℕ
limit = 4611686018427387904

unfoldable pub step : ℕ → ℕ
step k = cond (ltb k limit) (k + 1) k

unfoldable pub put : Tab → ℕ → Tab
put (tab l k) c = tab (set l k c) (step k)
put (own cs) c = own (cs ++ (c ∷ []))

unfoldable pub store : Tab → List ℕ → Tab
store t [] = t
store t (c ∷ cs) = store (put t c) cs

-- all tables, the body's own row first
abbrev pub State : Type 0
State = List Tab

unfoldable pub add : ℕ → List ℕ → State → State
add t cs st = set st t (store (get_or st t (own [])) cs)
