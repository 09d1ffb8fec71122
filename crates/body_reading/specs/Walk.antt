-- What a walk over a part of a body promises: one equation with the tables that it was given and those that it leaves. Assumes nothing.
use Rattle.std.specs.Prelude.{Bool, false, List, ◌++◌, ◌≡◌, ◌-◌, ℕ, drop}
use Rattle.layout.specs.Reading.{Reader, Res, give, more, then}
use Rattle.layout.specs.Primitives.{Size, admits, checked, length_of, refusal, unsigned}
use Rattle.layout.specs.Rows.{Shape}
use Rattle.layout.specs.Tables.{read_rows}
use Rattle.body_reading.specs.Store.{State, Tab, add, store, tab}

-- a reader at place p of the message s; what it used counts from the message's start
unfoldable pub on : {A : Type 0} → Reader A → List ℕ → ℕ → Res A
on r s p = more p (r p (drop p s))

-- the number of items in front of an array that has no null of its own: null is none, or refused (w: a whole read)
unfoldable pub item_count : Bool → Size → Reader ℕ
item_count w z = then (checked (admits w z) (refusal z) (length_of unsigned z)) (λ n. give (n - 1))

-- the one reader of all layouts, with stores into lent tables
abbrev pub walk : Bool → Shape → ℕ → State → Reader State
walk w l o st = read_rows w add l o st

-- a table's place among all: h puts it there, and what is added to table o is stored in it
pub record Place : Type 0 where
  pub h : Tab → State
  pub o : ℕ
  pub law : (x : Tab) (cs : List ℕ) → add o cs (h x) ≡ h (store x cs)

-- the places of a row's table and of the table of its items: the row's is told first
pub record Places : Type 0 where
  pub h : Tab → Tab → State
  pub o : ℕ
  pub t : ℕ
  pub row_law : (x y : Tab) (cs : List ℕ) → add o cs (h x y) ≡ h (store x cs) y
  pub items_law : (x y : Tab) (cs : List ℕ) → add t cs (h x y) ≡ h x (store y cs)

-- a table in its place; and a table of items beside that of the row so far
abbrev pub in_place : List ℕ → ℕ → Place → State
in_place l k e = e.h (tab l k)

abbrev pub beside : List ℕ → ℕ → Places × Tab → State
beside l k e = e.0.h e.1 (tab l k)

-- Run from b at p, the walk comes to f. e is what the walk does not touch, the other tables or where its own stand among them: it may be anything
pub record Runs {E : Type 0} (x : E → State → Reader State) (s : List ℕ) (p : ℕ) (b : E → State) (f : E → Res State) : Type 0 where
  pub law : (e : E) → f e ≡ on (x e (b e)) s p

-- a row with no arrays in it, as its cells behind those that were read before
unfoldable pub row_from : List ℕ → Shape → Reader (List ℕ)
row_from ds l = read_rows false (λ t cs es. es ++ cs) l 0 ds
