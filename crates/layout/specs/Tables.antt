-- Values as rows of cells in tables. Table 0 holds the body's own row; the items of an array, and tags, have the table that the layout names.
-- The cells of a row, and so its width, are the same at all versions:
--   a number: itself; a Boolean: 0 or 1; an array, and tags: their number, −1 for null or, of tags, for unset;
--   a text or data: its start and length; where null is a value of its own a kind goes in front: 0 absent, 1 null, 2 present;
--   what may be absent or unset (`optional`): the same kind in front, 0 or 2.
-- Absent: −1 for a number and for tags, 0 for an array that has no null, −2 for one that has; else all 0. Assumes nothing.
use Rattle.std.specs.Prelude.{Bool, true, false, cond, ◌&&◌, List, [], ◌∷◌, ◌++◌, ℕ, zero, suc, ◌+◌, ◌-◌, ◌/◌, ◌^◌, length, take, drop, get_or, set, replicate, leb, ltb, eqb}
use Rattle.std.proofs.Math.Option.{Option, none, some}
use Rattle.layout.specs.Reading.{Reader, then, give, loop}
use Rattle.layout.specs.Primitives.{minus, Null, never, kept, empty, Size, fixed, compact, plain, keeps, admits, refusal, Maybe, length_of, checked, unsigned}
use Rattle.layout.specs.Rows.{Basic, number, boolean, level, natural, text, blob, optional, Shape, end, field, absent, array, lacking, BasicValue, Value}
use Rattle.layout.specs.Read.{by_place, read_basic}

abbrev pub Tables : Type 0
Tables = List (List ℕ)

-- a text's start and length
abbrev pub Span : Type 0
Span = ℕ × ℕ

-- ---- reading

-- the cells of a field
unfoldable pub span : (b : Bool) → Maybe b Span → List ℕ
span true none = 1 ∷ 0 ∷ 0 ∷ []
span true (some x) = 2 ∷ x.0 ∷ x.1 ∷ []
span false x = x.0 ∷ x.1 ∷ []

unfoldable pub cells : (k : Basic) → BasicValue Span k → List ℕ
cells (number w) n = n ∷ []
cells boolean b = cond b 1 0 ∷ []
cells level n = n ∷ []
cells natural n = n ∷ []
cells (text z) x = span (keeps z) x
cells (blob z) x = span (keeps z) x
cells (optional d k) x = 2 ∷ cells k x

-- how many they are
unfoldable pub width : Basic → ℕ
width (number w) = 1
width boolean = 1
width level = 1
width natural = 1
width (text z) = cond (keeps z) 3 2
width (blob z) = cond (keeps z) 3 2
width (optional d k) = suc (width k)

unfoldable pub absent_cells : Basic → List ℕ
absent_cells (number w) = minus ∷ []
absent_cells boolean = minus ∷ []
absent_cells level = minus ∷ []
absent_cells natural = minus ∷ []
absent_cells (text z) = replicate (width (text z)) 0
absent_cells (blob z) = replicate (width (blob z)) 0
absent_cells (optional d k) = replicate (suc (width k)) 0

-- the cell of an array: n is one more than the count, and 0 is null
unfoldable pub count_cell : Bool → ℕ → ℕ
count_cell true n = cond (eqb n 0) minus (n - 1)
count_cell false n = n - 1

abbrev pub absent_items : Null → ℕ
absent_items never = 0
absent_items kept = minus - 1
absent_items empty = 0

abbrev pub absent_count : Size → ℕ
absent_count (fixed w m) = absent_items m
absent_count (compact m) = absent_items m
absent_count plain = minus

-- the reader of `Read`, keeping rows as it goes: `add t cs` puts the cells cs behind those of table t; o is the table of the row at hand.
-- S is how tables are kept: here as lists that grow
module _ (w : Bool) {S : Type 0} (add : ℕ → List ℕ → S → S) where
  unfoldable pub read_rows : Shape → ℕ → S → Reader S
  read_rows end o st = give st
  read_rows (field k r) o st = then (read_basic (by_place w) k) (λ x. read_rows r o (add o (cells k x) st))
  read_rows (absent k r) o st = read_rows r o (add o (absent_cells k) st)
  read_rows (array z t i r) o st =
      then (checked (admits w z) (refusal z) (length_of unsigned z)) (λ n.
      then (loop (n - 1) (read_rows i t) (add o (count_cell (keeps z) n ∷ []) st)) (λ st'. read_rows r o st'))
  read_rows (lacking z t i r) o st = read_rows r o (add o (absent_count z ∷ []) st)

unfoldable pub append : ℕ → List ℕ → Tables → Tables
append t cs st = set st t (get_or st t [] ++ cs)

-- ---- writing: the value that tables mean; rows are taken from the front, texts are parts of the lent bytes

unfoldable pub pop : ℕ → ℕ → Tables → List ℕ × Tables
pop t w st = (take w (get_or st t []), set st t (drop w (get_or st t [])))

-- −1 is no rows
unfoldable pub count : ℕ → ℕ
count c = cond (eqb c minus) 0 c

-- n rows, one behind the other; the items that the count cell c tells
unfoldable pub times : {A : Type 0} → ℕ → (Tables → A × Tables) → Tables → List A × Tables
times zero g st = ([], st)
times (suc n) g st = let x = g st in let y = times n g x.1 in (x.0 ∷ y.0, y.1)

unfoldable pub items_of : {A : Type 0} (b : Bool) → ℕ → (Tables → A × Tables) → Tables → Maybe b (List A) × Tables
items_of true c g st = let y = times (count c) g st in (cond (eqb c minus) none (some y.0), y.1)
items_of false c g st = times (count c) g st

-- the cells behind a kind, or d where the kind is 0: unset
unfoldable pub chosen : List ℕ → List ℕ → List ℕ
chosen d [] = d
chosen d (zero ∷ cs) = d
chosen d (suc k ∷ cs) = cs

module _ (lent : List ℕ) where
  unfoldable pub slice : Span → List ℕ
  slice x = take x.1 (drop x.0 lent)

  unfoldable pub span_of : (b : Bool) → List ℕ → Maybe b (List ℕ)
  span_of true cs = cond (eqb (get_or cs 0 0) 2) (some (slice (get_or cs 1 0, get_or cs 2 0))) none
  span_of false cs = slice (get_or cs 0 0, get_or cs 1 0)

  unfoldable pub basic_of : (k : Basic) → List ℕ → BasicValue (List ℕ) k
  basic_of (number w) cs = get_or cs 0 0
  basic_of boolean cs = ltb 0 (get_or cs 0 0)
  basic_of level cs = get_or cs 0 0
  basic_of natural cs = get_or cs 0 0
  basic_of (text z) cs = span_of (keeps z) cs
  basic_of (blob z) cs = span_of (keeps z) cs
  basic_of (optional d k) cs = basic_of k (chosen d cs)

  unfoldable pub value_of : (l : Shape) → ℕ → Tables → Value (List ℕ) l × Tables
  value_of end o st = (tt, st)
  value_of (field k r) o st = let x = pop o (width k) st in let y = value_of r o x.1 in ((basic_of k x.0, y.0), y.1)
  value_of (absent k r) o st = value_of r o (pop o (width k) st).1
  value_of (array z t i r) o st =
      let c = pop o 1 st in
      let x = items_of (keeps z) (get_or c.0 0 0) (value_of i t) c.1 in
      let y = value_of r o x.1 in
      ((x.0, y.0), y.1)
  value_of (lacking z t i r) o st = value_of r o (pop o 1 st).1

-- ---- the rows of a table

unfoldable pub row_width : Shape → ℕ
row_width end = 0
row_width (field k r) = width k + row_width r
row_width (absent k r) = width k + row_width r
row_width (array z t i r) = suc (row_width r)
row_width (lacking z t i r) = suc (row_width r)

-- the arrays of l as they come, each with its table and its items
unfoldable pub arrays : Shape → List (ℕ × Shape)
arrays end = []
arrays (field k r) = arrays r
arrays (absent k r) = arrays r
arrays (array z t i r) = (t, i) ∷ (arrays i ++ arrays r)
arrays (lacking z t i r) = (t, i) ∷ (arrays i ++ arrays r)

unfoldable pub kind_in : ℕ → List (ℕ × Shape) → Shape
kind_in t [] = end
kind_in t (x ∷ xs) = cond (eqb t x.0) x.1 (kind_in t xs)

-- what a row of table t is: an item of the first array that names it
unfoldable pub kind_of : ℕ → Shape → Shape
kind_of t l = kind_in t (arrays l)

unfoldable pub chunks : ℕ → ℕ → List ℕ → List (List ℕ)
chunks zero w cs = []
chunks (suc n) w cs = take w cs ∷ chunks n w (drop w cs)

-- a table's rows of width w; a cut row is no row
unfoldable pub rows_of : ℕ → List ℕ → List (List ℕ)
rows_of w cs = chunks (length cs / w) w cs

-- the first row that begins with the cell c
unfoldable pub first_row : ℕ → List (List ℕ) → Option (List ℕ)
first_row c [] = none
first_row c (r ∷ rs) = cond (eqb (get_or r 0 0) c) (some r) (first_row c rs)

-- the rows of table t, of a message of shape l
unfoldable pub rows_at : Shape → Tables → ℕ → List (List ℕ)
rows_at l st t = rows_of (row_width (kind_of t l)) (get_or st t [])

-- the tables from t on, n in all
unfoldable pub from : ℕ → ℕ → List ℕ
from t zero = []
from t (suc n) = t ∷ from (suc t) n

-- ---- 13: every row and count lent is looked at, of fields that the version lacks too

unfoldable pub all : {A : Type 0} → (A → Bool) → List A → Bool
all p [] = true
all p (x ∷ xs) = p x && all p xs

unfoldable pub sum : {A : Type 0} → (A → ℕ) → List A → ℕ
sum g [] = 0
sum g (x ∷ xs) = g x + sum g xs

-- may the count be −1: for null, or for unset tags?
abbrev pub lacks : Size → Bool
lacks (fixed w m) = keeps (fixed w m)
lacks (compact m) = keeps (compact m)
lacks plain = true

unfoldable pub good_count : Bool → ℕ → Bool
good_count b c = cond (eqb c minus) b (ltb c (2 ^ 63))

-- what one row asks of table t: the rows that its counts tell
unfoldable pub asked : ℕ → Shape → List ℕ → ℕ
asked t end cs = 0
asked t (field k r) cs = asked t r (drop (width k) cs)
asked t (absent k r) cs = asked t r (drop (width k) cs)
asked t (array z u i r) cs = cond (eqb t u) (count (get_or cs 0 0)) 0 + asked t r (drop 1 cs)
asked t (lacking z u i r) cs = cond (eqb t u) (count (get_or cs 0 0)) 0 + asked t r (drop 1 cs)

-- `size` bytes are lent; no sum wraps, and a negative start or length is above every size
module _ (size : ℕ) where
  unfoldable pub inside : ℕ → ℕ → Bool
  inside p n = leb (p + n) size

  unfoldable pub good_span : Bool → List ℕ → Bool
  good_span true cs = cond (eqb (get_or cs 0 0) 2) (inside (get_or cs 1 0) (get_or cs 2 0)) true
  good_span false cs = inside (get_or cs 0 0) (get_or cs 1 0)

  unfoldable pub good_cells : Basic → List ℕ → Bool
  good_cells (number w) cs = true
  good_cells boolean cs = true
  good_cells level cs = true
  good_cells natural cs = true
  good_cells (text z) cs = good_span (keeps z) cs
  good_cells (blob z) cs = good_span (keeps z) cs
  good_cells (optional d k) cs = cond (eqb (get_or cs 0 0) 0) true (good_cells k (drop 1 cs))

  unfoldable pub good_row : Shape → List ℕ → Bool
  good_row end cs = true
  good_row (field k r) cs = good_cells k cs && good_row r (drop (width k) cs)
  good_row (absent k r) cs = good_cells k cs && good_row r (drop (width k) cs)
  good_row (array z t i r) cs = good_count (lacks z) (get_or cs 0 0) && good_row r (drop 1 cs)
  good_row (lacking z t i r) cs = good_count (lacks z) (get_or cs 0 0) && good_row r (drop 1 cs)

  -- n tables are lent beside the body's own row
  module _ (n : ℕ) (l : Shape) (st : Tables) where
    -- all rows ask of table t as many as it has
    unfoldable pub adds_up : ℕ → Bool
    adds_up t = eqb (asked t l (get_or st 0 []) + sum (λ u. sum (asked t (kind_of u l)) (rows_at l st u)) (from 1 n)) (length (rows_at l st t))

    -- the tables can be written
    unfoldable pub good : Bool
    good = good_row l (get_or st 0 []) && (all (λ t. all (good_row (kind_of t l)) (rows_at l st t)) (from 1 n) && all adds_up (from 1 n))
