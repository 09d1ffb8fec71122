-- The name of a refusal: a row and a field. On reading it is the field in which the place of the refusal lies: every field takes a byte or more,
-- so a place lies in one field at most. On writing it is the first field with the fault. Rows count over their whole table, from 0; the body's own row is −1.
-- A field counts in its version's list for its row, from 0, and a count is part of its array's field. Assumes nothing.
use Rattle.std.specs.Prelude.{Bool, true, false, cond, ◌||◌, List, [], ◌∷◌, ℕ, zero, suc, ◌+◌, ◌-◌, ◌%◌, ◌^◌, ltb, eqb, get_or, set}
use Rattle.std.proofs.Math.Option.{none, some}
use Rattle.layout.specs.Reading.{Refusal, because, naming, nowhere, Res, ok, bad, Reader, then, give, loop}
use Rattle.layout.specs.Primitives.{keeps, admits, refusal, Maybe, length_of, checked, unsigned}
use Rattle.layout.specs.Rows.{Shape, end, field, absent, array, lacking, Value}
use Rattle.layout.specs.Read.{by_place, read_basic}
use Rattle.layout.specs.Write.{basic_fault, sized_fault}

-- one more row of table t, of which c counts those begun; a count is a cell
abbrev pub begun : ℕ → List ℕ → List ℕ
begun t c = set c t ((get_or c t 0 + 1) % 2 ^ 64)

-- no field has a part in 1, 2, 9, 10, 13 and 14
unfoldable pub fieldless : ℕ → Bool
fieldless e = eqb e 1 || (eqb e 2 || (eqb e 9 || (eqb e 10 || (eqb e 13 || eqb e 14))))

-- ---- reading

-- a walk that comes to the field goes no further: it refuses with the field's name
abbrev pub found : ℕ → ℕ → Refusal
found row f = naming 0 row f (because 0 0)

-- the field in which the place q lies
module _ (q : ℕ) where
  -- field f of a row, at p: q lies in it, or it is refused, or q is after it
  abbrev pub halted : {A : Type 0} → ℕ → ℕ → ℕ → Res A → Res A
  halted row f p (ok x n) = cond (ltb q (p + n)) (bad (found row f)) (ok x n)
  halted row f p (bad e) = bad (found row f)

  unfoldable pub stop : {A : Type 0} → ℕ → ℕ → Reader A → Reader A
  stop row f r p s = halted row f p (r p s)

  -- the fields of a row from f on, as `Tables.read_rows` reads them; rows are counted and not kept
  unfoldable pub seek : Shape → ℕ → ℕ → List ℕ → Reader (List ℕ)
  seek end row f c = give c
  seek (field k r) row f c = then (stop row f (read_basic (by_place false) k)) (λ x. seek r row (suc f) c)
  seek (absent k r) row f c = seek r row f c
  seek (array z t i r) row f c =
      then (stop row f (checked (admits false z) (refusal z) (length_of unsigned z))) (λ n.
      then (loop (n - 1) (λ d. seek i (get_or d t 0) 0 (begun t d)) c) (λ d. seek r row (suc f) d))
  seek (lacking z t i r) row f c = seek r row f c

-- message m, and the row and the field that were found
abbrev pub name_by : ℕ → Refusal → Res (List ℕ) → Refusal
name_by m e (bad x) = naming m x.row x.field e
name_by m e (ok c n) = naming m nowhere nowhere e

-- the refusal e of the bytes s, which begin at p and have the fields of l, with its name. What is refused before p is not in a field
unfoldable pub name_at : ℕ → Shape → List ℕ → ℕ → List ℕ → Refusal → Refusal
name_at m l c p s e = cond (fieldless e.number || ltb e.place p) (naming m nowhere nowhere e) (name_by m e (seek e.place l nowhere 0 c p s))

-- ---- writing

-- a row and a field, or the rows of each table that were begun
pub data Sought : Type 0 where
  there : ℕ → ℕ → Sought
  past : List ℕ → Sought

abbrev pub else : Sought → (List ℕ → Sought) → Sought
else (there row f) g = there row f
else (past c) g = g c

unfoldable pub blame_each : {A : Type 0} → (ℕ → List ℕ → A → Sought) → ℕ → List A → List ℕ → Sought
blame_each g t [] c = past c
blame_each g t (x ∷ xs) c = else (g (get_or c t 0) (begun t c) x) (blame_each g t xs)

unfoldable pub blame_items : {A : Type 0} (b : Bool) → (ℕ → List ℕ → A → Sought) → ℕ → Maybe b (List A) → List ℕ → Sought
blame_items true g t none c = past c
blame_items true g t (some xs) c = blame_each g t xs c
blame_items false g t xs c = blame_each g t xs c

-- the first field of a value whose fault is e
module _ (e : ℕ) where
  unfoldable pub blame : (l : Shape) → ℕ → ℕ → List ℕ → Value (List ℕ) l → Sought
  blame end row f c x = past c
  blame (field k r) row f c x = cond (eqb (basic_fault k x.0) e) (there row f) (blame r row (suc f) c x.1)
  blame (absent k r) row f c x = blame r row f c x
  blame (array z t i r) row f c x =
      cond (eqb (sized_fault (keeps z) z (λ xs. 0) x.0) e) (there row f)
      (else (blame_items (keeps z) (λ j d y. blame i j 0 d y) t x.0 c) (λ d. blame r row (suc f) d x.1))
  blame (lacking z t i r) row f c x = blame r row f c x

abbrev pub blamed : ℕ → Refusal → Sought → Refusal
blamed m e (there row f) = naming m row f e
blamed m e (past c) = naming m nowhere nowhere e

-- the refusal e of the value x of shape l, with its name
unfoldable pub name_fault : ℕ → (l : Shape) → List ℕ → Value (List ℕ) l → Refusal → Refusal
name_fault m l c x e = cond (fieldless e.number) (naming m nowhere nowhere e) (blamed m e (blame e.number l nowhere 0 c x))
