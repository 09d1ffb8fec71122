-- An array at the end of a row, its items' table beside that of the row so far: the loop over its items, once the row has their number.
use mathlib.Core.Bool.{false}
use mathlib.Core.List.{List, [], ◌∷◌}
use mathlib.Core.Path.{◌∙◌, ◌≡◌, ap, sym}
use Prim.Native.Nat.{ℕ}
use Rattle.layout.specs.Reading.{Res, loop}
use Rattle.layout.specs.Rows.{Shape}
use Rattle.body_reading.specs.Store.{State, Tab, add, store}
use Rattle.body_reading.specs.Walk.{Place, Places, Runs, beside, in_place, on, walk}

-- the table of the items, where the row has the cell c
unfoldable pub behind_count : Places → Tab → ℕ → Place
behind_count w x c = record { h = λ y. w.h (store x (c ∷ [])) y; o = w.t; law = λ y cs. w.items_law (store x (c ∷ [])) y cs }

-- R is what the loop answers, and f what an answer means
module _ (i : Shape) (s : List ℕ) (q : ℕ) (l : List ℕ) (k n c : ℕ) {R : Type 0} (f : R → Place → Res State) (r r' : R) (h : Runs (λ e. loop n (walk false i e.o)) s q (in_place l k) (f r)) (d : r ≡ r') where
  pub items_beside : (e : Places × Tab) → f r' (behind_count e.0 e.1 c) ≡ on (loop n (walk false i e.0.t) (add e.0.o (c ∷ []) (beside l k e))) s q
  unfolding behind_count
  items_beside e =
      ap (λ y. f y (behind_count e.0 e.1 c)) (sym d)
      ∙ h.law (behind_count e.0 e.1 c)
      ∙ ap (λ (y : State). on (loop n (walk false i e.0.t) y) s q) (sym (e.0.row_law e.1 _ (c ∷ [])))
