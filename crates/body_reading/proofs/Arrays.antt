-- A row's end and its arrays: each way out of a walk over them.
use mathlib.Core.Bool.{Bool, false}
use mathlib.Core.List.{List, [], ◌∷◌}
use mathlib.Core.Path.{◌∙◌, ◌≡◌, ap, refl, sym}
use Prim.Native.Nat.{◌-◌, ℕ}
use lib.ListN.{drop}
use Rattle.layout.specs.Reading.{Reader, Refusal, Res, bad, give, loop, more, next, ok, then}
use Rattle.layout.specs.Primitives.{Size, admits, checked, keeps, length_of, refusal, unsigned}
use Rattle.layout.specs.Rows.{Shape, array, end}
use Rattle.layout.specs.Tables.{count_cell, read_rows}
use Rattle.layout.proofs.Local.{not_ok}
use Rattle.body_reading.specs.Store.{State, add}
use Rattle.body_reading.specs.Walk.{item_count, on, walk}
use Rattle.body_reading.proofs.Chains.{both, give_took, same_end, same_value, then_no, then_took}

pub row_end : (w : Bool) (o : ℕ) (st : State) (s : List ℕ) (p : ℕ) → ok st p ≡ on (walk w end o st) s p
unfolding read_rows
row_end w o st s p = give_took st s p

module _ (w : Bool) (z : Size) (t : ℕ) (i r : Shape) (o : ℕ) (st : State) (s : List ℕ) (p : ℕ) where
  pub array_no_count : (c : Refusal) → bad c ≡ on (checked (admits w z) (refusal z) (length_of unsigned z)) s p → bad c ≡ on (walk w (array z t i r) o st) s p
  unfolding read_rows
  array_no_count c e = then_no (checked (admits w z) (refusal z) (length_of unsigned z)) _ s p e

  module _ (n q : ℕ) (e : ok n q ≡ on (checked (admits w z) (refusal z) (length_of unsigned z)) s p) where
    pub array_no : (c : Refusal) → bad c ≡ on (loop (n - 1) (walk w i t) (add o (count_cell (keeps z) n ∷ []) st)) s q → bad c ≡ on (walk w (array z t i r) o st) s p
    unfolding read_rows
    array_no c d = then_took (checked (admits w z) (refusal z) (length_of unsigned z)) _ s p e (then_no _ _ s q d)

    pub array_took : (st' : State) (u : ℕ) (x : Res State) → ok st' u ≡ on (loop (n - 1) (walk w i t) (add o (count_cell (keeps z) n ∷ []) st)) s q → x ≡ on (walk w r o st') s u → x ≡ on (walk w (array z t i r) o st) s p
    unfolding read_rows
    array_took st' u x d g = then_took (checked (admits w z) (refusal z) (length_of unsigned z)) _ s p e (then_took _ _ s q d g)

-- ---- an array that has no null of its own: k is the number of its items

module _ (w : Bool) (z : Size) (f : keeps z ≡ false) (t : ℕ) (i r : Shape) (o : ℕ) (st : State) (s : List ℕ) (p : ℕ) where
  abbrev count : Reader ℕ
  count = checked (admits w z) (refusal z) (length_of unsigned z)

  pub items_no_count : (c : Refusal) → bad c ≡ on (item_count w z) s p → bad c ≡ on (walk w (array z t i r) o st) s p
  unfolding on item_count then give
  items_no_count c e = go (count p (drop p s)) refl e
    where
      go : (a : Res ℕ) → count p (drop p s) ≡ a → bad c ≡ more p (next a (λ n. give (n - 1)) p (drop p s)) → bad c ≡ on (walk w (array z t i r) o st) s p
      go (ok n m) d g = not_ok g
      go (bad b) d g = array_no_count w z t i r o st s p c (g ∙ sym (ap (more p) d))

  module _ (k q : ℕ) (e : ok k q ≡ on (item_count w z) s p) where
    record Told : Type 0 where
      n : ℕ
      is : ok n q ≡ on count s p
      less : n - 1 ≡ k

    told : Told
    unfolding item_count
    told =
        let a = both count (λ n. give (n - 1)) s p k q e in
        let g = a.second ∙ sym (give_took (a.x - 1) s a.u) in
        record { n = a.x; is = ap (λ (j : ℕ). ok a.x j) (same_end g) ∙ a.first; less = sym (same_value g) }

    abbrev items : Res State
    items = on (loop k (walk w i t) (add o (k ∷ []) st)) s q

    same : (n : ℕ) → n - 1 ≡ k → items ≡ on (loop (n - 1) (walk w i t) (add o (count_cell (keeps z) n ∷ []) st)) s q
    unfolding count_cell
    same n g = rw f (λ j. on (loop (sym g j) (walk w i t) (add o (sym g j ∷ []) st)) s q)

    pub items_no : (c : Refusal) → bad c ≡ items → bad c ≡ on (walk w (array z t i r) o st) s p
    items_no c d = array_no w z t i r o st s p told.n q told.is c (d ∙ same told.n told.less)

    pub items_took : (st' : State) (u : ℕ) (x : Res State) → ok st' u ≡ items → x ≡ on (walk w r o st') s u → x ≡ on (walk w (array z t i r) o st) s p
    items_took st' u x d g = array_took w z t i r o st s p told.n q told.is st' u x (d ∙ same told.n told.less) g
