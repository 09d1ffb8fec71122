-- A row in two parts, one behind the other: the walk over the whole row is that over the first part, and then over the second.
-- The first may have arrays in it.
use mathlib.Core.Bool.{Bool}
use mathlib.Core.List.{List, [], ◌∷◌}
use mathlib.Core.Path.{◌∙◌, ◌≡◌, ap, sym}
use Prim.Native.Nat.{◌-◌, ℕ}
use lib.ListN.{drop}
use Rattle.layout.specs.Reading.{Reader, Refusal, Res, bad, loop, more, ok, then}
use Rattle.layout.specs.Primitives.{Size, admits, checked, keeps, length_of, refusal, unsigned}
use Rattle.layout.specs.Rows.{Shape, absent, array, end, field, lacking}
use Rattle.layout.specs.Read.{by_place, read_basic}
use Rattle.layout.specs.Tables.{absent_cells, absent_count, cells, count_cell, read_rows}
use Rattle.layout.proofs.Link.{then_assoc}
use Rattle.body_reading.specs.Store.{State, add}
use Rattle.body_reading.specs.Walk.{on, walk}
use Rattle.body_reading.proofs.Front.{onto, then_give}
use Rattle.body_reading.proofs.Chains.{then_no, then_took}

module _ (w : Bool) (r : Shape) (o : ℕ) where
  abbrev count : Size → Reader ℕ
  count z = checked (admits w z) (refusal z) (length_of unsigned z)

  abbrev looped : Size → ℕ → Shape → ℕ → State → Reader State
  looped z t i n st = loop (n - 1) (walk w i t) (add o (count_cell (keeps z) n ∷ []) st)

  joined : (l : Shape) (st : State) (p : ℕ) (s : List ℕ) → walk w (onto l r) o st p s ≡ then (walk w l o st) (walk w r o) p s
  unfolding read_rows
  joined end st p s = sym (then_give st (walk w r o) p s)
  joined (field k l) st p s =
      (λ i. then (read_basic (by_place w) k) (λ x q t. joined l (add o (cells k x) st) q t i) p s)
      ∙ then_assoc (read_basic (by_place w) k) (λ x. walk w l o (add o (cells k x) st)) (walk w r o) p s
  joined (absent k l) st p s = joined l (add o (absent_cells k) st) p s
  joined (array z t i l) st p s =
      (λ j. then (count z) (λ n. then (looped z t i n st) (λ st' q u. joined l st' q u j)) p s)
      ∙ (λ j. then (count z) (λ n q u. then_assoc (looped z t i n st) (λ st'. walk w l o st') (walk w r o) q u j) p s)
      ∙ then_assoc (count z) (λ n. then (looped z t i n st) (λ st'. walk w l o st')) (walk w r o) p s
  joined (lacking z t i l) st p s = joined l (add o (absent_count z ∷ []) st) p s

  module _ (l : Shape) (st : State) (s : List ℕ) (p : ℕ) where
    on_joined : on (then (walk w l o st) (walk w r o)) s p ≡ on (walk w (onto l r) o st) s p
    unfolding on
    on_joined = ap (more p) (sym (joined l st p (drop p s)))

    pub joined_no : (c : Refusal) → bad c ≡ on (walk w l o st) s p → bad c ≡ on (walk w (onto l r) o st) s p
    joined_no c e = then_no (walk w l o st) (walk w r o) s p e ∙ on_joined

    pub joined_took : (st' : State) (q : ℕ) → ok st' q ≡ on (walk w l o st) s p → (z : Res State) → z ≡ on (walk w r o st') s q → z ≡ on (walk w (onto l r) o st) s p
    joined_took st' q e z d = then_took (walk w l o st) (walk w r o) s p e d ∙ on_joined
