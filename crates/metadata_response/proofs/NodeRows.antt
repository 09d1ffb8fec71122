-- Nodes into their table: marks, which move on by one a cell and stop at the limit; one turn of the loop over nodes, those that have no room, those whose bytes are missing, and an array of them at the end of a row, of which a null one is a count of its own.
use mathlib.Core.Path.{◌∙◌, ◌≡◌, ap, refl, subst, sym}
use mathlib.Core.List.{List, [], ◌∷◌}
use mathlib.Core.Bool.{false, true}
use Prim.Native.Nat.{◌*◌, ◌+◌, ◌-◌, ◌<◌, ◌≤◌, min, suc, zero, ℕ}
use native.Mathlib.Decide.{dec_le}
use native.Mathlib.Omega.{arith}
use lib.ListN.{length, length-set, set}
use Rattle.body_reading.specs.Store.{State, Tab, add, limit, step, store, tab}
use Rattle.layout.specs.Reading.{Refusal, bad, because, loop, ok}
use Rattle.layout.specs.Primitives.{Size, cell, fixed, kept, minus, w32}
use Rattle.layout.specs.Rows.{end, field, number}
use Rattle.layout.specs.Read.{by_place, read, read_basic}
use Rattle.layout.specs.Tables.{cells, count_cell}
use Rattle.body_reading.specs.Walk.{Places, Runs, beside, in_place, on, walk}
use Rattle.body_reading.specs.Walked.{beside_is, counted_at, filled, filled_is}
use Rattle.body_reading.specs.declared.walks.Filled.{Filled}
use Rattle.std.specs.Prelude.{Result, Err, Ok}
use Rattle.primitives.specs.Parts.{counted}
use Rattle.primitives.specs.Answers.{of_refusal}
use Rattle.primitives.specs.declared.Refusal as Code
use Rattle.metadata_response.specs.Numbers.{steps}
use Rattle.metadata_response.specs.TopicShapes.{node_shape, nodes_shape}
use Rattle.body_reading.proofs.Stores.{step_not, step_up, store_in, store_out}
use Rattle.layout.proofs.Contents.{row_cells}
use Rattle.body_reading.proofs.FrontAt.{cell_at}
use Rattle.body_reading.proofs.Front.{placed_took, reads_end, reads_no, reads_took, row_no, row_took}
use Rattle.body_reading.proofs.Chains.{Going, give_took, going_done, going_next, going_start, loop_next, loop_no}
use Rattle.layout.proofs.Tests.{one_more}
use Rattle.body_reading.proofs.Arrays.{array_no, array_no_count, array_took, row_end}
use Rattle.body_reading.proofs.Beside.{behind_count, items_beside}
use Rattle.metadata_response.proofs.There.{cell_missing}

pub step_on : (k : ℕ) → k ≤ step k
step_on k =
    elim (dec_le limit k) [
      | yes h ↦ let e = step_not k h in omega arith
      | no h ↦ let e = step_up k (omega arith) in omega arith
    ]

-- below the limit, at it, and over it
pub steps_near : (n k : ℕ) → k + n ≤ limit → k + n ≡ steps n k
unfolding steps
steps_near zero k h = omega arith
steps_near (suc n) k h =
    let e : k + suc n ≡ k + 1 + n = omega arith in
    e ∙ steps_near n (k + 1) (omega arith) ∙ ap (steps n) (step_up k (omega arith))

pub steps_over : (n k : ℕ) → limit ≤ k → k ≡ steps n k
unfolding steps
steps_over zero k h = refl
steps_over (suc n) k h = steps_over n k h ∙ ap (steps n) (step_not k h)

pub steps_stop : (n k : ℕ) → k ≤ limit → limit ≤ k + n → limit ≡ steps n k
unfolding steps
steps_stop zero k h g = omega arith
steps_stop (suc n) k h g =
    elim (dec_le limit k) [
      | yes i ↦ let e : limit ≡ k = omega arith in e ∙ steps_over (suc n) k i
      | no i ↦ steps_stop n (k + 1) (omega arith) (omega arith) ∙ ap (steps n) (step_up k (omega arith))
    ]

-- one cell, and those behind it
pub steps_turn : (n k : ℕ) → 0 < n → k < limit → steps n k ≡ steps (n - 1) (k + 1)
unfolding steps
steps_turn zero k h g = absurd (omega arith)
steps_turn (suc n) k h g =
    let step_up_back : step k ≡ k + 1 = let e = step_up k g in omega arith in
    let e : n ≡ suc n - 1 = omega arith in
    (λ i. steps (e i) (step_up_back i))

steps_on : (n k : ℕ) → k ≤ steps n k
unfolding steps
steps_on zero k = omega arith
steps_on (suc n) k = let e = step_on k in let g = steps_on n (step k) in omega arith

-- a mark that did not move, where it could
pub steps_none : (n k : ℕ) → steps n k ≤ k → k < limit → n ≡ 0
unfolding steps
steps_none zero k h g = refl
steps_none (suc n) k h g = let e = step_up k g in let i = steps_on n (step k) in absurd (omega arith)

-- a mark that moved
pub steps_some : (n k : ℕ) → k < steps n k → 0 < n
unfolding steps
steps_some zero k h = absurd (omega arith)
steps_some (suc n) k h = omega arith

module _ (s : List ℕ) where
  node_read : (p v q : ℕ) → ok v q ≡ on (cell w32) s p → ok (v, tt) q ≡ on (read (by_place false) (field (number w32) end)) s p
  unfolding read_basic
  node_read p v q h = reads_took false (number w32) end s p v q h (ok tt q) (reads_end false s q)

  node_took : (p : ℕ) (l : List ℕ) (k v q : ℕ) → ok v q ≡ on (cell w32) s p → (l' : List ℕ) (m : ℕ) → tab l' m ≡ store (tab l k) (v ∷ []) → Runs (λ e. walk false node_shape e.o) s p (in_place l k) (filled_is l' (filled q m))
  unfolding node_shape row_cells cells
  node_took p l k v q h l' m i = record { law = λ e. placed_took false node_shape tt e (tab l k) (tab l' m) s p (v, tt) q (node_read p v q h) i }

  -- t nodes are there, and the bytes of the next are not
  module _ (o : ℕ) where
    node_missing : (st : State) (p : ℕ) → length s < p + 4 → bad (because 3 p) ≡ on (walk false node_shape o st) s p
    unfolding node_shape read_basic
    node_missing st p h = row_no false node_shape o st s p (because 3 p) (reads_no false (number w32) end s p (because 3 p) (cell_missing w32 s p h))

    -- the tables behind a node, whatever they are
    record Kept (st : State) (p : ℕ) : Type 0 where
      behind : State
      is : ok behind (p + 4) ≡ on (walk false node_shape o st) s p

    node_kept : (st : State) (p : ℕ) → p + 4 ≤ length s → Kept st p
    unfolding node_shape
    node_kept st p h = record { behind = _; is = row_took false (field (number w32) end) o st s p (_, tt) (p + 4) (node_read p _ (p + 4) (cell_at w32 s p h)) }

    missing : (t n p : ℕ) (st : State) → t < n → (0 < t → p + 4 * t ≤ length s) → length s < p + 4 * t + 4 → bad (because 3 (p + 4 * t)) ≡ on (loop n (walk false node_shape o) st) s p
    missing zero n p st h a b =
        let e : p + 4 * 0 ≡ p = omega arith in
        ap (λ (j : ℕ). bad (because 3 j)) e ∙ loop_no (walk false node_shape o) s n p st h refl (node_missing st p (omega arith))
    missing (suc t) n p st h a b =
        let i = a (omega arith) in
        let e : p + 4 * suc t ≡ p + 4 + 4 * t = omega arith in
        let k = node_kept st p (omega arith) in
        ap (λ (j : ℕ). bad (because 3 j)) e
        ∙ missing t (n - 1) (p + 4) k.behind (omega arith) (λ g. omega arith) (omega arith)
        ∙ sym (loop_next (walk false node_shape o) s n p st (omega arith) refl k.is)

module _ (s : List ℕ) (count p : ℕ) (l₀ : List ℕ) (k₀ : ℕ) where
  abbrev Left : ℕ → ℕ → List ℕ → ℕ → Type 0
  Left n q l k = Going (λ e. walk false node_shape e.o) s count p (in_place l₀ k₀) n q (in_place l k)

  pub nodes_missing : (t : ℕ) → t < count → (0 < t → p + 4 * t ≤ length s) → length s < p + 4 * t + 4 → (c : Refusal) → c ≡ because 3 (p + 4 * t) → Runs (λ e. loop count (walk false node_shape e.o)) s p (in_place l₀ k₀) (λ e. bad c)
  nodes_missing t h a b c d = record { law = λ e. ap bad d ∙ missing s e.o t count p _ h a b }

  pub nodes_next : (n q : ℕ) (l : List ℕ) (k : ℕ) → Left n q l k → 0 < n → (v u : ℕ) → ok v u ≡ on (cell w32) s q → (l' : List ℕ) (m : ℕ) → tab l' m ≡ store (tab l k) (v ∷ []) → Left (n - 1) u l' m
  nodes_next n q l k g i v u h l' m d = going_next _ _ _ _ _ _ _ _ g i _ (node_took s q l k v u h l' m d) (in_place l' m) (λ e. refl)

  -- those that are left have no room
  nodes_out : (n q : ℕ) (l : List ℕ) (k : ℕ) → Left n q l k → (0 < n → q + 4 * n ≤ length s) → (0 < n → length l ≤ k) → Runs (λ e. loop count (walk false node_shape e.o)) s p (in_place l₀ k₀) (filled_is l (filled (q + 4 * n) (steps n k)))
  unfolding steps
  nodes_out zero q l k g h r =
      let e : q + 4 * 0 ≡ q = omega arith in
      record { law = λ x. ap (λ (j : ℕ). ok (in_place l k x) j) e ∙ (going_done _ _ _ _ _ _ _ _ g (omega arith)).law x }
  nodes_out (suc n) q l k g h r =
      let i : length l ≤ k = r (omega arith) in
      let o = h (omega arith) in
      let a : suc n - 1 ≡ n = omega arith in
      let b : q + 4 * suc n ≡ q + 4 + 4 * n = omega arith in
      let d = step_on k in
      let f = nodes_next (suc n) q l k g (omega arith) _ (q + 4) (cell_at w32 s q (omega arith)) l (step k) (store_out l k _ (step k) refl i) in
      let j = nodes_out n (q + 4) l (step k) (subst (λ (m : ℕ). Left m (q + 4) l (step k)) a f) (λ z. omega arith) (λ z. omega arith) in
      record { law = λ x. ap (λ (u : ℕ). ok (in_place l (steps n (step k)) x) u) b ∙ j.law x }

  -- the loop: the nodes that are left fill the table from `row` on, and the mark behind all is known from the start
  pub record Filling (behind : ℕ) (l : List ℕ) (row place : ℕ) : Type 0 where
    pub left : ℕ
    pub few : left ≤ count
    pub going : Left left place l row
    pub ends : place + 4 * left ≡ p + 4 * count
    pub mark : behind ≡ steps left row
    pub long : length l ≡ length l₀

  pub filling_start : (behind : ℕ) → behind ≡ steps count k₀ → Filling behind l₀ k₀ p
  filling_start behind e = record { left = count; few = omega arith; going = going_start _ _ _ _ _; ends = refl; mark = e; long = refl }

  module _ (behind : ℕ) (l : List ℕ) (row place : ℕ) (f : Filling behind l row place) (there : 0 < count → p + 4 * count ≤ length s) where
    some_left : row < behind → 0 < f.left
    some_left h = let e = f.mark in steps_some f.left row (omega arith)

    pub filling_there : row < behind → place + 4 ≤ length s
    filling_there h =
        let i = some_left h in
        let e = f.ends in
        let g = there (omega (arith, f.few)) in
        omega arith

    pub filling_next : row < behind → row < limit → (v : ℕ) → ok v (place + 4) ≡ on (cell w32) s place → Filling behind (set l row v) (row + 1) (place + 4)
    filling_next h i v d = record {
      left = f.left - 1;
      few = omega (arith, f.few);
      going = nodes_next f.left place l row f.going (some_left h) v (place + 4) d (set l row v) (row + 1) (store_in l row v (row + 1) (step_up row i));
      ends = let e = f.ends in let j = some_left h in omega arith;
      mark = f.mark ∙ steps_turn f.left row (some_left h) i;
      long = length-set l row v ∙ f.long;
    }

    -- the mark is behind all, or behind the table
    pub filling_end : length l ≤ limit → min behind (length l) ≤ row → Runs (λ e. loop count (walk false node_shape e.o)) s p (in_place l₀ k₀) (filled_is l (filled (p + 4 * count) behind))
    filling_end m r =
        let e = f.ends in
        let b = f.mark in
        let j = nodes_out f.left place l row f.going (λ z. let g = there (omega (arith, f.few)) in omega arith) (λ z. no_room_lem z) in
        record { law = λ x. (λ i. ok (in_place l (b i) x) (sym e i)) ∙ j.law x }
      where
        no_room_lem : 0 < f.left → length l ≤ row
        no_room_lem z =
            elim (dec_le (length l) row) [
              | yes i ↦ i
              | no i ↦ let b = f.mark in let g = steps_none f.left row (omega arith) (omega arith) in absurd (omega arith)
            ]

abbrev nullable : Size
nullable = fixed w32 kept

-- one more than a number is not the null
some_count : (n : ℕ) → n ≡ count_cell true (n + 1)
unfolding count_cell
some_count n = rw (one_more n) (omega arith)

module _ (s : List ℕ) (p : ℕ) (l : List ℕ) (k : ℕ) where
  pub count_no : (c : Refusal) → bad c ≡ on (counted nullable) s p → Runs (λ e. walk false (nodes_shape e.0.t) e.0.o) s p (beside l k) (λ e. bad c)
  unfolding counted nodes_shape
  count_no c h = record { law = λ e. array_no_count false nullable e.0.t node_shape end e.0.o (beside l k e) s p c h }

  abbrev nulled : Places × Tab → State
  nulled e = add e.0.o (minus ∷ []) (beside l k e)

  pub count_null : (q : ℕ) → ok 0 q ≡ on (counted nullable) s p → Runs (λ e. walk false (nodes_shape e.0.t) e.0.o) s p (beside l k) (beside_is l (counted_at minus q k))
  unfolding counted nodes_shape count_cell loop
  count_null q h = record {
    law = λ e.
        ap (λ (u : State). ok u q) (sym (e.0.row_law e.1 (tab l k) (minus ∷ [])))
        ∙ array_took false nullable e.0.t node_shape end e.0.o (beside l k e) s p 0 q h (nulled e) q (ok (nulled e) q) (give_took (nulled e) s q) (row_end false e.0.o (nulled e) s q);
  }

  module _ (n q : ℕ) (d : ok (n + 1) q ≡ on (counted nullable) s p) (l' : List ℕ) (r : Result Filled Code.Refusal) (h : Runs (λ e. loop n (walk false node_shape e.o)) s q (in_place l k) (filled_is l' r)) where
    abbrev stored : ℕ → Places × Tab → State
    stored j e = e.0.h (store e.1 (n ∷ [])) (tab l' j)

    looped : (y : Result Filled Code.Refusal) → r ≡ y → (e : Places × Tab) → filled_is l' y (behind_count e.0 e.1 n) ≡ on (loop (n + 1 - 1) (walk false node_shape e.0.t) (add e.0.o (count_cell true (n + 1) ∷ []) (beside l k e))) s q
    looped y w e =
        let m : n ≡ n + 1 - 1 = omega arith in
        items_beside node_shape s q l k n n (filled_is l') r y h w e
        ∙ (λ i. on (loop (m i) (walk false node_shape e.0.t) (add e.0.o (some_count n i ∷ []) (beside l k e))) s q)

    pub nodes_at_no : (c : Code.Refusal) → r ≡ Err c → Runs (λ e. walk false (nodes_shape e.0.t) e.0.o) s p (beside l k) (beside_is l' (Err c))
    unfolding counted nodes_shape
    nodes_at_no c i = record { law = λ e. array_no false nullable e.0.t node_shape end e.0.o (beside l k e) s p (n + 1) q d (of_refusal c) (looped (Err c) i e) }

    pub nodes_at_took : (a : Filled) → r ≡ Ok a → Runs (λ e. walk false (nodes_shape e.0.t) e.0.o) s p (beside l k) (beside_is l' (counted_at n a.next a.mark))
    unfolding counted nodes_shape behind_count
    nodes_at_took a i = record {
      law = λ e. array_took false nullable e.0.t node_shape end e.0.o (beside l k e) s p (n + 1) q d (stored a.mark e) a.next (ok (stored a.mark e) a.next) (looped (Ok a) i e) (row_end false e.0.o (stored a.mark e) s a.next);
    }
