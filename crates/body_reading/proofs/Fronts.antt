-- The front of a body: each way out of its reader, and of a walk over a body that begins so.
use mathlib.Core.Bool.{Bool, false}
use mathlib.Core.List.{List, [], ◌++◌, ◌∷◌}
use mathlib.Core.Path.{◌∙◌, ◌≡◌, ap, refl, sym}
use Prim.Native.Nat.{ℕ}
use Rattle.layout.specs.Reading.{Reader, Refusal, Res, bad, give, loop, ok, then}
use Rattle.layout.specs.Primitives.{empty, fixed, w32}
use Rattle.layout.specs.Rows.{Basic, Shape, array, end, number, optional, stands}
use Rattle.layout.proofs.Local.{not_ok}
use Rattle.body_reading.specs.Moved.{array_items}
use Rattle.body_reading.specs.Store.{State, Tab, add, own}
use Rattle.body_reading.specs.Walk.{item_count, on, row_from, walk}
use Rattle.body_reading.proofs.Arrays.{items_no, items_no_count, items_took}
use Rattle.body_reading.proofs.Close.{store_own}
use Rattle.body_reading.proofs.Front.{onto, stands_flat, stands_onto}
use Rattle.body_reading.proofs.RowCells.{row_no, row_took}
use Rattle.body_reading.proofs.Chains.{both, give_took, same_end, same_refusal, same_value, then_no, then_took}
use Rattle.body_reading.specs.Fronts.{front_of}

abbrev time : Basic
time = optional (0 ∷ []) (number w32)

module _ (f : Bool) (s : List ℕ) where
  abbrev throttle : Reader (List ℕ)
  throttle = row_from [] (stands f time end)

  -- ---- the front alone

  pub throttle_no : (c : Refusal) → bad c ≡ on throttle s 0 → bad c ≡ on (front_of f) s 0
  unfolding front_of
  throttle_no c e = then_no throttle _ s 0 e

  module _ (cs : List ℕ) (p : ℕ) (e : ok cs p ≡ on throttle s 0) where
    pub count_no : (c : Refusal) → bad c ≡ on (array_items false false) s p → bad c ≡ on (front_of f) s 0
    unfolding front_of array_items
    count_no c d = then_took throttle _ s 0 e (then_no (item_count false (fixed w32 empty)) _ s p d)

    pub count_took : (k q : ℕ) → ok k q ≡ on (array_items false false) s p → ok (cs, k) q ≡ on (front_of f) s 0
    unfolding front_of array_items
    count_took k q d = then_took throttle _ s 0 e (then_took (item_count false (fixed w32 empty)) _ s p d (give_took (cs, k) s q))

  -- ---- a body that begins so: table t has the items, r stands behind them, u are the tables beside the own row

  module _ (t : ℕ) (i r : Shape) (u : State) where
    abbrev rest : Shape
    rest = array (fixed w32 empty) t i r

    abbrev body : Res State
    body = on (walk false (stands f time rest) 0 (own [] ∷ u)) s 0

    as_body : on (walk false (onto (stands f time end) rest) 0 (own [] ∷ u)) s 0 ≡ body
    as_body = ap (λ (l : Shape). on (walk false l 0 (own [] ∷ u)) s 0) (stands_onto time f end rest)

    no_time : (c : Refusal) → bad c ≡ on throttle s 0 → bad c ≡ body
    no_time c e = row_no (stands f time end) (stands_flat time f end tt) s 0 rest 0 (own [] ∷ u) c e ∙ as_body

    behind_time : (cs : List ℕ) (p : ℕ) → ok cs p ≡ on throttle s 0 → (z : Res State) → z ≡ on (walk false rest 0 (own cs ∷ u)) s p → z ≡ body
    unfolding add
    behind_time cs p e z d =
        row_took (stands f time end) (stands_flat time f end tt) s 0 rest 0 (own [] ∷ u) cs p e z (d ∙ ap (λ (x : Tab). on (walk false rest 0 (x ∷ u)) s p) (sym (store_own cs []))) ∙ as_body

    pub body_no_front : (c : Refusal) → bad c ≡ on (front_of f) s 0 → bad c ≡ body
    unfolding array_items
    body_no_front c e = go (on throttle s 0) refl
      where
        counted : (cs : List ℕ) (p : ℕ) → ok cs p ≡ on throttle s 0 → (o : Res ℕ) → on (item_count false (fixed w32 empty)) s p ≡ o → bad c ≡ body
        counted cs p d (ok k q) g = not_ok (e ∙ sym (count_took cs p d k q (sym g)))
        counted cs p d (bad b) g = behind_time cs p d (bad c) (items_no_count false (fixed w32 empty) refl t i r 0 (own cs ∷ u) s p c (ap bad (same_refusal (e ∙ sym (count_no cs p d b (sym g)))) ∙ sym g))

        go : (o : Res (List ℕ)) → on throttle s 0 ≡ o → bad c ≡ body
        go (ok cs p) d = counted cs p (sym d) (on (item_count false (fixed w32 empty)) s p) refl
        go (bad b) d = no_time c (ap bad (same_refusal (e ∙ sym (throttle_no b (sym d)))) ∙ sym d)

    module _ (cs : List ℕ) (k q : ℕ) (e : ok (cs, k) q ≡ on (front_of f) s 0) where
      -- the items, once the own row has what stands before them
      abbrev items : Res State
      items = on (loop k (walk false i t) (own (cs ++ (k ∷ [])) ∷ u)) s q

      record Parts : Type 0 where
        p : ℕ
        first : ok cs p ≡ on throttle s 0
        second : ok k q ≡ on (item_count false (fixed w32 empty)) s p

      parts : Parts
      unfolding front_of
      parts =
          let a = both throttle (λ cs. then (item_count false (fixed w32 empty)) (λ n. give (cs, n))) s 0 (cs, k) q e in
          let b = both (item_count false (fixed w32 empty)) (λ n. give (a.x, n)) s a.u (cs, k) q a.second in
          let g = b.second ∙ sym (give_took (a.x, b.x) s b.u) in
          record {
            p = a.u;
            first = ap (λ (y : List ℕ × ℕ). ok y.0 a.u) (same_value g) ∙ a.first;
            second = (λ j. ok (same_value g j).1 (same_end g j)) ∙ b.first;
          }

      looped : items ≡ on (loop k (walk false i t) (add 0 (k ∷ []) (own cs ∷ u))) s q
      unfolding add
      looped = ap (λ (x : Tab). on (loop k (walk false i t) (x ∷ u)) s q) (sym (store_own (k ∷ []) cs))

      pub body_no_items : (c : Refusal) → bad c ≡ items → bad c ≡ body
      body_no_items c d = behind_time cs parts.p parts.first (bad c) (items_no false (fixed w32 empty) refl t i r 0 (own cs ∷ u) s parts.p k q parts.second c (d ∙ looped))

      pub body_took_items : (st : State) (n : ℕ) (z : Res State) → ok st n ≡ items → z ≡ on (walk false r 0 st) s n → z ≡ body
      body_took_items st n z d g = behind_time cs parts.p parts.first z (items_took false (fixed w32 empty) refl t i r 0 (own cs ∷ u) s parts.p k q parts.second st n z (d ∙ looped) g)
