-- An array of aborted transactions at the end of a row: each way out of the walk over it.
use mathlib.Core.Bool.{Bool, false, true}
use mathlib.Core.List.{List, [], ◌∷◌}
use mathlib.Core.Path.{◌∙◌, ◌≡◌, ap, refl, subst, sym}
use Prim.Native.Nat.{ℕ}
use Rattle.layout.specs.Reading.{Refusal, Res, bad, loop, ok}
use Rattle.layout.specs.Primitives.{Size, empty, fixed, w32}
use Rattle.layout.specs.Rows.{end, standing}
use Rattle.layout.specs.Tables.{read_rows}
use Rattle.primitives.specs.Answers.{of_refusal}
use Rattle.primitives.specs.declared.Refusal as Code
use Rattle.body_reading.specs.Moved.{array_items}
use Rattle.body_reading.specs.Store.{State, Tab, add, store, tab}
use Rattle.body_reading.specs.Walk.{Places, Runs, beside, in_place, on, walk}
use Rattle.body_reading.proofs.Arrays.{items_no, items_no_count, items_took, row_end}
use Rattle.body_reading.proofs.Beside.{behind_count, items_beside}
use Rattle.fetch_response.specs.TopicShapes.{aborted_array, aborted_shape}
use Rattle.body_reading.specs.Walked.{beside_is, counted_at, filled_is}
use Rattle.body_reading.specs.declared.walks.Filled.{Filled}
use Rattle.std.specs.Prelude.{Ok}

abbrev size : Size
size = fixed w32 empty

module _ (f : Bool) (s : List ℕ) (p : ℕ) (l : List ℕ) (k : ℕ) where
  abbrev Reads : Bool → (Places × Tab → Res State) → Type 0
  Reads b g = Runs (λ e. walk false (aborted_array b e.0.t) e.0.o) s p (beside l k) g

  -- the version lacks it: a count of 0, and no byte
  pub aborted_lacks : f ≡ false → Reads f (beside_is l (counted_at 0 p k))
  unfolding aborted_array standing read_rows
  aborted_lacks d = subst (λ (b : Bool). Reads b (beside_is l (counted_at 0 p k))) (sym d) (record { law = λ e. ap (λ (u : State). ok u p) (sym (e.0.row_law e.1 (tab l k) (0 ∷ []))) ∙ row_end false e.0.o (add e.0.o (0 ∷ []) (beside l k e)) s p })

  module _ (d : f ≡ true) where
    pub count_no : (c : Refusal) → bad c ≡ on (array_items false false) s p → Reads f (λ e. bad c)
    unfolding aborted_array standing array_items
    count_no c h = subst (λ (b : Bool). Reads b (λ e. bad c)) (sym d) (record { law = λ e. items_no_count false size refl e.0.t (aborted_shape true) end e.0.o (beside l k e) s p c h })

    module _ (n q : ℕ) (g : ok n q ≡ on (array_items false false) s p) where
      pub aborted_no : (c : Code.Refusal) → Runs (λ e. loop n (walk false (aborted_shape true) e.o)) s q (in_place l k) (λ e. bad (of_refusal c)) → Reads f (λ e. bad (of_refusal c))
      unfolding aborted_array standing array_items
      aborted_no c h = subst (λ (b : Bool). Reads b (λ e. bad (of_refusal c))) (sym d) (record {
        law = λ e. items_no false size refl e.0.t (aborted_shape true) end e.0.o (beside l k e) s p n q g (of_refusal c) (items_beside (aborted_shape true) s q l k n n (λ x y. bad (of_refusal x)) c c h refl e);
      })

      module _ (l' : List ℕ) where
        abbrev stored : ℕ → Places × Tab → State
        stored j e = e.0.h (store e.1 (n ∷ [])) (tab l' j)

        pub aborted_took : (t : Filled) → Runs (λ e. loop n (walk false (aborted_shape true) e.o)) s q (in_place l k) (filled_is l' (Ok t)) → Reads f (beside_is l' (counted_at n t.next t.mark))
        unfolding aborted_array standing array_items behind_count
        aborted_took t h = subst (λ (b : Bool). Reads b (beside_is l' (counted_at n t.next t.mark))) (sym d) (record {
          law = λ e. items_took false size refl e.0.t (aborted_shape true) end e.0.o (beside l k e) s p n q g (stored t.mark e) t.next (ok (stored t.mark e) t.next) (items_beside (aborted_shape true) s q l k n n (filled_is l') (Ok t) (Ok t) h refl e) (row_end false e.0.o (stored t.mark e) s t.next);
        })
