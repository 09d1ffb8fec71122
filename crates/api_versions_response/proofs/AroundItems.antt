-- What stands around the items: each way out of the walks over the throttle time, the own tags, and the whole body.
use mathlib.Core.Bool.{Bool, false, true}
use mathlib.Core.List.{List, [], ◌++◌, ◌∷◌}
use mathlib.Core.Path.{◌∙◌, ◌≡◌, ap, refl, sym}
use Prim.Native.Nat.{ℕ}
use lib.ListN.{drop}
use Rattle.layout.specs.Reading.{Reader, Refusal, Res, bad, give, loop, more, ok, then}
use Rattle.layout.specs.Primitives.{cell, keeps, w16, w32}
use Rattle.layout.specs.Rows.{Shape, array, end, items, number, optional, stands}
use Rattle.layout.specs.Read.{read_basic}
use Rattle.layout.specs.Tables.{absent_cells, cells, read_rows, width}
use Rattle.layout.proofs.Link.{then_assoc}
use Rattle.primitives.specs.Answers.{of_refusal}
use Rattle.primitives.specs.declared.Refusal as Code
use Rattle.body_reading.specs.Moved.{array_items}
use Rattle.body_reading.specs.Store.{State, Tab, add, own, put, store, tab}
use Rattle.body_reading.specs.Tagged.{tags_if}
use Rattle.body_reading.specs.Walk.{Places, Runs, on, row_from, walk}
use Rattle.body_reading.proofs.Arrays.{items_no, items_no_count, items_took}
use Rattle.body_reading.proofs.Front.{then_give}
use Rattle.body_reading.proofs.Chains.{then_no, then_took}
use Rattle.tagged_fields.specs.Read as Tags
use Rattle.body_reading.specs.Cells.{versioned_cells}
use Rattle.body_reading.specs.declared.walks.Counted.{Counted}
use Rattle.std.specs.Prelude.{Option, Some, None, Result, Ok, Err}
use Rattle.api_versions_response.specs.ItemShapes.{key_shape}
use Rattle.api_versions_response.specs.Shapes.{body_shape, tail_shape}
use Rattle.api_versions_response.specs.ItemWalks.{in_tables, rows_at, rows_is}
use Rattle.api_versions_response.specs.Walks.{Before, behind_items, finish, of_measured, of_tail}
use Rattle.api_versions_response.specs.declared.items.Rows.{Rows}
use Rattle.api_versions_response.specs.declared.reading.Tail.{Tail}
use Rattle.api_versions_response.specs.declared.reading.Measured.{Measured}

-- the throttle time, where the version has one
abbrev throttle : Bool → Reader (List ℕ)
throttle t = row_from [] (stands t (optional (0 ∷ []) (number w32)) end)

-- ---- the tail

tail_is : (w t f : Bool) (st : State) (p : ℕ) (s : List ℕ) → then (throttle t) (λ cs. walk w (tags_if f 2) 0 (add 0 cs st)) p s ≡ walk w (tail_shape t f) 0 st p s
unfolding row_from tail_shape stands read_rows read_basic cells absent_cells width
tail_is w true f st p s =
    sym (then_assoc (cell w32) (λ n. give (2 ∷ n ∷ [])) (λ cs. walk w (tags_if f 2) 0 (add 0 cs st)) p s)
    ∙ (λ i. then (cell w32) (λ n q u. then_give (2 ∷ n ∷ []) (λ cs. walk w (tags_if f 2) 0 (add 0 cs st)) q u i) p s)
tail_is w false f st p s = then_give (0 ∷ 0 ∷ []) (λ cs. walk w (tags_if f 2) 0 (add 0 cs st)) p s

-- the own row and the table of tags, around that of the items
around : Tab → Places
unfolding add
around x = record { h = λ y z. y ∷ x ∷ z ∷ []; o = 0; t = 2; row_law = λ y z ds. refl; items_law = λ y z ds. refl }

module _ (t f : Bool) (s : List ℕ) (p : ℕ) (ts : List ℕ) (m : ℕ) where
  on_tail : (e : Before) → on (then (throttle t) (λ cs. walk e.whole (tags_if f 2) 0 (add 0 cs (behind_items ts m e)))) s p ≡ on (walk e.whole (tail_shape t f) 0 (behind_items ts m e)) s p
  unfolding on
  on_tail e = ap (more p) (tail_is e.whole t f (behind_items ts m e) p (drop p s))

  pub tail_no : (c : Refusal) → bad c ≡ on (throttle t) s p → Runs (λ e. walk e.whole (tail_shape t f) 0) s p (behind_items ts m) (λ e. bad c)
  tail_no c d = record { law = λ e. then_no (throttle t) _ s p d ∙ on_tail e }

  module _ (x : Option ℕ) (n : ℕ) (d : ok (versioned_cells x) n ≡ on (throttle t) s p) (ts' : List ℕ) (z : Result Counted Code.Refusal) (l : Runs (λ e. walk e.0 (tags_if f e.1.t) e.1.o) s n (Tags.in_tables ts m) (Tags.in_tables_is ts' z)) where
    -- the own row once the throttle time is there
    abbrev timed : Before → Tab
    timed e = store (own (e.error ∷ e.count ∷ [])) (versioned_cells x)

    from_throttle : (e : Before) → Tags.in_tables_is ts' z (e.whole, around e.items, timed e) ≡ on (walk e.whole (tail_shape t f) 0 (behind_items ts m e)) s p
    unfolding around add
    from_throttle e = then_took (throttle t) _ s p d (l.law (e.whole, around e.items, timed e)) ∙ on_tail e

    pub tail_no_tags : (c : Code.Refusal) → z ≡ Err c → Runs (λ e. walk e.whole (tail_shape t f) 0) s p (behind_items ts m) (λ e. bad (of_refusal c))
    tail_no_tags c j = record { law = λ e. ap (λ y. Tags.in_tables_is ts' y (e.whole, around e.items, timed e)) (sym j) ∙ from_throttle e }

    rowed : (k : ℕ) (e : Before) → own (e.error ∷ e.count ∷ (versioned_cells x ++ (k ∷ []))) ≡ store (timed e) (k ∷ [])
    unfolding store put
    rowed k e = go x
      where
        go : (y : Option ℕ) → own (e.error ∷ e.count ∷ (versioned_cells y ++ (k ∷ []))) ≡ store (store (own (e.error ∷ e.count ∷ [])) (versioned_cells y)) (k ∷ [])
        go None = refl
        go (Some v) = refl

    pub tail_took : (y : Counted) → z ≡ Ok y → Runs (λ e. walk e.whole (tail_shape t f) 0) s p (behind_items ts m) (of_tail ts' (Ok (record { throttle = x; tags = y.count; next = y.next; mark = y.mark })))
    unfolding around
    tail_took y j = record {
      law = λ e.
          (λ i. ok (rowed y.count e i ∷ e.items ∷ tab ts' y.mark ∷ []) y.next)
          ∙ ap (λ y. Tags.in_tables_is ts' y (e.whole, around e.items, timed e)) (sym j)
          ∙ from_throttle e;
    }

-- ---- the body

no_null : (f : Bool) → keeps (items f) ≡ false
no_null true = refl
no_null false = refl

module _ (t f w : Bool) (s is ts : List ℕ) where
  abbrev start : State
  start = own [] ∷ tab is 0 ∷ tab ts 0 ∷ []

  pub error_no : (c : Refusal) → bad c ≡ on (cell w16) s 0 → bad c ≡ on (walk w (body_shape t f) 0 start) s 0
  unfolding body_shape read_rows read_basic
  error_no c e = then_no (cell w16) _ s 0 e

  module _ (x p : ℕ) (d : ok x p ≡ on (cell w16) s 0) where
    abbrev rest : Shape
    rest = array (items f) 1 (key_shape f) (tail_shape t f)

    abbrev after_error : State
    after_error = own (x ∷ []) ∷ tab is 0 ∷ tab ts 0 ∷ []

    from_error : {z : Res State} → z ≡ on (walk w rest 0 after_error) s p → z ≡ on (walk w (body_shape t f) 0 start) s 0
    unfolding body_shape read_rows read_basic cells add store put
    from_error g = then_took (cell w16) _ s 0 d g

    pub count_no : (c : Refusal) → bad c ≡ on (array_items f w) s p → bad c ≡ on (walk w (body_shape t f) 0 start) s 0
    unfolding array_items
    count_no c g = from_error (items_no_count w (items f) (no_null f) 1 (key_shape f) (tail_shape t f) 0 after_error s p c g)

    module _ (k q : ℕ) (g : ok k q ≡ on (array_items f w) s p) (is' ts' : List ℕ) (r : Result Rows Code.Refusal) (h : Runs (λ e. loop k (walk e.0 (key_shape f) 1)) s q (in_tables is 0 ts 0) (rows_is is' ts' r)) where
      looped : rows_is is' ts' r (w, x ∷ k ∷ []) ≡ on (loop k (walk w (key_shape f) 1) (add 0 (k ∷ []) after_error)) s q
      unfolding add store put
      looped = h.law (w, x ∷ k ∷ [])

      pub items_bad : (c : Code.Refusal) → r ≡ Err c → bad (of_refusal c) ≡ on (walk w (body_shape t f) 0 start) s 0
      unfolding array_items
      items_bad c e = from_error (items_no w (items f) (no_null f) 1 (key_shape f) (tail_shape t f) 0 after_error s p k q g (of_refusal c) (ap (λ y. rows_is is' ts' y (w, x ∷ k ∷ [])) (sym e) ∙ looped))

      pub body_is : (n i m : ℕ) → r ≡ rows_at n i m → (ts'' : List ℕ) (z : Result Tail Code.Refusal) → Runs (λ e. walk e.whole (tail_shape t f) 0) s n (behind_items ts' m) (of_tail ts'' z) →
          (b : Result Measured Code.Refusal) → b ≡ finish x k i z → of_measured is' ts'' b ≡ on (walk w (body_shape t f) 0 start) s 0
      unfolding array_items
      body_is n i m e ts'' z l b v =
          ap (of_measured is' ts'') v
          ∙ said z
          ∙ from_error (items_took w (items f) (no_null f) 1 (key_shape f) (tail_shape t f) 0 after_error s p k q g _ n _ (ap (λ y. rows_is is' ts' y (w, x ∷ k ∷ [])) (sym e) ∙ looped) (l.law before))
        where
          before : Before
          before = record { whole = w; error = x; count = k; items = tab is' i }

          said : (z : Result Tail Code.Refusal) → of_measured is' ts'' (finish x k i z) ≡ of_tail ts'' z before
          said (Ok y) = refl
          said (Err c) = refl
