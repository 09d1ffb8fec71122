-- A topic into the tables: each way out of the walk over it.
use mathlib.Core.Bool.{Bool, false}
use mathlib.Core.List.{List, [], ◌∷◌}
use mathlib.Core.Path.{◌∙◌, ◌≡◌, ap, refl, sym}
use Prim.Native.Nat.{ℕ}
use Rattle.layout.specs.Reading.{Refusal, Res, bad, loop, ok}
use Rattle.layout.specs.Primitives.{empty, fixed, never, w16, w32}
use Rattle.layout.specs.Rows.{Basic, Shape, array, end, text}
use Rattle.layout.specs.Read.{by_place, read_basic}
use Rattle.layout.specs.Tables.{cells, span}
use Rattle.primitives.specs.Answers.{of_refusal}
use Rattle.primitives.specs.declared.Refusal as Code
use Rattle.body_reading.specs.Moved.{array_items}
use Rattle.body_reading.specs.Store.{State, Tab, add, store, tab}
use Rattle.body_reading.specs.Walk.{Runs, on, walk}
use Rattle.body_reading.proofs.Arrays.{items_no, items_no_count, items_took, row_end}
use Rattle.body_reading.proofs.Chains.{field_no, field_took}
use Rattle.body_reading.proofs.Stores.{store_append}
use Rattle.fetch_response.specs.TopicShapes.{partition_shape, topic_shape}
use Rattle.fetch_response.specs.TopicWalks.{Before, in_partitions, in_topics, partitions_is, topics_is}
use Rattle.fetch_response.specs.declared.marks.Marked.{Marked}
use Rattle.fetch_response.specs.declared.marks.Marks.{Marks}
use Rattle.std.specs.Prelude.{Result, Ok, Err}

abbrev name : Basic
name = text (fixed w16 never)

-- the partitions, behind the name
abbrev partitions : Bool → Shape
partitions f = array (fixed w32 empty) 2 (partition_shape f) end

module _ (f : Bool) (s : List ℕ) (p : ℕ) (ts ps xs : List ℕ) (m : Marks) where
  pub name_no : (c : Code.Refusal) → bad (of_refusal c) ≡ on (read_basic (by_place false) name) s p → Runs (λ e. walk false (topic_shape f) 1) s p (in_topics ts ps xs m) (λ e. bad (of_refusal c))
  unfolding topic_shape
  name_no c h = record { law = λ e. field_no false name (partitions f) 1 (in_topics ts ps xs m e) s p (of_refusal c) h }

  module _ (a k q : ℕ) (h : ok (a, k) q ≡ on (read_basic (by_place false) name) s p) where
    -- the tables once the name is stored
    abbrev named : Tab → State
    named e = e ∷ store (tab ts m.topics) (a ∷ k ∷ []) ∷ tab ps m.partitions ∷ tab xs m.aborted ∷ []

    from_name : (e : Tab) (z : Res State) → z ≡ on (walk false (partitions f) 1 (named e)) s q → z ≡ on (walk false (topic_shape f) 1 (in_topics ts ps xs m e)) s p
    unfolding topic_shape add cells span
    from_name e z g = field_took false name (partitions f) 1 (in_topics ts ps xs m e) s p (a, k) q z h g

    pub count_no : (c : Refusal) → bad c ≡ on (array_items false false) s q → Runs (λ e. walk false (topic_shape f) 1) s p (in_topics ts ps xs m) (λ e. bad c)
    unfolding array_items
    count_no c g = record { law = λ e. from_name e (bad c) (items_no_count false (fixed w32 empty) refl 2 (partition_shape f) end 1 (named e) s q c g) }

    module _ (n u : ℕ) (g : ok n u ≡ on (array_items false false) s q) (ts' : List ℕ) (t : ℕ) (j : tab ts' t ≡ store (tab ts m.topics) (a ∷ k ∷ n ∷ [])) where
      -- the marks once the row is stored
      abbrev marked : Marks
      marked = record { topics = t; partitions = m.partitions; aborted = m.aborted }

      abbrev before : Tab → Before
      before e = record { row = e; topics = ts' }

      stored : (e : Tab) → in_partitions ps xs marked (before e) ≡ add 1 (n ∷ []) (named e)
      unfolding add
      stored e = ap (λ (y : Tab). e ∷ y ∷ tab ps m.partitions ∷ tab xs m.aborted ∷ []) (j ∙ sym (store_append (tab ts m.topics) (a ∷ k ∷ []) (n ∷ [])))

      pub topic_took : (ps' xs' : List ℕ) (y : Result Marked Code.Refusal) → Runs (λ e. loop n (walk false (partition_shape f) 2)) s u (in_partitions ps xs marked) (partitions_is ps' xs' y) → Runs (λ e. walk false (topic_shape f) 1) s p (in_topics ts ps xs m) (topics_is ts' ps' xs' y)
      unfolding array_items
      topic_took ps' xs' y l = record { law = λ e. from_name e _ (go e y (l.law (before e) ∙ ap (λ (st : State). on (loop n (walk false (partition_shape f) 2) st) s u) (stored e))) }
        where
          go : (e : Tab) (y : Result Marked Code.Refusal) → partitions_is ps' xs' y (before e) ≡ on (loop n (walk false (partition_shape f) 2) (add 1 (n ∷ []) (named e))) s u → topics_is ts' ps' xs' y e ≡ on (walk false (partitions f) 1 (named e)) s q
          go e (Ok t) w = items_took false (fixed w32 empty) refl 2 (partition_shape f) end 1 (named e) s q n u g _ t.next _ w (row_end false 1 _ s t.next)
          go e (Err c) w = items_no false (fixed w32 empty) refl 2 (partition_shape f) end 1 (named e) s q n u g (of_refusal c) w
