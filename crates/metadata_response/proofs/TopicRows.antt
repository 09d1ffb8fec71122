-- A topic into the tables: the fields in front of its partitions, one by one, and each way out of the walk over it.
use mathlib.Core.Bool.{Bool, false, true}
use mathlib.Core.List.{List, [], ◌∷◌}
use mathlib.Core.Path.{◌∙◌, ◌≡◌, ap, refl, sym}
use Prim.Native.Nat.{ℕ}
use Rattle.layout.specs.Reading.{Refusal, Res, bad, loop, ok}
use Rattle.layout.specs.Primitives.{cell, empty, fixed, never, w16, w32}
use Rattle.layout.specs.Rows.{Basic, Shape, array, boolean, end, field, number, stands, text}
use Rattle.layout.specs.Read.{by_place, read_basic}
use Rattle.layout.specs.Tables.{Span, cells, span}
use Rattle.body_reading.specs.Walk.{Runs, on, row_from, walk}
use Rattle.primitives.specs.Answers.{Read, of_refusal}
use Rattle.std.specs.Prelude.{Ok, Err}
use Rattle.body_reading.specs.Moved.{array_items}
use Rattle.body_reading.specs.Store.{State, Tab, add, store, tab}
use Rattle.metadata_response.specs.TopicShapes.{partition_shape, topic_front, topic_shape}
use Rattle.metadata_response.specs.TopicWalks.{Before, in_partitions, in_topics, partitions_is, topics_is}
use Rattle.metadata_response.specs.declared.marks.Marks.{Marks}
use Rattle.body_reading.proofs.RowCells.{cells_end, cells_if_no, cells_if_took, cells_no, cells_took, row_no, row_took}
use Rattle.body_reading.proofs.Arrays.{items_no, items_no_count, items_took, row_end}
use Rattle.body_reading.proofs.Front.{Flat, onto}
use Rattle.body_reading.proofs.Stores.{store_append}

abbrev name : Basic
name = text (fixed w16 never)

module _ (f : Bool) (s : List ℕ) (p : ℕ) where
  abbrev flag : Shape
  flag = stands f boolean end

  pub error_no : (c : Refusal) → bad c ≡ on (cell w16) s p → bad c ≡ on (row_from [] (topic_front f)) s p
  unfolding topic_front read_basic
  error_no c e = cells_no [] (number w16) (field name flag) s p c e

  module _ (a q : ℕ) (d : ok a q ≡ on (cell w16) s p) where
    pub name_no : (c : Refusal) → bad c ≡ on (read_basic (by_place false) name) s q → bad c ≡ on (row_from [] (topic_front f)) s p
    unfolding topic_front read_basic cells
    name_no c e = cells_took [] (number w16) (field name flag) s p a q d (bad c) (cells_no (a ∷ []) name flag s q c e)

    module _ (x : Span) (u : ℕ) (g : ok x u ≡ on (read_basic (by_place false) name) s q) where
      pub internal_no : (c : Refusal) → bad c ≡ on (row_from [] (stands f boolean end)) s u → bad c ≡ on (row_from [] (topic_front f)) s p
      unfolding topic_front read_basic cells span
      internal_no c e = cells_took [] (number w16) (field name flag) s p a q d (bad c) (cells_took (a ∷ []) name flag s q x u g (bad c) (cells_if_no f boolean end (a ∷ x.0 ∷ x.1 ∷ []) s u c e))

      pub fields_took : (i n : ℕ) → ok (i ∷ []) n ≡ on (row_from [] (stands f boolean end)) s u → ok (a ∷ x.0 ∷ x.1 ∷ i ∷ []) n ≡ on (row_from [] (topic_front f)) s p
      unfolding topic_front read_basic cells span
      fields_took i n e =
          cells_took [] (number w16) (field name flag) s p a q d _
          (cells_took (a ∷ []) name flag s q x u g _ (cells_if_took f boolean end (a ∷ x.0 ∷ x.1 ∷ []) s u (i ∷ []) n e _ (cells_end (a ∷ x.0 ∷ x.1 ∷ i ∷ []) s n)))

-- the partitions, behind the fields
abbrev partitions : Shape
partitions = array (fixed w32 empty) 3 partition_shape end

flat : (f : Bool) → Flat (topic_front f)
unfolding topic_front stands
flat true = tt
flat false = tt

whole : (f : Bool) → onto (topic_front f) partitions ≡ topic_shape f
unfolding topic_front topic_shape stands
whole true = refl
whole false = refl

module _ (f : Bool) (s : List ℕ) (p : ℕ) (ts ps rs is : List ℕ) (m : Marks) where
  as_whole : (e : Tab × Tab) → on (walk false (onto (topic_front f) partitions) 2 (in_topics ts ps rs is m e)) s p ≡ on (walk false (topic_shape f) 2 (in_topics ts ps rs is m e)) s p
  as_whole e = ap (λ (l : Shape). on (walk false l 2 (in_topics ts ps rs is m e)) s p) (whole f)

  pub topic_no : (c : Refusal) → bad c ≡ on (row_from [] (topic_front f)) s p → Runs (λ e. walk false (topic_shape f) 2) s p (in_topics ts ps rs is m) (λ e. bad c)
  topic_no c h = record { law = λ e. row_no (topic_front f) (flat f) s p partitions 2 (in_topics ts ps rs is m e) c h ∙ as_whole e }

  module _ (a b k i q : ℕ) (h : ok (a ∷ b ∷ k ∷ i ∷ []) q ≡ on (row_from [] (topic_front f)) s p) where
    -- the tables once the fields are stored
    abbrev fielded : Tab × Tab → State
    fielded e = e.0 ∷ e.1 ∷ store (tab ts m.topics) (a ∷ b ∷ k ∷ i ∷ []) ∷ tab ps m.partitions ∷ tab rs m.replicas ∷ tab is m.synced ∷ []

    from_fields : (e : Tab × Tab) (z : Res State) → z ≡ on (walk false partitions 2 (fielded e)) s q → z ≡ on (walk false (topic_shape f) 2 (in_topics ts ps rs is m e)) s p
    unfolding add
    from_fields e z g = row_took (topic_front f) (flat f) s p partitions 2 (in_topics ts ps rs is m e) (a ∷ b ∷ k ∷ i ∷ []) q h z g ∙ as_whole e

    pub count_no : (c : Refusal) → bad c ≡ on (array_items false false) s q → Runs (λ e. walk false (topic_shape f) 2) s p (in_topics ts ps rs is m) (λ e. bad c)
    unfolding array_items
    count_no c g = record { law = λ e. from_fields e (bad c) (items_no_count false (fixed w32 empty) refl 3 partition_shape end 2 (fielded e) s q c g) }

    module _ (n u : ℕ) (g : ok n u ≡ on (array_items false false) s q) (ts' : List ℕ) (t : ℕ) (j : tab ts' t ≡ store (tab ts m.topics) (a ∷ b ∷ k ∷ i ∷ n ∷ [])) where
      -- the marks once the row is stored
      abbrev marked : Marks
      marked = record { topics = t; partitions = m.partitions; replicas = m.replicas; synced = m.synced }

      abbrev before : Tab × Tab → Before
      before e = record { row = e.0; brokers = e.1; topics = ts' }

      stored : (e : Tab × Tab) → in_partitions ps rs is marked (before e) ≡ add 2 (n ∷ []) (fielded e)
      unfolding add
      stored e = ap (λ (y : Tab). e.0 ∷ e.1 ∷ y ∷ tab ps m.partitions ∷ tab rs m.replicas ∷ tab is m.synced ∷ []) (j ∙ sym (store_append (tab ts m.topics) (a ∷ b ∷ k ∷ i ∷ []) (n ∷ [])))

      pub topic_took : (ps' rs' is' : List ℕ) (y : Read Marks) → Runs (λ e. loop n (walk false partition_shape 3)) s u (in_partitions ps rs is marked) (partitions_is ps' rs' is' y) → Runs (λ e. walk false (topic_shape f) 2) s p (in_topics ts ps rs is m) (topics_is ts' ps' rs' is' y)
      unfolding array_items
      topic_took ps' rs' is' y l = record { law = λ e. from_fields e _ (go e y (l.law (before e) ∙ ap (λ (st : State). on (loop n (walk false partition_shape 3) st) s u) (stored e))) }
        where
          go : (e : Tab × Tab) (y : Read Marks) → partitions_is ps' rs' is' y (before e) ≡ on (loop n (walk false partition_shape 3) (add 2 (n ∷ []) (fielded e))) s u → topics_is ts' ps' rs' is' y e ≡ on (walk false partitions 2 (fielded e)) s q
          go e (Ok v) w = items_took false (fixed w32 empty) refl 3 partition_shape end 2 (fielded e) s q n u g _ v.next _ w (row_end false 2 _ s v.next)
          go e (Err c) w = items_no false (fixed w32 empty) refl 3 partition_shape end 2 (fielded e) s q n u g (of_refusal c) w
