-- What stands around brokers and topics: each way out of the walks over cluster and controller, over all behind the brokers, and over the whole body.
use mathlib.Core.Bool.{false}
use mathlib.Core.List.{List, [], ◌++◌, ◌∷◌, append_assoc}
use mathlib.Core.Path.{◌∙◌, ◌≡◌, ap, refl, sym}
use Prim.Native.Nat.{ℕ}
use lib.Dec.{leb}
use Rattle.std.specs.Prelude.{Ok, Option}
use Rattle.layout.specs.Reading.{Refusal, Res, bad, loop, ok}
use Rattle.primitives.specs.declared.Taken.{Taken}
use Rattle.metadata_response.specs.declared.marks.Marks.{Marks}
use Rattle.layout.specs.Primitives.{empty, fixed, kept, w16, w32}
use Rattle.layout.specs.Rows.{Basic, Shape, array, end, number, optional, stands, text}
use Rattle.body_reading.specs.Moved.{array_items}
use Rattle.body_reading.specs.Store.{State, Tab, add, own, tab}
use Rattle.body_reading.specs.Walk.{Runs, on, row_from, walk}
use Rattle.body_reading.proofs.Arrays.{items_no, items_no_count, items_took, row_end}
use Rattle.body_reading.proofs.Close.{store_own}
use Rattle.body_reading.proofs.Front.{Flat, onto, stands_flat, stands_onto}
use Rattle.body_reading.proofs.RowCells.{cells_end, cells_if_no, cells_if_took, row_no, row_took}
use Rattle.body_reading.specs.Cells.{field_cells, versioned_cells}
use Rattle.body_reading.specs.Fronts.{front_of}
use Rattle.body_reading.proofs.Fronts.{body_no_front, body_no_items, body_took_items}
use Rattle.metadata_response.specs.Brokers.{at_brokers, broker_shape, filled_is}
use Rattle.body_reading.specs.declared.walks.Filled.{Filled}
use Rattle.metadata_response.specs.TopicShapes.{topic_shape}
use Rattle.metadata_response.specs.TopicWalks.{in_topics, no_marks, topics_is}
use Rattle.metadata_response.specs.Shapes.{body_shape, middle_shape, tail_shape}
use Rattle.metadata_response.specs.Walks.{behind_brokers, middle_cells, of_tail, of_walked}
use Rattle.metadata_response.specs.declared.body.Middle.{Middle}
use Rattle.metadata_response.specs.declared.body.Tail.{Tail}

abbrev cluster : Basic
cluster = text (fixed w16 kept)

abbrev number32 : Basic
number32 = optional (0 ∷ []) (number w32)

-- ---- cluster and controller

middle_flat : (v : ℕ) → Flat (middle_shape v)
unfolding middle_shape
middle_flat v = stands_flat cluster (leb 2 v) _ (stands_flat number32 (leb 1 v) end tt)

middle_onto : (v : ℕ) (r : Shape) → onto (middle_shape v) r ≡ stands (leb 2 v) cluster (stands (leb 1 v) number32 r)
unfolding middle_shape
middle_onto v r = stands_onto cluster (leb 2 v) _ r ∙ ap (stands (leb 2 v) cluster) (stands_onto number32 (leb 1 v) end r)

module _ (s : List ℕ) (p v : ℕ) where
  pub no_cluster : (c : Refusal) → bad c ≡ on (row_from [] (stands (leb 2 v) cluster end)) s p → bad c ≡ on (row_from [] (middle_shape v)) s p
  unfolding middle_shape
  no_cluster c h = cells_if_no (leb 2 v) cluster (stands (leb 1 v) number32 end) [] s p c h

  module _ (cs : List ℕ) (q : ℕ) (h : ok cs q ≡ on (row_from [] (stands (leb 2 v) cluster end)) s p) where
    after_cluster : (o : Res (List ℕ)) → o ≡ on (row_from cs (stands (leb 1 v) number32 end)) s q → o ≡ on (row_from [] (middle_shape v)) s p
    unfolding middle_shape
    after_cluster o e = cells_if_took (leb 2 v) cluster (stands (leb 1 v) number32 end) [] s p cs q h o e

    pub no_controller : (c : Refusal) → bad c ≡ on (row_from [] (stands (leb 1 v) number32 end)) s q → bad c ≡ on (row_from [] (middle_shape v)) s p
    no_controller c g = after_cluster _ (cells_if_no (leb 1 v) number32 end cs s q c g)

    pub middle_took : (es : List ℕ) (n : ℕ) → ok es n ≡ on (row_from [] (stands (leb 1 v) number32 end)) s q → ok (cs ++ es) n ≡ on (row_from [] (middle_shape v)) s p
    middle_took es n g = after_cluster _ (cells_if_took (leb 1 v) number32 end cs s q es n g _ (cells_end (cs ++ es) s n))

-- ---- after the brokers

module _ (s : List ℕ) (p v : ℕ) (ts ps rs is : List ℕ) where
  abbrev topics : Shape
  topics = array (fixed w32 empty) 2 (topic_shape (leb 1 v)) end

  pub no_middle : (c : Refusal) → bad c ≡ on (row_from [] (middle_shape v)) s p → Runs (λ e. walk false (tail_shape v) 0) s p (behind_brokers ts ps rs is) (λ e. bad c)
  unfolding tail_shape
  no_middle c h = record {
    law = λ e.
        row_no (middle_shape v) (middle_flat v) s p topics 0 (behind_brokers ts ps rs is e) c h
        ∙ ap (λ (l : Shape). on (walk false l 0 (behind_brokers ts ps rs is e)) s p) (middle_onto v topics);
  }

  module _ (m : Middle) (q : ℕ) (h : ok (middle_cells m) q ≡ on (row_from [] (middle_shape v)) s p) where
    -- the own row once cluster and controller are there
    abbrev row : List ℕ × Tab → List ℕ
    row e = e.0 ++ middle_cells m

    abbrev after : List ℕ × Tab → State
    after e = in_topics ts ps rs is no_marks (own (row e), e.1)

    from_middle : (e : List ℕ × Tab) (z : Res State) → z ≡ on (walk false topics 0 (after e)) s q → z ≡ on (walk false (tail_shape v) 0 (behind_brokers ts ps rs is e)) s p
    unfolding tail_shape add
    from_middle e z g =
        row_took (middle_shape v) (middle_flat v) s p topics 0 (behind_brokers ts ps rs is e) (middle_cells m) q h z
        (g ∙ ap (λ (t : Tab). on (walk false topics 0 (in_topics ts ps rs is no_marks (t, e.1))) s q) (sym (store_own (middle_cells m) e.0)))
        ∙ ap (λ (l : Shape). on (walk false l 0 (behind_brokers ts ps rs is e)) s p) (middle_onto v topics)

    pub no_topics : (c : Refusal) → bad c ≡ on (array_items false false) s q → Runs (λ e. walk false (tail_shape v) 0) s p (behind_brokers ts ps rs is) (λ e. bad c)
    unfolding array_items
    no_topics c g = record { law = λ e. from_middle e _ (items_no_count false (fixed w32 empty) refl 2 (topic_shape (leb 1 v)) end 0 (after e) s q c g) }

    module _ (k u : ℕ) (g : ok k u ≡ on (array_items false false) s q) (f : Tab × Tab → Res State) (t : Runs (λ e. loop k (walk false (topic_shape (leb 1 v)) 2)) s u (in_topics ts ps rs is no_marks) f) where
      abbrev counted : List ℕ × Tab → Tab × Tab
      counted e = (own (row e ++ (k ∷ [])), e.1)

      looped : (e : List ℕ × Tab) → f (counted e) ≡ on (loop k (walk false (topic_shape (leb 1 v)) 2) (add 0 (k ∷ []) (after e))) s u
      unfolding add
      looped e = t.law (counted e) ∙ ap (λ (y : Tab). on (loop k (walk false (topic_shape (leb 1 v)) 2) (in_topics ts ps rs is no_marks (y, e.1))) s u) (sym (store_own (k ∷ []) (row e)))

      pub topics_bad : (c : Refusal) → ((e : Tab × Tab) → bad c ≡ f e) → Runs (λ e. walk false (tail_shape v) 0) s p (behind_brokers ts ps rs is) (λ e. bad c)
      unfolding array_items
      topics_bad c i = record {
        law = λ e. from_middle e _ (items_no false (fixed w32 empty) refl 2 (topic_shape (leb 1 v)) end 0 (after e) s q k u g c (i (counted e) ∙ looped e));
      }

      pub tail_took : (ts' ps' rs' is' : List ℕ) (r : Taken Marks) → ((e : Tab × Tab) → topics_is ts' ps' rs' is' (Ok r) e ≡ f e) →
          Runs (λ e. walk false (tail_shape v) 0) s p (behind_brokers ts ps rs is) (of_tail ts' ps' rs' is' (Ok (record { cluster = m.cluster; controller = m.controller; topics = k; next = r.next; marks = r.value })))
      unfolding array_items
      tail_took ts' ps' rs' is' r i = record {
        law = λ e.
            ap (λ (cs : List ℕ). ok (in_topics ts' ps' rs' is' r.value (own cs, e.1)) r.next) (flat e.0)
            ∙ from_middle e _
            (items_took false (fixed w32 empty) refl 2 (topic_shape (leb 1 v)) end 0 (after e) s q k u g _ r.next _ (i (counted e) ∙ looped e) (row_end false 0 _ s r.next));
      }
        where
          flat : (ds : List ℕ) → ds ++ (field_cells m.cluster ++ (versioned_cells m.controller ++ (k ∷ []))) ≡ (ds ++ middle_cells m) ++ (k ∷ [])
          flat ds = ap (λ (es : List ℕ). ds ++ es) (sym (append_assoc (field_cells m.cluster) (versioned_cells m.controller) (k ∷ []))) ∙ sym (append_assoc ds (middle_cells m) (k ∷ []))

-- ---- the body

module _ (s : List ℕ) (v : ℕ) (bs ts ps rs is : List ℕ) where
  abbrev lent : State
  lent = tab bs 0 ∷ tab ts 0 ∷ tab ps 0 ∷ tab rs 0 ∷ tab is 0 ∷ []

  pub no_front : (c : Refusal) → bad c ≡ on (front_of (leb 3 v)) s 0 → bad c ≡ on (walk false (body_shape v) 0 (own [] ∷ lent)) s 0
  unfolding body_shape
  no_front c h = body_no_front (leb 3 v) s 1 (broker_shape (leb 1 v)) (tail_shape v) lent c h

  module _ (x : Option ℕ) (k q : ℕ) (h : ok (versioned_cells x, k) q ≡ on (front_of (leb 3 v)) s 0) where
    -- the tables around that of the brokers
    abbrev others : Tab × State
    others = (own (versioned_cells x ++ (k ∷ [])), tab ts 0 ∷ tab ps 0 ∷ tab rs 0 ∷ tab is 0 ∷ [])

    pub brokers_bad : (c : Refusal) → Runs (λ e. loop k (walk false (broker_shape (leb 1 v)) 1)) s q (at_brokers bs 0) (λ e. bad c) → bad c ≡ on (walk false (body_shape v) 0 (own [] ∷ lent)) s 0
    unfolding body_shape
    brokers_bad c l = body_no_items (leb 3 v) s 1 (broker_shape (leb 1 v)) (tail_shape v) lent (versioned_cells x) k q h c (l.law others)

    module _ (bs' : List ℕ) (a : Filled) (l : Runs (λ e. loop k (walk false (broker_shape (leb 1 v)) 1)) s q (at_brokers bs 0) (filled_is bs' (Ok a))) (f : List ℕ × Tab → Res State) (t : Runs (λ e. walk false (tail_shape v) 0) s a.next (behind_brokers ts ps rs is) f) where
      after_brokers : f (versioned_cells x ++ (k ∷ []), tab bs' a.mark) ≡ on (walk false (body_shape v) 0 (own [] ∷ lent)) s 0
      unfolding body_shape
      after_brokers = body_took_items (leb 3 v) s 1 (broker_shape (leb 1 v)) (tail_shape v) lent (versioned_cells x) k q h _ a.next _ (l.law others) (t.law (versioned_cells x ++ (k ∷ []), tab bs' a.mark))

      pub tail_bad : (c : Refusal) → ((e : List ℕ × Tab) → bad c ≡ f e) → bad c ≡ on (walk false (body_shape v) 0 (own [] ∷ lent)) s 0
      tail_bad c i = i _ ∙ after_brokers

      pub body_is : (ts' ps' rs' is' : List ℕ) (z : Tail) → ((e : List ℕ × Tab) → of_tail ts' ps' rs' is' (Ok z) e ≡ f e) →
          of_walked bs' ts' ps' rs' is' (Ok (record { body = record { throttle = x; brokers = k; cluster = z.cluster; controller = z.controller; topics = z.topics }; next = z.next; brokers = a.mark; marks = z.marks }))
          ≡ on (walk false (body_shape v) 0 (own [] ∷ lent)) s 0
      body_is ts' ps' rs' is' z i =
          ap (λ (cs : List ℕ). ok (in_topics ts' ps' rs' is' z.marks (own cs, tab bs' a.mark)) z.next) (sym (append_assoc (versioned_cells x) (k ∷ []) (field_cells z.cluster ++ (versioned_cells z.controller ++ (z.topics ∷ [])))))
          ∙ i (versioned_cells x ++ (k ∷ []), tab bs' a.mark)
          ∙ after_brokers
