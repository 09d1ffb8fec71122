-- A partition into the tables: its numbers, field by field, and each way out of the walk over it.
use mathlib.Core.Bool.{Bool, false, true}
use mathlib.Core.List.{List, [], ◌∷◌}
use mathlib.Core.Path.{◌∙◌, ◌≡◌, ap, refl, sym}
use Prim.Native.Nat.{ℕ}
use Rattle.layout.specs.Reading.{Refusal, Res, bad, ok}
use Rattle.layout.specs.Primitives.{cell, empty, fixed, w16, w32, w64}
use Rattle.layout.specs.Rows.{Basic, Shape, blob, end, field, number, standing, stands}
use Rattle.layout.specs.Read.{by_place, read_basic}
use Rattle.layout.specs.Tables.{cells, span}
use Rattle.body_reading.specs.Walk.{Places, Runs, beside, on, row_from, walk}
use Rattle.primitives.specs.Answers.{of_refusal}
use Rattle.primitives.specs.declared.Refusal as Code
use Rattle.body_reading.specs.Store.{State, Tab, add, store, tab}
use Rattle.body_reading.specs.Walked.{beside_is}
use Rattle.body_reading.specs.declared.walks.Counted.{Counted}
use Rattle.fetch_response.specs.TopicShapes.{aborted_array, partition_front, partition_shape}
use Rattle.fetch_response.specs.TopicWalks.{Before, in_partitions, partitions_is}
use Rattle.fetch_response.specs.declared.marks.Marks.{Marks}
use Rattle.std.specs.Prelude.{Ok}
use Rattle.body_reading.proofs.RowCells.{cells_end, cells_if_no, cells_if_took, cells_no, cells_took, row_no, row_took}
use Rattle.body_reading.proofs.Arrays.{row_end}
use Rattle.body_reading.proofs.Chains.{field_no, field_took}
use Rattle.body_reading.proofs.Front.{Flat, onto}
use Rattle.body_reading.proofs.Joined.{joined_no, joined_took}
use Rattle.body_reading.proofs.Stores.{store_both}

module _ (f : Bool) (s : List ℕ) (p : ℕ) where
  -- what is behind the watermark, the error and the index
  abbrev one : Shape
  one = stands f (number w64) end

  abbrev two : Shape
  two = field (number w64) one

  abbrev three : Shape
  three = field (number w16) two

  pub index_no : (c : Refusal) → bad c ≡ on (cell w32) s p → bad c ≡ on (row_from [] (partition_front f)) s p
  unfolding partition_front read_basic
  index_no c e = cells_no [] (number w32) three s p c e

  module _ (a q : ℕ) (d : ok a q ≡ on (cell w32) s p) where
    from_index : (z : Res (List ℕ)) → z ≡ on (row_from (a ∷ []) three) s q → z ≡ on (row_from [] (partition_front f)) s p
    unfolding partition_front read_basic cells
    from_index z e = cells_took [] (number w32) three s p a q d z e

    pub error_no : (c : Refusal) → bad c ≡ on (cell w16) s q → bad c ≡ on (row_from [] (partition_front f)) s p
    unfolding read_basic
    error_no c e = from_index (bad c) (cells_no (a ∷ []) (number w16) two s q c e)

    module _ (b u : ℕ) (g : ok b u ≡ on (cell w16) s q) where
      from_error : (z : Res (List ℕ)) → z ≡ on (row_from (a ∷ b ∷ []) two) s u → z ≡ on (row_from [] (partition_front f)) s p
      unfolding read_basic cells
      from_error z e = from_index z (cells_took (a ∷ []) (number w16) two s q b u g z e)

      pub watermark_no : (c : Refusal) → bad c ≡ on (cell w64) s u → bad c ≡ on (row_from [] (partition_front f)) s p
      unfolding read_basic
      watermark_no c e = from_error (bad c) (cells_no (a ∷ b ∷ []) (number w64) one s u c e)

      module _ (w v : ℕ) (h : ok w v ≡ on (cell w64) s u) where
        from_watermark : (z : Res (List ℕ)) → z ≡ on (row_from (a ∷ b ∷ w ∷ []) one) s v → z ≡ on (row_from [] (partition_front f)) s p
        unfolding read_basic cells
        from_watermark z e = from_error z (cells_took (a ∷ b ∷ []) (number w64) one s u w v h z e)

        pub offset_no : (c : Refusal) → bad c ≡ on (row_from [] (stands f (number w64) end)) s v → bad c ≡ on (row_from [] (partition_front f)) s p
        offset_no c e = from_watermark (bad c) (cells_if_no f (number w64) end (a ∷ b ∷ w ∷ []) s v c e)

        pub numbers_took : (o n : ℕ) → ok (o ∷ []) n ≡ on (row_from [] (stands f (number w64) end)) s v → ok (a ∷ b ∷ w ∷ o ∷ []) n ≡ on (row_from [] (partition_front f)) s p
        numbers_took o n e = from_watermark _ (cells_if_took f (number w64) end (a ∷ b ∷ w ∷ []) s v (o ∷ []) n e _ (cells_end (a ∷ b ∷ w ∷ o ∷ []) s n))

abbrev records : Basic
records = blob (fixed w32 empty)

abbrev last : Shape
last = field records end

-- behind the numbers: aborted transactions, and records
abbrev rest : Bool → Shape
rest f = onto (aborted_array f 3) last

flat : (f : Bool) → Flat (partition_front f)
unfolding partition_front stands
flat true = tt
flat false = tt

whole : (f : Bool) → onto (partition_front f) (rest f) ≡ partition_shape f
unfolding partition_front partition_shape aborted_array stands standing
whole true = refl
whole false = refl

-- the partitions' table and that of aborted transactions
places : Before → Marks → Places
unfolding add
places e m = record { h = λ x y. e.row ∷ tab e.topics m.topics ∷ x ∷ y ∷ []; o = 2; t = 3; row_law = λ x y cs. refl; items_law = λ x y cs. refl }

module _ (f : Bool) (s : List ℕ) (p : ℕ) (ps xs : List ℕ) (m : Marks) where
  as_whole : (e : Before) → on (walk false (onto (partition_front f) (rest f)) 2 (in_partitions ps xs m e)) s p ≡ on (walk false (partition_shape f) 2 (in_partitions ps xs m e)) s p
  as_whole e = ap (λ (l : Shape). on (walk false l 2 (in_partitions ps xs m e)) s p) (whole f)

  pub partition_no : (c : Code.Refusal) → bad (of_refusal c) ≡ on (row_from [] (partition_front f)) s p → Runs (λ e. walk false (partition_shape f) 2) s p (in_partitions ps xs m) (λ e. bad (of_refusal c))
  partition_no c h = record { law = λ e. row_no (partition_front f) (flat f) s p (rest f) 2 (in_partitions ps xs m e) (of_refusal c) h ∙ as_whole e }

  module _ (a b w i q : ℕ) (h : ok (a ∷ b ∷ w ∷ i ∷ []) q ≡ on (row_from [] (partition_front f)) s p) where
    -- the partitions' table once the numbers are stored
    abbrev numbered : Tab
    numbered = store (tab ps m.partitions) (a ∷ b ∷ w ∷ i ∷ [])

    from_numbers : (e : Before) (z : Res State) → z ≡ on (walk false (rest f) 2 (e.row ∷ tab e.topics m.topics ∷ numbered ∷ tab xs m.aborted ∷ [])) s q → z ≡ on (walk false (partition_shape f) 2 (in_partitions ps xs m e)) s p
    unfolding add
    from_numbers e z g = row_took (partition_front f) (flat f) s p (rest f) 2 (in_partitions ps xs m e) (a ∷ b ∷ w ∷ i ∷ []) q h z g ∙ as_whole e

    pub aborted_no : (c : Code.Refusal) → Runs (λ e. walk false (aborted_array f e.0.t) e.0.o) s q (beside xs m.aborted) (λ e. bad (of_refusal c)) → Runs (λ e. walk false (partition_shape f) 2) s p (in_partitions ps xs m) (λ e. bad (of_refusal c))
    unfolding places
    aborted_no c l = record { law = λ e. from_numbers e _ (joined_no false last 2 (aborted_array f 3) _ s q (of_refusal c) (l.law (places e m, numbered))) }

    module _ (xs' : List ℕ) (x : Counted) (l : Runs (λ e. walk false (aborted_array f e.0.t) e.0.o) s q (beside xs m.aborted) (beside_is xs' (Ok x))) where
      abbrev counted : Tab
      counted = store numbered (x.count ∷ [])

      from_aborted : (e : Before) (z : Res State) → z ≡ on (walk false last 2 (e.row ∷ tab e.topics m.topics ∷ counted ∷ tab xs' x.mark ∷ [])) s x.next → z ≡ on (walk false (partition_shape f) 2 (in_partitions ps xs m e)) s p
      unfolding places
      from_aborted e z j = from_numbers e z (joined_took false last 2 (aborted_array f 3) _ s q _ x.next (l.law (places e m, numbered)) z j)

      pub records_no : (c : Code.Refusal) → bad (of_refusal c) ≡ on (read_basic (by_place false) records) s x.next → Runs (λ e. walk false (partition_shape f) 2) s p (in_partitions ps xs m) (λ e. bad (of_refusal c))
      records_no c v = record { law = λ e. from_aborted e _ (field_no false records end 2 _ s x.next (of_refusal c) v) }

      pub partition_took : (start len t : ℕ) → ok (start, len) t ≡ on (read_basic (by_place false) records) s x.next →
          (ps' : List ℕ) (o : ℕ) → tab ps' o ≡ store (tab ps m.partitions) (a ∷ b ∷ w ∷ i ∷ x.count ∷ start ∷ len ∷ []) →
          Runs (λ e. walk false (partition_shape f) 2) s p (in_partitions ps xs m) (partitions_is ps' xs' (Ok (record { next = t; marks = record { topics = m.topics; partitions = o; aborted = x.mark } })))
      unfolding add cells span
      partition_took start len t v ps' o z = record {
        law = λ e.
            (λ c. ok (e.row ∷ tab e.topics m.topics ∷ (z ∙ sym both) c ∷ tab xs' x.mark ∷ []) t)
            ∙ from_aborted e _ (field_took false records end 2 _ s x.next (start, len) t _ v (row_end false 2 _ s t));
      }
        where
          both : store counted (start ∷ len ∷ []) ≡ store (tab ps m.partitions) (a ∷ b ∷ w ∷ i ∷ x.count ∷ start ∷ len ∷ [])
          both = store_both numbered counted _ (x.count ∷ []) (start ∷ len ∷ []) refl refl ∙ store_both (tab ps m.partitions) numbered _ (a ∷ b ∷ w ∷ i ∷ []) (x.count ∷ start ∷ len ∷ []) refl refl
