-- A partition into the tables: its numbers, field by field, where all bytes are there and where some are missing, and each way out of the walk over it.
use mathlib.Core.List.{List, [], ◌++◌, ◌∷◌}
use mathlib.Core.Path.{◌∙◌, ◌≡◌, ap, refl, sym}
use mathlib.Core.Bool.{false}
use Prim.Native.Nat.{◌+◌, ◌-◌, ◌<◌, ◌≤◌, ℕ}
use native.Mathlib.Omega.{arith}
use lib.ListN.{drop, length, take}
use lib.Seq.{drop-drop}
use Rattle.layout.specs.Reading.{Refusal, Res, bad, because, ok}
use Rattle.layout.specs.Primitives.{cell, fixed, kept, w16, w32}
use Rattle.layout.specs.Rows.{Shape, array, end, field, number}
use Rattle.layout.specs.Read.{read_basic}
use Rattle.layout.specs.Tables.{cells}
use Rattle.body_reading.specs.Store.{State, Tab, add, step, store, tab}
use Rattle.body_reading.specs.Walk.{Places, Runs, beside, on, row_from, walk}
use Rattle.primitives.specs.Answers.{taken}
use Rattle.std.specs.Prelude.{Ok}
use Rattle.body_reading.specs.Walked.{beside_is}
use Rattle.body_reading.specs.declared.walks.Counted.{Counted}
use Rattle.metadata_response.specs.TopicShapes.{node_shape, nodes_shape, partition_front, partition_shape}
use Rattle.metadata_response.specs.TopicWalks.{Before, RowStored, in_partitions, partitions_is}
use Rattle.metadata_response.specs.declared.marks.Marks.{Marks}
use Rattle.layout.proofs.Local.{not_ok}
use Rattle.body_reading.proofs.FrontAt.{cell_at}
use Rattle.body_reading.proofs.Chains.{same_value}
use Rattle.body_reading.proofs.Stores.{four_out, store_append, store_both}
use Rattle.body_reading.proofs.RowCells.{cells_end, cells_no, cells_took, row_no, row_took}
use Rattle.body_reading.proofs.Joined.{joined_no, joined_took}
use Rattle.metadata_response.proofs.There.{cell_missing, cell_on}
use Rattle.primitives.proofs.Behind.{rest_in}

module _ (s : List ℕ) (p : ℕ) where
  abbrev two : Shape
  two = field (number w32) (field (number w32) end)

  abbrev one : Shape
  one = field (number w32) end

  pub error_no : (c : Refusal) → bad c ≡ on (cell w16) s p → bad c ≡ on (row_from [] partition_front) s p
  unfolding partition_front read_basic
  error_no c e = cells_no [] (number w16) two s p c e

  module _ (a q : ℕ) (d : ok a q ≡ on (cell w16) s p) where
    pub index_no : (c : Refusal) → bad c ≡ on (cell w32) s q → bad c ≡ on (row_from [] partition_front) s p
    unfolding partition_front read_basic cells
    index_no c e = cells_took [] (number w16) two s p a q d (bad c) (cells_no (a ∷ []) (number w32) one s q c e)

    module _ (b u : ℕ) (g : ok b u ≡ on (cell w32) s q) where
      pub leader_no : (c : Refusal) → bad c ≡ on (cell w32) s u → bad c ≡ on (row_from [] partition_front) s p
      unfolding partition_front read_basic cells
      leader_no c e = cells_took [] (number w16) two s p a q d (bad c) (cells_took (a ∷ []) (number w32) one s q b u g (bad c) (cells_no (a ∷ b ∷ []) (number w32) end s u c e))

      pub numbers_took : (c n : ℕ) → ok c n ≡ on (cell w32) s u → ok (a ∷ b ∷ c ∷ []) n ≡ on (row_from [] partition_front) s p
      unfolding partition_front read_basic cells
      numbers_took c n e =
          cells_took [] (number w16) two s p a q d _
          (cells_took (a ∷ []) (number w32) one s q b u g _ (cells_took (a ∷ b ∷ []) (number w32) end s u c n e _ (cells_end (a ∷ b ∷ c ∷ []) s n)))

  -- all bytes are there
  numbers_there : (a b c : ℕ) → ok a (p + 2) ≡ on (cell w16) s p → ok b (p + 2 + 4) ≡ on (cell w32) s (p + 2) → ok c (p + 6 + 4) ≡ on (cell w32) s (p + 6) → ok (a ∷ b ∷ c ∷ []) (p + 10) ≡ on (row_from [] partition_front) s p
  numbers_there a b c d g h =
      let i : p + 6 ≡ p + 2 + 4 = omega arith in
      let j : p + 10 ≡ p + 6 + 4 = omega arith in
      numbers_took a (p + 2) d b (p + 6) (ap (λ (k : ℕ). ok b k) i ∙ g) c (p + 10) (ap (λ (k : ℕ). ok c k) j ∙ h)

  -- each number on what the one before it left
  abbrev left : List ℕ
  left = take (length s - p) (drop p s)

  left_from : (k : ℕ) → take (length left - k) (drop k left) ≡ drop (p + k) s
  left_from k = rest_in left k ∙ ap (drop k) (rest_in s p) ∙ drop-drop k p s

  pub numbers_left : (a b c : ℕ) → ok a 2 ≡ cell w16 0 left → ok b 4 ≡ cell w32 0 (take (length left - 2) (drop 2 left)) → ok c 4 ≡ cell w32 0 (take (length left - 6) (drop 6 left)) → ok (a ∷ b ∷ c ∷ []) (p + 10) ≡ on (row_from [] partition_front) s p
  numbers_left a b c d g h = numbers_there a b c (cell_on w16 s left p a (rest_in s p) d) (cell_on w32 s _ (p + 2) b (left_from 2) g) (cell_on w32 s _ (p + 6) c (left_from 6) h)

  -- the first number that is not whole
  module _ (c : Refusal) where
    pub error_missing : c ≡ because 3 p → length s < p + 2 → bad c ≡ on (row_from [] partition_front) s p
    error_missing e h = error_no c (ap bad e ∙ cell_missing w16 s p h)

    pub index_missing : c ≡ because 3 (p + 2) → p + 2 ≤ length s → length s < p + 6 → bad c ≡ on (row_from [] partition_front) s p
    index_missing e h g = index_no _ (p + 2) (cell_at w16 s p h) c (ap bad e ∙ cell_missing w32 s (p + 2) (omega arith))

    pub leader_missing : c ≡ because 3 (p + 6) → p + 6 ≤ length s → length s < p + 10 → bad c ≡ on (row_from [] partition_front) s p
    leader_missing e h g =
        let i : p + 6 ≡ p + 2 + 4 = omega arith in
        leader_no _ (p + 2) (cell_at w16 s p (omega arith)) _ (p + 2 + 4) (cell_at w32 s (p + 2) (omega arith)) c (ap bad (e ∙ ap (λ (k : ℕ). because 3 k) i) ∙ cell_missing w32 s (p + 2 + 4) (omega arith))

  -- ---- the row with the counts of its arrays

  module _ (l : List ℕ) (k count synced : ℕ) (l' : List ℕ) (r : ℕ) where
    -- passed over
    pub row_out : (m : ℕ) → m ≡ step (step (step (step k))) → length l ≤ k → tab l' r ≡ store (tab l m) (synced ∷ []) → RowStored s p l k count synced l' r
    row_out m e h i = record { law = λ a b c q d. store_both (tab l k) (tab l m) (tab l' r) (a ∷ b ∷ c ∷ count ∷ []) (synced ∷ []) (four_out l k a b c count m e h) i }

    pub row_in : (a b c q : ℕ) → ok (a ∷ b ∷ c ∷ []) q ≡ on (row_from [] partition_front) s p → tab l' r ≡ store (tab l k) (a ∷ b ∷ c ∷ count ∷ synced ∷ []) → RowStored s p l k count synced l' r
    row_in a b c q h i = record { law = λ a' b' c' q' e. i ∙ ap (λ (cs : List ℕ). store (tab l k) (cs ++ (count ∷ synced ∷ []))) (same_value (h ∙ sym e)) }

    -- there is no such row
    pub row_none : (c : Refusal) → bad c ≡ on (row_from [] partition_front) s p → RowStored s p l k count synced l' r
    row_none d h = record { law = λ a b c q e. not_ok (h ∙ sym e) }

-- behind the numbers: replicas, and in-sync replicas
abbrev arrays : Shape
arrays = array (fixed w32 kept) 4 node_shape (array (fixed w32 kept) 5 node_shape end)

-- the partitions' table and that of replicas, and the one of in-sync replicas
place_one : Before → Marks → List ℕ → Places
unfolding add
place_one e m is = record { h = λ x y. e.row ∷ e.brokers ∷ tab e.topics m.topics ∷ x ∷ y ∷ tab is m.synced ∷ []; o = 3; t = 4; row_law = λ x y cs. refl; items_law = λ x y cs. refl }

place_two : Before → Marks → List ℕ → ℕ → Places
unfolding add
place_two e m rs k = record { h = λ x y. e.row ∷ e.brokers ∷ tab e.topics m.topics ∷ x ∷ tab rs k ∷ y ∷ []; o = 3; t = 5; row_law = λ x y cs. refl; items_law = λ x y cs. refl }

module _ (s : List ℕ) (p : ℕ) (ps rs is : List ℕ) (m : Marks) where
  pub partition_no : (c : Refusal) → bad c ≡ on (row_from [] partition_front) s p → Runs (λ e. walk false partition_shape 3) s p (in_partitions ps rs is m) (λ e. bad c)
  unfolding partition_shape partition_front
  partition_no c h = record { law = λ e. row_no partition_front tt s p arrays 3 (in_partitions ps rs is m e) c h }

  module _ (a b c q : ℕ) (h : ok (a ∷ b ∷ c ∷ []) q ≡ on (row_from [] partition_front) s p) where
    -- the partitions' table once the numbers are stored
    abbrev numbered : Tab
    numbered = store (tab ps m.partitions) (a ∷ b ∷ c ∷ [])

    from_numbers : (e : Before) (z : Res State) → z ≡ on (walk false arrays 3 (e.row ∷ e.brokers ∷ tab e.topics m.topics ∷ numbered ∷ tab rs m.replicas ∷ tab is m.synced ∷ [])) s q → z ≡ on (walk false partition_shape 3 (in_partitions ps rs is m e)) s p
    unfolding partition_shape partition_front add
    from_numbers e z g = row_took partition_front tt s p arrays 3 (in_partitions ps rs is m e) (a ∷ b ∷ c ∷ []) q h z g

    pub replicas_no : (d : Refusal) → Runs (λ e. walk false (nodes_shape e.0.t) e.0.o) s q (beside rs m.replicas) (λ e. bad d) → Runs (λ e. walk false partition_shape 3) s p (in_partitions ps rs is m) (λ e. bad d)
    unfolding place_one nodes_shape
    replicas_no d l = record { law = λ e. from_numbers e _ (joined_no false (nodes_shape 5) 3 (nodes_shape 4) _ s q d (l.law (place_one e m is, numbered))) }

    module _ (rs' : List ℕ) (x : Counted) (l : Runs (λ e. walk false (nodes_shape e.0.t) e.0.o) s q (beside rs m.replicas) (beside_is rs' (Ok x))) where
      abbrev with_replicas : Tab
      with_replicas = store numbered (x.count ∷ [])

      from_replicas : (e : Before) (z : Res State) → z ≡ on (walk false (nodes_shape 5) 3 (e.row ∷ e.brokers ∷ tab e.topics m.topics ∷ with_replicas ∷ tab rs' x.mark ∷ tab is m.synced ∷ [])) s x.next → z ≡ on (walk false partition_shape 3 (in_partitions ps rs is m e)) s p
      unfolding place_one nodes_shape
      from_replicas e z j = from_numbers e z (joined_took false (nodes_shape 5) 3 (nodes_shape 4) _ s q _ x.next (l.law (place_one e m is, numbered)) z j)

      pub synced_no : (d : Refusal) → Runs (λ e. walk false (nodes_shape e.0.t) e.0.o) s x.next (beside is m.synced) (λ e. bad d) → Runs (λ e. walk false partition_shape 3) s p (in_partitions ps rs is m) (λ e. bad d)
      unfolding place_two
      synced_no d l₂ = record { law = λ e. from_replicas e _ (l₂.law (place_two e m rs' x.mark, with_replicas)) }

      pub partition_took : (is' : List ℕ) (y : Counted) → Runs (λ e. walk false (nodes_shape e.0.t) e.0.o) s x.next (beside is m.synced) (beside_is is' (Ok y)) → (ps' : List ℕ) (i : ℕ) → tab ps' i ≡ store (tab ps m.partitions) (a ∷ b ∷ c ∷ x.count ∷ y.count ∷ []) →
          Runs (λ e. walk false partition_shape 3) s p (in_partitions ps rs is m) (partitions_is ps' rs' is' (taken (record { topics = m.topics; partitions = i; replicas = x.mark; synced = y.mark }) y.next))
      unfolding place_two
      partition_took is' y l₂ ps' i w = record {
        law = λ e.
            (λ t. ok (e.row ∷ e.brokers ∷ tab e.topics m.topics ∷ (w ∙ sym both) t ∷ tab rs' x.mark ∷ tab is' y.mark ∷ []) y.next)
            ∙ from_replicas e _ (l₂.law (place_two e m rs' x.mark, with_replicas));
      }
        where
          both : store with_replicas (y.count ∷ []) ≡ store (tab ps m.partitions) (a ∷ b ∷ c ∷ x.count ∷ y.count ∷ [])
          both = store_append numbered (x.count ∷ []) (y.count ∷ []) ∙ store_append (tab ps m.partitions) (a ∷ b ∷ c ∷ []) (x.count ∷ y.count ∷ [])
