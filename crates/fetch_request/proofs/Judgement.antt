-- What is refused of a request: 13 of its tables, 11 of the numbers of its own row, and 11 and 7 of a topic, the first row of `topics` with the first rows of `partitions`; and each way out of the judgement of a whole request.
use mathlib.Core.Bool.{Bool, ◌&&◌, and-true, cond, false, true}
use mathlib.Core.List.{List, [], ◌∷◌}
use mathlib.Core.Logic.{◌≢◌}
use mathlib.Core.Path.{◌∙◌, ◌≡◌, ap, ap₂, refl, sym}
use Prim.Native.Nat.{◌*◌, ◌+◌, ◌/◌, ◌<◌, ◌^◌, ◌≤◌, ℕ}
use native.Mathlib.Nat.{add-zero}
use native.Mathlib.Omega.{arith}
use lib.Dec.{eqb, leb, lit<, ltb}
use lib.ListN.{get_or, length, take}
use lib.Seq.{get_or-drop}
use Rattle.layout.specs.Primitives.{empty, fixed, holds, w32, w64}
use Rattle.layout.specs.Rows.{stands}
use Rattle.layout.specs.Tables.{all, arrays, asked, basic_of, chosen, count, good, good_cells, good_count, good_row, good_span, kind_in, kind_of, pop, row_width, rows_of, slice, sum, value_of, width}
use Rattle.layout.specs.Write.{basic_fault, fault, or, too_long, unless}
use Rattle.body_writing.specs.Writes.{fault_at, items_fault, refusal_of, row_fault, rows_fault, takes}
use Rattle.body_writing.specs.Asked.{all_ranged, ranged, string_fault, tells, told, told_good}
use Rattle.fetch_request.specs.declared.Own.{Own}
use Rattle.std.specs.Prelude.{is_some, unwrap_or}
use Rattle.fetch_request.specs.Shapes.{own_row, partition_shape, request_shape, topic_shape, topics_shape}
use Rattle.layout.proofs.Proper.{both}
use Rattle.layout.proofs.Tests.{le-true, lt-true, of_eq, of_ge}
use Rattle.body_writing.proofs.Faults.{none_is, or_both, rows_clean, rows_only}
use Rattle.body_writing.proofs.Nested.{row_fault_lem, sum_cells}
use Rattle.body_writing.proofs.Writes.{any_fault, refusal_bad, refusal_good, refusal_none}
use Rattle.body_writing.proofs.Lent.{all_true, good_two, rows_agree, rows_differ, string_fault_lem}
use Rattle.layout.proofs.Chunks.{row_cell}
use Rattle.body_writing.proofs.Judged.{Judged, always, judged_end, odd_last}
use Rattle.body_writing.proofs.Counts.{Cells}
use Rattle.body_writing.proofs.Turns.{or_first, or_second}
use Rattle.body_writing.proofs.Even.{numbers_fault, string_shape}
use Rattle.fetch_request.proofs.Walk.{named, three}

-- ---- 13: there is no null here

module _ (size c : ℕ) (topics partitions : List ℕ) where
  abbrev telling : Bool
  telling = tells false 2 (length partitions / 3) (rows_of 3 topics)

  abbrev asks : Bool
  asks = good_count false c && (eqb (count c) (length topics / 3) && (telling && all_ranged 3 0 size topics))

  -- whatever numbers stand in front of the count
  pub is_good : (x y z k m k' m' : ℕ) → good size 2 (request_shape false false) ((x ∷ y ∷ z ∷ k ∷ m ∷ k' ∷ m' ∷ c ∷ []) ∷ topics ∷ partitions ∷ []) ≡ asks
  unfolding kind_of kind_in arrays row_width width good_row good_cells good_span asked ranged stands told told_good
  is_good x y z k m k' m' =
      good_two size (request_shape false false) topic_shape partition_shape 3 3 0 2 (count c) false (good_count false c) true (x ∷ y ∷ z ∷ k ∷ m ∷ k' ∷ m' ∷ c ∷ []) topics partitions refl refl refl refl (rw (always (eqb k 0), always (eqb k' 0)) (and-true (good_count false c))) (add-zero (count c)) refl
      (λ r. ap (λ (b : Bool). ranged 0 size r && b) (and-true _ ∙ ap (good_count false) (get_or-drop 2 r 0 0))) (λ r. add-zero _ ∙ ap count (get_or-drop 2 r 0 0)) (λ r. refl) (all_true (rows_of 3 partitions)) (λ r. refl) (λ r. refl)
      ∙ ap (λ (b : Bool). good_count false c && (eqb (count c) (length topics / 3) && (telling && b))) (and-true (all_ranged 3 0 size topics))

  abbrev pub judged : Bool
  judged = good size 2 (request_shape false false) ((0 ∷ 0 ∷ 0 ∷ 0 ∷ 0 ∷ 0 ∷ 0 ∷ c ∷ []) ∷ topics ∷ partitions ∷ [])

  pub good_other : c ≢ length topics / 3 → false ≡ judged
  good_other h = rows_differ c (length topics / 3) (telling && all_ranged 3 0 size topics) h ∙ sym (is_good 0 0 0 0 0 0 0)

  module _ (h : c ≡ length topics / 3) (s : length topics < 2 ^ 64) (b : Bool) (i : b ≡ telling) where
    left : (t : Bool) → t ≡ (b && all_ranged 3 0 size topics) → t ≡ judged
    left t j = j ∙ ap (λ (y : Bool). y && all_ranged 3 0 size topics) i ∙ sym (is_good 0 0 0 0 0 0 0 ∙ rows_agree c (length topics / 3) (telling && all_ranged 3 0 size topics) h (omega arith))

    pub good_untold : b ≡ false → false ≡ judged
    good_untold f = left false (sym (rw f))

    pub good_last : b ≡ true → (t : Bool) → t ≡ all_ranged 3 0 size topics → t ≡ judged
    good_last f t j = left t (j ∙ sym (rw f))

  module _ (g : judged ≡ true) where
    counted : (eqb (count c) (length topics / 3) ≡ true) × (eqb (sum (told 2) (rows_of 3 topics)) (length partitions / 3) ≡ true)
    unfolding tells
    counted =
        let x = both (eqb (count c) (length topics / 3)) _ (both (good_count false c) _ (sym (is_good 0 0 0 0 0 0 0) ∙ g)).1 in
        (x.0, (both (all (told_good false 2) (rows_of 3 topics)) _ (both telling _ x.1).0).1)

    pub good_topics : count c ≡ length topics / 3
    good_topics = of_eq (count c) (length topics / 3) counted.0

    -- there are as many partitions as the topics take
    pub good_enough : sum (takes 3 2) (rows_of 3 topics) ≤ length partitions
    unfolding takes told
    good_enough = omega (arith, sum_cells (told 2) 3 (rows_of 3 topics), of_eq (sum (told 2) (rows_of 3 topics)) (length partitions / 3) counted.1)

-- ---- the first fault in field order

module _ (lent : List ℕ) (replica wait least k m k' m' c : ℕ) (topics partitions : List ℕ) where
  abbrev largest : ℕ
  largest = get_or (chosen (2147483647 ∷ []) (k ∷ m ∷ [])) 0 0

  abbrev level : ℕ
  level = get_or (chosen (0 ∷ []) (k' ∷ m' ∷ [])) 0 0

  abbrev topics_fault : ℕ
  topics_fault = items_fault lent topic_shape (count c) 1 ([] ∷ topics ∷ partitions ∷ [])

  behind : fault_at lent topics_shape 0 ((c ∷ []) ∷ topics ∷ partitions ∷ []) ≡ topics_fault
  unfolding too_long or
  behind = any_fault lent (fixed w32 empty) topic_shape 0 1 ((c ∷ []) ∷ topics ∷ partitions ∷ [])

  abbrev lead_holds : Bool
  lead_holds = holds w32 replica && (holds w32 wait && holds w32 least)

  lead_part : (x : ℕ) → or (unless (holds w32 replica) 11) (or (unless (holds w32 wait) 11) (or (unless (holds w32 least) 11) x)) ≡ or (unless lead_holds 11) x
  lead_part x = ap (or (unless (holds w32 replica) 11)) (or_both (holds w32 wait) (holds w32 least) 10 x) ∙ or_both (holds w32 replica) (holds w32 wait && holds w32 least) 10 x

  abbrev limits_hold : Bool → Bool → Bool
  limits_hold b i = cond b (holds w32 largest) true && cond i (leb level 1) true

  pub is_fault : (b i : Bool) → fault_at lent (request_shape b i) 0 ((replica ∷ wait ∷ least ∷ k ∷ m ∷ k' ∷ m' ∷ c ∷ []) ∷ topics ∷ partitions ∷ []) ≡ or (unless lead_holds 11) (or (unless (limits_hold b i) 11) topics_fault)
  unfolding fault_at fault basic_fault value_of pop width basic_of stands unless or
  is_fault true true = lead_part _ ∙ ap (or (unless lead_holds 11)) (or_both (holds w32 largest) (leb level 1) 10 _ ∙ ap (or (unless (limits_hold true true) 11)) behind)
  is_fault true false = lead_part _ ∙ ap (or (unless lead_holds 11)) (ap₂ or (ap (λ (b : Bool). unless b 11) (sym (and-true (holds w32 largest)))) behind)
  is_fault false true = lead_part _ ∙ ap (or (unless lead_holds 11)) (ap (or (unless (limits_hold false true) 11)) behind)
  is_fault false false = lead_part _ ∙ ap (or (unless lead_holds 11)) behind

-- ---- each way out

module _ (lent : List ℕ) (c : ℕ) (topics partitions : List ℕ) (own : Own) where
  abbrev refusal : ℕ
  refusal = refusal_of lent 2 (request_shape false false) (request_shape (is_some own.largest) (is_some own.level)) (own_row own c ∷ topics ∷ partitions ∷ [])

  same_good : good (length lent) 2 (request_shape false false) (own_row own c ∷ topics ∷ partitions ∷ []) ≡ judged (length lent) c topics partitions
  same_good = is_good (length lent) c topics partitions own.replica own.wait own.least 2 (unwrap_or own.largest 0) 2 (unwrap_or own.level 0) ∙ sym (is_good (length lent) c topics partitions 0 0 0 0 0 0 0)

  -- no number is given: the tables are good
  pub fault_good : {e : ℕ} → e ≡ refusal → e ≡ 0 → judged (length lent) c topics partitions ≡ true
  fault_good i h = sym same_good ∙ refusal_none lent 2 (request_shape false false) (request_shape (is_some own.largest) (is_some own.level)) (own_row own c ∷ topics ∷ partitions ∷ []) i h

  module _ (g : Bool) (e : g ≡ judged (length lent) c topics partitions) where
    pub fault_bad : g ≡ false → 13 ≡ refusal
    fault_bad = refusal_bad lent 2 (request_shape false false) (request_shape (is_some own.largest) (is_some own.level)) (own_row own c ∷ topics ∷ partitions ∷ []) (e ∙ sym same_good)

    module _ (h : g ≡ true) (x : Bool) (j : x ≡ (holds w32 own.replica && (holds w32 own.wait && holds w32 own.least))) where
      rows : count c ≡ length topics / 3
      rows = good_topics (length lent) c topics partitions (sym e ∙ h)

      judge : (y : Bool) → y ≡ (cond (is_some own.largest) (holds w32 (unwrap_or own.largest 0)) true && cond (is_some own.level) (leb (unwrap_or own.level 0) 1) true) → (r : ℕ) →
          r ≡ or (unless x 11) (or (unless y 11) (items_fault lent topic_shape (length topics / 3) 1 ([] ∷ topics ∷ partitions ∷ []))) → r ≡ refusal
      unfolding chosen
      judge y l r f =
          refusal_good lent 2 (request_shape false false) (request_shape (is_some own.largest) (is_some own.level)) (own_row own c ∷ topics ∷ partitions ∷ []) (e ∙ sym same_good) h r
          (f
          ∙ (λ t. or (unless (j t) 11) (or (unless (l t) 11) (items_fault lent topic_shape (sym rows t) 1 ([] ∷ topics ∷ partitions ∷ []))))
          ∙ sym (is_fault lent own.replica own.wait own.least 2 (unwrap_or own.largest 0) 2 (unwrap_or own.level 0) c topics partitions (is_some own.largest) (is_some own.level)))

      pub fault_lead : x ≡ false → 11 ≡ refusal
      unfolding unless or
      fault_lead k = judge _ refl 11 (sym (rw k))

      module _ (k : x ≡ true) (y : Bool) (l : y ≡ (cond (is_some own.largest) (holds w32 (unwrap_or own.largest 0)) true && cond (is_some own.level) (leb (unwrap_or own.level 0) 1) true)) where
        pub fault_limits : y ≡ false → 11 ≡ refusal
        unfolding unless or
        fault_limits m = judge y l 11 (sym (rw (k, m)))

        pub fault_topics : y ≡ true → (r : ℕ) → r ≡ items_fault lent topic_shape (length topics / 3) 1 ([] ∷ topics ∷ partitions ∷ []) → r ≡ refusal
        unfolding unless or
        fault_topics m r o = judge y l r (o ∙ sym (rw (k, m)))

-- ---- a partition's numbers

-- every cell holds a number of 64 bits
pub wide_holds : (n : ℕ) → n < 2 ^ 64 → holds w64 n ≡ true
unfolding holds
wide_holds n h = go (ltb n (2 ^ 63)) refl
  where
    go : (b : Bool) → ltb n (2 ^ 63) ≡ b → holds w64 n ≡ true
    go true e = rw e
    go false e = rw (e, le-true (2 ^ 63) n (of_ge n (2 ^ 63) e), lt-true n (2 ^ 64) h)

abbrev pub clean : List ℕ → Bool
clean r = eqb (row_fault [] partition_shape r) 0

-- a row is judged by its first and its third cell
pub row_told : (r : List ℕ) → get_or r 1 0 < 2 ^ 64 → (b : Bool) → b ≡ (holds w32 (get_or r 0 0) && holds w32 (get_or r 2 0)) → b ≡ clean r
row_told r h b e = e ∙ sym (ap (λ (n : ℕ). eqb n 0) (numbers_fault [] w32 w64 w32 r) ∙ none_is _ 10 ∙ rw (wide_holds (get_or r 1 0) h) refl)

module _ (partitions : List ℕ) (cells : Cells partitions) where
  -- as the table has them
  module _ (i : ℕ) (h : i < length partitions / 3) where
    abbrev row : List ℕ
    row = get_or (rows_of 3 partitions) i []

    partition_told : (b : Bool) → b ≡ (holds w32 (get_or partitions (i * 3) 0) && holds w32 (get_or partitions (i * 3 + 2) 0)) → b ≡ clean row
    partition_told b e =
        row_told row (omega (arith, row_cell 3 partitions i h 1 (lit< tt), cells (i * 3 + 1))) b
        (e ∙ sym (λ t. holds w32 ((row_cell 3 partitions i h 0 (lit< tt) ∙ ap (λ (k : ℕ). get_or partitions k 0) (add-zero (i * 3))) t) && holds w32 (row_cell 3 partitions i h 2 (lit< tt) t)))

    -- what is small fits
    small_held : (n : ℕ) → ltb n 2147483648 ≡ true → holds w32 n ≡ true
    unfolding holds
    small_held n e = rw e

    pub small_told : (b : Bool) → b ≡ (ltb (get_or partitions (i * 3) 0) 2147483648 && ltb (get_or partitions (i * 3 + 2) 0) 2147483648) → b ≡ (b && clean row)
    small_told false e = refl
    small_told true e =
        let x : (ltb (get_or partitions (i * 3) 0) 2147483648 ≡ true) × (ltb (get_or partitions (i * 3 + 2) 0) 2147483648 ≡ true) = both _ _ (sym e) in
        partition_told true (sym (ap₂ (λ (a b : Bool). a && b) (small_held _ x.0) (small_held _ x.1)))

-- ---- all rows

-- a test that says no more than that x holds
pub sure : {a x : Bool} → a ≡ (a && x) → a ≡ true → a ≡ x
sure {a} {x} e h = e ∙ ap (λ (t : Bool). t && x) h

-- the rows of all turns have no fault
module _ {partitions : List ℕ} (t : ℕ) (i : t ≡ length partitions / 3 / 2) (g : Judged clean 3 partitions (t * 2)) where
  abbrev last : ℕ
  last = length partitions / 3 / 2 * 2

  settled : Judged clean 3 partitions last
  settled = rw i at g

  pub small_last : (a : Bool) → a ≡ (a && clean (get_or (rows_of 3 partitions) last [])) → last < length partitions / 3 → a ≡ (a && eqb (rows_fault [] partition_shape 3 partitions) 0)
  small_last false e h = refl
  small_last true e h = odd_last {t = length partitions / 3 / 2} settled e (omega arith) h ∙ rows_clean [] partition_shape 3 partitions

  pub small_end : length partitions / 3 ≤ last → true ≡ eqb (rows_fault [] partition_shape 3 partitions) 0
  small_end h = judged_end clean 3 partitions last settled h ∙ rows_clean [] partition_shape 3 partitions

-- no lent byte is looked at
lent_none : (lent table : List ℕ) → rows_fault lent partition_shape 3 table ≡ rows_fault [] partition_shape 3 table
unfolding rows_fault row_fault fault_at fault basic_fault value_of pop width basic_of
lent_none lent table = refl

-- the cells of partitions that it takes
pub cells_are : (topics : List ℕ) {k : ℕ} → k ≡ count (get_or topics 2 0) → k * 3 ≡ takes 3 2 topics
unfolding takes
cells_are topics e = ap (λ (k : ℕ). k * 3) e

module _ (lent topics partitions : List ℕ) (enough : takes 3 2 topics ≤ length partitions) where
  abbrev topic_fault : ℕ
  topic_fault = fault_at lent topic_shape 1 ([] ∷ topics ∷ partitions ∷ [])

  abbrev taken : ℕ → ℕ
  taken k = rows_fault [] partition_shape 3 (take k partitions)

  pub in_parts : topic_fault ≡ or (string_fault (slice lent (get_or topics 0 0, get_or topics 1 0))) (taken (takes 3 2 topics))
  unfolding too_long or
  in_parts =
      row_fault_lem lent (fixed w32 empty) partition_shape tt 3 three string_shape tt 2 named topics partitions (lit< tt) enough
      ∙ ap₂ or (string_fault_lem lent topics) (lent_none lent (take (takes 3 2 topics) partitions))

  -- as code judges it
  module _ (x : List ℕ) (d : x ≡ slice lent (get_or topics 0 0, get_or topics 1 0)) (e : ℕ) (f : e ≡ string_fault x) where
    text_told : e ≡ string_fault (slice lent (get_or topics 0 0, get_or topics 1 0))
    text_told = f ∙ ap string_fault d

    pub topic_name : e ≢ 0 → e ≡ topic_fault
    topic_name h = or_first (string_fault (slice lent (get_or topics 0 0, get_or topics 1 0))) _ e text_told h ∙ sym in_parts

    module _ (h : e ≡ 0) (k : ℕ) (q : k ≡ takes 3 2 topics) (b : Bool) (i : b ≡ eqb (taken k) 0) where
      pub topic_partitions : unless b 11 ≡ topic_fault
      topic_partitions =
          ap (λ (t : Bool). unless t 11) i
          ∙ sym (rows_only [] partition_shape 3 (take k partitions) _ 10 (numbers_fault [] w32 w64 w32))
          ∙ ap taken q
          ∙ or_second (string_fault (slice lent (get_or topics 0 0, get_or topics 1 0))) _ e text_told h
          ∙ sym in_parts
