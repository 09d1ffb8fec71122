-- The walk over a request finds the field that the definition blames: in a partition, in a topic, in the body row, and in all of it.
use mathlib.Core.Bool.{Bool, false, true}
use mathlib.Core.List.{List, [], ◌++◌, ◌∷◌}
use mathlib.Core.Logic.{◌≢◌}
use mathlib.Core.Path.{◌∙◌, ◌≡◌, ap, ap₂, refl, subst, sym}
use Prim.Native.Nat.{◌*◌, ◌+◌, ◌-◌, ◌/◌, ◌<◌, ◌^◌, ◌≤◌, ℕ}
use native.Mathlib.Nat.{add-zero}
use native.Mathlib.Omega.{arith}
use lib.Dec.{eqb, lit<}
use lib.ListN.{drop, get_or, length, take}
use Rattle.layout.specs.Names.{Sought, begun, blame, else, past, there}
use Rattle.layout.specs.Primitives.{empty, fixed, never, w16, w32, w64}
use Rattle.layout.specs.Reading.{nowhere}
use Rattle.layout.specs.Rows.{Shape, end, field, level, number, optional, stands, text}
use Rattle.layout.specs.Tables.{Tables, basic_of, chosen, count, pop, rows_of, slice, sum, value_of, width}
use Rattle.layout.specs.Write.{basic_fault, too_long, unless}
use Rattle.layout.proofs.Chunks.{row_cell}
use Rattle.layout.proofs.Tests.{by_test, le-false, le-true, of-ne, of_eq}
use Rattle.primitives_put.specs.Answers.{within}
use Rattle.primitives_put.proofs.Carried.{is_held}
use Rattle.body_reading.proofs.Front.{Flat}
use Rattle.body_writing.specs.Asked.{string_fault}
use Rattle.body_writing.specs.Blames.{Blamed, blame_at, items_blame, of_blamed, row_blame, rows_blame}
use Rattle.body_writing.specs.Writes.{row_fault, takes}
use Rattle.std.specs.Prelude.{Err, Ok}
use Rattle.names.specs.declared.Found.{Found}
use Rattle.body_writing.proofs.Blaming.{absent_blame, any_counts, array_blame, else_past, else_same, field_here, field_next, fields_of, joined_blame, number_here, number_next, only_here, only_past}
use Rattle.body_writing.proofs.BlamingRows.{Searching, row_blame_lem, searching_enough, searching_found, searching_more, searching_start}
use Rattle.body_writing.proofs.Counts.{Cells, few_told}
use Rattle.body_writing.proofs.Even.{string_shape}
use Rattle.body_writing.proofs.Lent.{string_fault_lem}
use Rattle.fetch_request.specs.Shapes.{lead_shape, level_shape, limits_shape, partition_shape, request_shape, topic_shape, topics_shape}
use Rattle.fetch_request.proofs.Judgement.{wide_holds}
use Rattle.fetch_request.proofs.Topics.{long, next, same_slice, same_takes}
use Rattle.fetch_request.proofs.Walk.{topic_nest}

-- ---- a partition

-- as code finds a number's fault
abbrev pub fault_of : ℕ → ℕ
fault_of n = unless (within 2147483648 n) 11

module _ (e : ℕ) (some : e ≢ 0) (table : List ℕ) (cells : Cells table) (i : ℕ) (h : i < length table / 3) (row : ℕ) where
  abbrev cs : List ℕ
  cs = get_or (rows_of 3 table) i []

  -- cell j of the row
  in_row : (j : ℕ) → j < 3 → (n : ℕ) → n ≡ fault_of (get_or table (i * 3 + j) 0) → n ≡ fault_of (get_or cs j 0)
  in_row j l n q = q ∙ ap fault_of (sym (row_cell 3 table i h j l))

  module _ (n : ℕ) (q : n ≡ fault_of (get_or table (i * 3) 0)) where
    first : n ≡ fault_of (get_or cs 0 0)
    first = in_row 0 (lit< tt) n (q ∙ ap (λ (k : ℕ). fault_of (get_or table k 0)) (sym (add-zero (i * 3))))

    pub in_index : n ≡ e → there row 0 ≡ row_blame [] e partition_shape row 0 [] cs
    in_index g = number_here [] e row 0 [] cs 0 w32 _ n first g

    module _ (g : n ≢ e) (m : ℕ) (p : m ≡ fault_of (get_or table (i * 3 + 2) 0)) where
      -- every cell holds a number of 64 bits
      offset_fault : 0 ≡ unless (within 9223372036854775808 (get_or cs 1 0)) 11
      unfolding unless
      offset_fault = sym (ap (λ (b : Bool). unless b 11) (is_held w64 (get_or cs 1 0) ∙ wide_holds (get_or cs 1 0) (omega (arith, row_cell 3 table i h 1 (lit< tt), cells (i * 3 + 1)))))

      to_last : row_blame [] e partition_shape row 0 [] cs ≡ row_blame [] e (field (number w32) end) row 2 [] (drop 2 cs)
      to_last = number_next [] e row 0 [] cs 0 w32 _ n first g ∙ number_next [] e row 1 [] cs 1 w64 _ 0 offset_fault (λ d. some (sym d))

      pub in_size : m ≡ e → there row 2 ≡ row_blame [] e partition_shape row 0 [] cs
      in_size k = number_here [] e row 2 [] cs 2 w32 end m (in_row 2 (lit< tt) m p) k ∙ sym to_last

      pub in_none : m ≢ e → past [] ≡ row_blame [] e partition_shape row 0 [] cs
      unfolding row_blame blame_at blame
      in_none k = sym (to_last ∙ number_next [] e row 2 [] cs 2 w32 end m (in_row 2 (lit< tt) m p) k)

-- ---- a topic: its name, and then its partitions

-- no lent byte is looked at
lent_none : (lent : List ℕ) (e : ℕ) (table c : List ℕ) → rows_blame lent e partition_shape 3 2 table c ≡ rows_blame [] e partition_shape 3 2 table c
unfolding rows_blame row_blame blame_at blame basic_fault value_of pop width basic_of
lent_none lent e table c = refl

module _ (lent : List ℕ) (e : ℕ) (some : e ≢ 0) (topics partitions : List ℕ) (enough : takes 3 2 topics ≤ length partitions) (row : ℕ) (c : List ℕ) where
  in_parts : blame_at lent e topic_shape 1 ([] ∷ topics ∷ partitions ∷ []) row 0 c ≡ else (row_blame lent e string_shape row 0 c topics) (λ k. rows_blame lent e partition_shape 3 2 (take (takes 3 2 topics) partitions) k)
  unfolding too_long
  in_parts = row_blame_lem topic_nest lent e topics partitions (lit< tt) enough (λ k. some (sym k)) row c

module _ (lent : List ℕ) (e : ℕ) (some : e ≢ 0) (topics partitions : List ℕ) (enough : takes 3 2 topics ≤ length partitions) (row : ℕ) (c : List ℕ)
    (x : List ℕ) (d : x ≡ slice lent (get_or topics 0 0, get_or topics 1 0)) (n : ℕ) (f : n ≡ string_fault x) where
  name_fault_lem : n ≡ row_fault lent string_shape topics
  name_fault_lem = f ∙ ap string_fault d ∙ sym (string_fault_lem lent topics)

  pub in_name : n ≡ e → there row 0 ≡ blame_at lent e topic_shape 1 ([] ∷ topics ∷ partitions ∷ []) row 0 c
  in_name g = ap (λ (s : Sought). else s (λ k. rows_blame lent e partition_shape 3 2 (take (takes 3 2 topics) partitions) k)) (only_here lent e (text (fixed w16 never)) row 0 c topics n name_fault_lem g) ∙ sym (in_parts lent e some topics partitions enough row c)

  pub in_partitions_lem : n ≢ e → (k : ℕ) → k ≡ takes 3 2 topics → (s : Sought) → s ≡ rows_blame [] e partition_shape 3 2 (take k partitions) c → s ≡ blame_at lent e topic_shape 1 ([] ∷ topics ∷ partitions ∷ []) row 0 c
  in_partitions_lem g k q s w =
      w
      ∙ ap (λ (j : ℕ). rows_blame [] e partition_shape 3 2 (take j partitions) c) q
      ∙ sym (lent_none lent e (take (takes 3 2 topics) partitions) c)
      ∙ ap (λ (s : Sought). else s (λ k. rows_blame lent e partition_shape 3 2 (take (takes 3 2 topics) partitions) k)) (only_past lent e (text (fixed w16 never)) row 0 c topics n name_fault_lem g)
      ∙ sym (in_parts lent e some topics partitions enough row c)

-- ---- the body row

module _ (l : ℕ) where
  pub level_low : l ≤ 1 → 0 ≡ basic_fault level l
  unfolding basic_fault unless
  level_low h = sym (rw (le-true l 1 h))

  pub level_high : 1 < l → 11 ≡ basic_fault level l
  unfolding basic_fault unless
  level_high h = sym (rw (le-false l 1 h))

module _ (e f : ℕ) (i : Bool) (l : ℕ) where
  pub no_level : i ≡ false → past [] ≡ row_blame [] e (level_shape i end) nowhere f [] (2 ∷ l ∷ [])
  unfolding stands row_blame blame_at blame
  no_level h = sym (rw h)

  module _ (h : i ≡ true) (n : ℕ) (q : n ≡ basic_fault level l) where
    pub in_level : n ≡ e → there nowhere f ≡ row_blame [] e (level_shape i end) nowhere f [] (2 ∷ l ∷ [])
    unfolding stands row_blame basic_fault basic_of chosen width
    in_level g = rw h (field_here [] e nowhere f [] 0 ((2 ∷ l ∷ []) ∷ []) (optional (0 ∷ []) level) end n q g)

    pub past_level : n ≢ e → past [] ≡ row_blame [] e (level_shape i end) nowhere f [] (2 ∷ l ∷ [])
    unfolding stands row_blame blame_at blame basic_fault basic_of chosen width
    past_level g = rw h (sym (field_next [] e nowhere f [] 0 ((2 ∷ l ∷ []) ∷ []) (optional (0 ∷ []) level) end n q g))

module _ (e : ℕ) (b i : Bool) (m l : ℕ) where
  abbrev limits : Sought
  limits = row_blame [] e (limits_shape b i end) nowhere 3 [] (2 ∷ m ∷ 2 ∷ l ∷ [])

  pub no_largest : b ≡ false → (s : Sought) → s ≡ row_blame [] e (level_shape i end) nowhere 3 [] (2 ∷ l ∷ []) → s ≡ limits
  unfolding stands row_blame width
  no_largest h s w = rw h (w ∙ sym (absent_blame [] e nowhere 3 [] 0 ((2 ∷ m ∷ 2 ∷ l ∷ []) ∷ []) (optional (2147483647 ∷ []) (number w32)) (level_shape i end)))

  module _ (h : b ≡ true) (n : ℕ) (q : n ≡ fault_of m) where
    largest_fault : n ≡ basic_fault (number w32) m
    unfolding basic_fault
    largest_fault = q ∙ ap (λ (t : Bool). unless t 11) (is_held w32 m)

    pub in_largest : n ≡ e → there nowhere 3 ≡ limits
    unfolding stands row_blame basic_fault basic_of chosen width
    in_largest g = rw h (field_here [] e nowhere 3 [] 0 ((2 ∷ m ∷ 2 ∷ l ∷ []) ∷ []) (optional (2147483647 ∷ []) (number w32)) _ n largest_fault g)

    pub past_largest : n ≢ e → (s : Sought) → s ≡ row_blame [] e (level_shape i end) nowhere 4 [] (2 ∷ l ∷ []) → s ≡ limits
    unfolding stands row_blame basic_fault basic_of chosen width
    past_largest g s w = rw h (w ∙ sym (field_next [] e nowhere 3 [] 0 ((2 ∷ m ∷ 2 ∷ l ∷ []) ∷ []) (optional (2147483647 ∷ []) (number w32)) _ n largest_fault g))

-- the numbers before the topics
abbrev front : Bool → Bool → Shape
front b i = lead_shape (limits_shape b i end)

abbrev front_cells : ℕ → ℕ → ℕ → ℕ → ℕ → List ℕ
front_cells replica wait least m l = replica ∷ wait ∷ least ∷ 2 ∷ m ∷ 2 ∷ l ∷ []

module _ (e : ℕ) (b i : Bool) (replica wait least m l : ℕ) where
  abbrev cells : List ℕ
  cells = front_cells replica wait least m l

  abbrev numbers : Sought
  numbers = row_blame [] e (front b i) nowhere 0 [] cells

  module _ (x : ℕ) (p : x ≡ fault_of replica) where
    pub in_replica : x ≡ e → there nowhere 0 ≡ numbers
    in_replica g = number_here [] e nowhere 0 [] cells 0 w32 _ x p g

    module _ (g : x ≢ e) (y : ℕ) (q : y ≡ fault_of wait) where
      after_replica : numbers ≡ row_blame [] e (field (number w32) (field (number w32) (limits_shape b i end))) nowhere 1 [] (drop 1 cells)
      after_replica = number_next [] e nowhere 0 [] cells 0 w32 _ x p g

      pub in_wait : y ≡ e → there nowhere 1 ≡ numbers
      in_wait h = number_here [] e nowhere 1 [] cells 1 w32 _ y q h ∙ sym after_replica

      module _ (h : y ≢ e) (z : ℕ) (r : z ≡ fault_of least) where
        after_wait : numbers ≡ row_blame [] e (field (number w32) (limits_shape b i end)) nowhere 2 [] (drop 2 cells)
        after_wait = after_replica ∙ number_next [] e nowhere 1 [] cells 1 w32 _ y q h

        pub in_least : z ≡ e → there nowhere 2 ≡ numbers
        in_least k = number_here [] e nowhere 2 [] cells 2 w32 _ z r k ∙ sym after_wait

        pub past_least : z ≢ e → (s : Sought) → s ≡ row_blame [] e (limits_shape b i end) nowhere 3 [] (2 ∷ m ∷ 2 ∷ l ∷ []) → s ≡ numbers
        past_least k s w = w ∙ sym (after_wait ∙ number_next [] e nowhere 2 [] cells 2 w32 _ z r k)

-- ---- all of it: the numbers before the topics, and then these

abbrev tables : ℕ → ℕ → ℕ → ℕ → ℕ → ℕ → List ℕ → List ℕ → Tables
tables replica wait least m l n topics partitions = (replica ∷ wait ∷ least ∷ 2 ∷ m ∷ 2 ∷ l ∷ n ∷ []) ∷ topics ∷ partitions ∷ []

module _ (lent : List ℕ) (e : ℕ) (some : e ≢ 0) (replica wait least m l n : ℕ) (topics partitions : List ℕ) where
  abbrev st : Tables
  st = tables replica wait least m l n topics partitions

  topics_blame : (f : ℕ) (c : List ℕ) → blame_at lent e topics_shape 0 ((n ∷ []) ∷ topics ∷ partitions ∷ []) nowhere f c ≡ items_blame lent e topic_shape (count n) 1 ([] ∷ topics ∷ partitions ∷ []) c
  unfolding too_long blame_at blame
  topics_blame f c = array_blame lent e nowhere f c 0 ((n ∷ []) ∷ topics ∷ partitions ∷ []) (fixed w32 empty) 1 topic_shape end (λ d. some (sym d)) ∙ else_past _

  module _ (c : List ℕ) where
    abbrev in_front : Bool → Bool → Sought
    in_front b i = row_blame [] e (front b i) nowhere 0 c (front_cells replica wait least m l)

    request_blame : (b i : Bool) → blame_at lent e (request_shape b i) 0 st nowhere 0 c ≡ else (in_front b i) (λ d. items_blame lent e topic_shape (count n) 1 ([] ∷ topics ∷ partitions ∷ []) d)
    unfolding stands row_blame blame_at blame basic_fault value_of pop width basic_of
    request_blame true true = joined_blame lent e topics_shape (front true true) tt 0 st nowhere 0 c ∙ else_same (in_front true true) _ _ (topics_blame (0 + fields_of (front true true)))
    request_blame true false = joined_blame lent e topics_shape (front true false) tt 0 st nowhere 0 c ∙ else_same (in_front true false) _ _ (topics_blame (0 + fields_of (front true false)))
    request_blame false true = joined_blame lent e topics_shape (front false true) tt 0 st nowhere 0 c ∙ else_same (in_front false true) _ _ (topics_blame (0 + fields_of (front false true)))
    request_blame false false = joined_blame lent e topics_shape (front false false) tt 0 st nowhere 0 c ∙ else_same (in_front false false) _ _ (topics_blame (0 + fields_of (front false false)))

front_flat : (b i : Bool) → Flat (front b i)
unfolding stands
front_flat true true = tt
front_flat true false = tt
front_flat false true = tt
front_flat false false = tt

-- as code walks over it: n is a number of rows
module _ (lent : List ℕ) (e : ℕ) (some : e ≢ 0) (replica wait least m l n : ℕ) (few : n < 2 ^ 63) (topics partitions : List ℕ) (b i : Bool) (c : List ℕ) (x : Blamed) (w : of_blamed [] x ≡ row_blame [] e (front b i) nowhere 0 [] (front_cells replica wait least m l)) where
  abbrev then_topics : Blamed → Sought
  then_topics y = else (of_blamed c y) (λ d. items_blame lent e topic_shape n 1 ([] ∷ topics ∷ partitions ∷ []) d)

  in_two : then_topics x ≡ blame_at lent e (request_shape b i) 0 (tables replica wait least m l n topics partitions) nowhere 0 c
  in_two =
      (λ t. else (any_counts [] e (front b i) (front_flat b i) nowhere 0 (front_cells replica wait least m l) x w c t) (λ d. items_blame lent e topic_shape (sym (few_told n few) t) 1 ([] ∷ topics ∷ partitions ∷ []) d))
      ∙ sym (request_blame lent e some replica wait least m l n topics partitions c b i)

  pub in_numbers : (a : Found) → x ≡ Err a → there a.row a.field ≡ blame_at lent e (request_shape b i) 0 (tables replica wait least m l n topics partitions) nowhere 0 c
  in_numbers a h = sym (ap then_topics h) ∙ in_two

  pub in_topics_lem : (u : Unit {0}) → x ≡ Ok u → (s : Sought) → s ≡ items_blame lent e topic_shape n 1 ([] ∷ topics ∷ partitions ∷ []) c → s ≡ blame_at lent e (request_shape b i) 0 (tables replica wait least m l n topics partitions) nowhere 0 c
  in_topics_lem u h s g = g ∙ sym (ap then_topics h) ∙ in_two

-- ---- topics off the front of their table, one by one: a row alone has the first fault that it has with the rows after it

module _ (lent : List ℕ) (e : ℕ) (topics partitions k₀ left : List ℕ) (d : left ≡ topics) (h : sum (takes 3 2) (rows_of 3 topics) ≤ length partitions) where
  pub search_start : Searching topic_nest lent e topics partitions k₀ left partitions k₀
  search_start = subst (λ (l : List ℕ). Searching topic_nest lent e topics partitions k₀ l partitions k₀) (sym d) (searching_start topic_nest lent e topics partitions k₀ h)

module _ (left r after : List ℕ) (i : left ≡ r ++ after) (j : length r ≡ 3) (lent : List ℕ) (e : ℕ) (some : e ≢ 0) (topics partitions k₀ free k : List ℕ) (a : Searching topic_nest lent e topics partitions k₀ left free k) where
  pub search_enough : takes 3 2 r ≤ length free
  search_enough = omega (arith, same_takes left r after i j, searching_enough topic_nest lent e topics partitions k₀ a (long left r after i j))

  same_name : (row : ℕ) (c : List ℕ) → row_blame lent e string_shape row 0 c r ≡ row_blame lent e string_shape row 0 c left
  same_name row c =
      let n : ℕ = string_fault (slice lent (get_or r 0 0, get_or r 1 0)) in
      let f : n ≡ row_fault lent string_shape r = sym (string_fault_lem lent r) in
      let g : n ≡ row_fault lent string_shape left = ap string_fault (sym (same_slice left r after i j lent)) ∙ sym (string_fault_lem lent left) in
      by_test (eqb n e)
      (λ t. sym (only_here lent e (text (fixed w16 never)) row 0 c r n f (of_eq n e t)) ∙ only_here lent e (text (fixed w16 never)) row 0 c left n g (of_eq n e t))
      (λ t. sym (only_past lent e (text (fixed w16 never)) row 0 c r n f (of-ne n e t)) ∙ only_past lent e (text (fixed w16 never)) row 0 c left n g (of-ne n e t))

  same_blame : (row : ℕ) (c : List ℕ) → blame_at lent e topic_shape 1 ([] ∷ r ∷ free ∷ []) row 0 c ≡ blame_at lent e topic_shape 1 ([] ∷ left ∷ free ∷ []) row 0 c
  same_blame row c =
      in_parts lent e some r free search_enough row c
      ∙ ap₂ (λ (s : Sought) (n : ℕ). else s (λ k. rows_blame lent e partition_shape 3 2 (take n free) k)) (same_name row c) (sym (same_takes left r after i j))
      ∙ sym (in_parts lent e some left free (omega (arith, search_enough, same_takes left r after i j)) row c)

  module _ (row : ℕ) (g : row ≡ get_or k 1 0) (k₁ : List ℕ) (d : k₁ ≡ begun 1 k) (k₂ : List ℕ) (y : Blamed) (p : of_blamed k₂ y ≡ blame_at lent e topic_shape 1 ([] ∷ r ∷ free ∷ []) row 0 k₁) where
    pub search_found : (b : Found) → y ≡ Err b → there b.row b.field ≡ items_blame lent e topic_shape (length topics / 3) 1 ([] ∷ topics ∷ partitions ∷ []) k₀
    search_found = searching_found topic_nest lent e topics partitions k₀ a (long left r after i j) row g k₁ d k₂ y (p ∙ same_blame row k₁)

    pub search_next : (u : Unit {0}) → y ≡ Ok u → (n : ℕ) → n ≡ takes 3 2 r → Searching topic_nest lent e topics partitions k₀ after (take (length free - n) (drop n free)) k₂
    search_next u q n t =
        subst (λ (l : List ℕ). Searching topic_nest lent e topics partitions k₀ l (take (length free - n) (drop n free)) k₂) (next left r after i j)
        (searching_more topic_nest lent e topics partitions k₀ a (long left r after i j) row g k₁ d k₂ y (p ∙ same_blame row k₁) u q n (t ∙ sym (same_takes left r after i j)))
