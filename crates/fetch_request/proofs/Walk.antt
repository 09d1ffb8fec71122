-- The walk over a request: what each part leaves in the output, in the words of its layout.
use mathlib.Core.Bool.{Bool, cond, false, true}
use mathlib.Core.List.{List, [], ◌++◌, ◌∷◌, append-nil}
use mathlib.Core.Path.{◌∙◌, ◌≡◌, ap, ap₂, refl, sym}
use Prim.Native.Nat.{◌*◌, ◌+◌, ◌-◌, ◌/◌, ◌<◌, ◌^◌, ◌≤◌, min, ℕ}
use native.Mathlib.Nat.{add-zero}
use native.Mathlib.Omega.{arith}
use lib.Dec.{lit<}
use lib.ListN.{get_or, length, length-append, take}
use lib.Seq.{length-take-le}
use borrow.Rule.Slice.PartMut.{mid_of, put_mid}
use Rattle.layout.specs.Primitives.{bytes, empty, fixed, length_bytes, w32, w64}
use Rattle.layout.specs.Rows.{end, stands}
use Rattle.layout.specs.Tables.{basic_of, chosen, pop, row_width, rows_of, slice, value_of, width}
use Rattle.layout.specs.Write.{write, write_basic}
use Rattle.layout.proofs.Back.{length_bytes_lem}
use Rattle.primitives_put.specs.Step.{Capped, cap}
use Rattle.body_writing.specs.Writes.{bytes_at, counted_bytes, items_bytes, row_bytes, rows_bytes, takes}
use Rattle.primitives_put.proofs.Capped.{capped, capped_as, capped_behind, step_nothing}
use Rattle.layout.proofs.Chunks.{row_cell}
use Rattle.body_writing.proofs.Nested.{Nest, row_bytes_lem}
use Rattle.body_writing.proofs.Writes.{any_bytes, joined_bytes}
use Rattle.primitives_put.specs.declared.Form.{Form}
use Rattle.primitives_put.specs.Put.{Put, behind_length, size_of}
use Rattle.body_writing.proofs.Even.{Even, counted_put, even_end, even_left, even_more, numbers_bytes, numbers_wide, rows_wide, string_bytes, string_shape, three_put}
use Rattle.primitives_put.proofs.Stored.{put_step}
use Rattle.std.specs.Prelude.{Option, Some, None, is_some, unwrap_or}
use Rattle.body_writing.proofs.Counts.{few_told}
use Rattle.fetch_request.specs.Shapes.{lead_shape, limits_shape, partition_shape, request_shape, topic_shape, topics_shape}

-- ---- partitions: sixteen bytes each

pub partition_wide : (r : List ℕ) → length (row_bytes [] partition_shape r) ≡ 16
partition_wide = numbers_wide [] w32 w64 w32

pub partitions_wide : (table : List ℕ) → length (rows_bytes [] partition_shape 3 table) ≡ length table / 3 * 16
unfolding rows_bytes
partitions_wide table = rows_wide (row_bytes [] partition_shape) 16 partition_wide 3 table

-- the first i rows stand there, and the next is stored behind them
module _ {table d : List ℕ} (full : length d ≡ length table / 3 * 16) {i p : ℕ} {d₁ : List ℕ} (a : Even (row_bytes [] partition_shape) 16 3 table d i p d₁)
    {m : ℕ} {e : List ℕ} (s : Capped (row_bytes [] partition_shape (get_or (rows_of 3 table) i [])) (mid_of p (length d₁ - p) d₁) m e) where
  row_more : 16 ≤ length d₁ - p → Even (row_bytes [] partition_shape) 16 3 table d (i + 1) (p + 16) (put_mid p (length d₁ - p) d₁ e)
  row_more h = even_more full a (lit< tt) h (partition_wide (get_or (rows_of 3 table) i [])) s

  same_room : 16 ≤ length d₁ - p → length (put_mid p (length d₁ - p) d₁ e) ≡ length d₁
  same_room h = (row_more h).walked.step.long ∙ sym a.walked.step.long

  -- where there was room for two there is room for one more
  module _ (h : 32 ≤ length d₁ - p) where
    pub first_row_lem : Even (row_bytes [] partition_shape) 16 3 table d (i + 1) (p + 16) (put_mid p (length d₁ - p) d₁ e)
    first_row_lem = row_more (omega arith)

    pub second_room : 16 ≤ length (put_mid p (length d₁ - p) d₁ e) - (p + 16)
    second_room = omega (arith, same_room (omega arith))

    pub second_left : i + 1 < length table / 3
    second_left = even_left full first_row_lem (lit< tt) second_room

  -- where there was none for two this is the last
  pub last_row : 16 ≤ length d₁ - p → length d₁ - p < 32 → Capped (rows_bytes [] partition_shape 3 table) d (p + 16) (put_mid p (length d₁ - p) d₁ e)
  unfolding rows_bytes
  last_row h l = even_end full (row_more h) (omega (arith, same_room h))

-- a row's cells stand in the table from three times its number on
pub partition_put : (table : List ℕ) (i : ℕ) → i < length table / 3 → {d d₁ e : List ℕ} {n m : ℕ} → 16 ≤ length d → Put (bytes 4 (get_or table (i * 3) 0)) d n d₁ → Put (bytes 8 (get_or table (i * 3 + 1) 0)) (mid_of 4 (length d₁ - 4) d₁) m e →
    (d₂ : List ℕ) → d₂ ≡ put_mid 4 (length d₁ - 4) d₁ e → {f : List ℕ} {l : ℕ} → Put (bytes 4 (get_or table (i * 3 + 2) 0)) (mid_of 12 (length d₂ - 12) d₂) l f →
    Capped (row_bytes [] partition_shape (get_or (rows_of 3 table) i [])) d 16 (put_mid 12 (length d₂ - 12) d₂ f)
partition_put table i l h p q d₂ u s =
    capped_as ((λ t. bytes 4 (sym (row_cell 3 table i l 0 (lit< tt) ∙ ap (λ (j : ℕ). get_or table j 0) (add-zero (i * 3))) t) ++ (bytes 8 (sym (row_cell 3 table i l 1 (lit< tt)) t) ++ bytes 4 (sym (row_cell 3 table i l 2 (lit< tt)) t))) ∙ sym (numbers_bytes [] w32 w64 w32 (get_or (rows_of 3 table) i [])))
    (three_put 4 8 4 _ _ _ (omega arith) p q d₂ u s)

-- ---- a topic: j cells of partitions, behind the name x

pub named : row_width string_shape ≡ 2
unfolding row_width width
named = refl

pub three : row_width partition_shape ≡ 3
unfolding row_width width
three = refl

-- a name, and an array of partitions
abbrev pub topic_nest : Nest
topic_nest = record { fields = string_shape; flat_fields = tt; before = 2; is_before = named; size = fixed w32 empty; item = partition_shape; flat_item = tt; wide = 3; is_wide = three }

pub counted_wide : (table : List ℕ) → length (counted_bytes [] partition_shape (fixed w32 empty) 3 table) ≡ 4 + length table / 3 * 16
unfolding counted_bytes length_bytes
counted_wide table = length-append (bytes 4 (length table / 3)) (rows_bytes [] partition_shape 3 table) ∙ omega (arith, length_bytes_lem 4 (length table / 3), partitions_wide table)

name_wide : (x : List ℕ) → length (behind_length (size_of Form.Int16) x) ≡ length x + 2
unfolding behind_length length_bytes
name_wide x = length-append (bytes 2 (length x)) x ∙ omega (arith, length_bytes_lem 2 (length x))

-- no byte of a partition is one of those lent
plain_bytes : (lent table : List ℕ) → counted_bytes lent partition_shape (fixed w32 empty) 3 table ≡ counted_bytes [] partition_shape (fixed w32 empty) 3 table
unfolding counted_bytes rows_bytes row_bytes bytes_at write write_basic value_of pop basic_of
plain_bytes lent table = refl

module _ (lent topics partitions x : List ℕ) (j : ℕ) (i : j ≡ takes 3 2 topics) (s : x ≡ slice lent (get_or topics 0 0, get_or topics 1 0)) (l : j ≤ length partitions) where
  pub topic_as : behind_length (size_of Form.Int16) x ++ counted_bytes [] partition_shape (fixed w32 empty) 3 (take j partitions) ≡ bytes_at lent topic_shape 1 ([] ∷ topics ∷ partitions ∷ [])
  topic_as =
      ap₂ (λ (y : List ℕ) (n : ℕ). behind_length (size_of Form.Int16) y ++ counted_bytes [] partition_shape (fixed w32 empty) 3 (take n partitions)) s i
      ∙ sym (row_bytes_lem lent (fixed w32 empty) partition_shape tt 3 three string_shape tt 2 named topics partitions (lit< tt) (omega (arith, i)) refl
      ∙ ap₂ (λ (y z : List ℕ). y ++ z) (string_bytes lent topics) (plain_bytes lent (take (takes 3 2 topics) partitions)))

  counted_taken : length (counted_bytes [] partition_shape (fixed w32 empty) 3 (take j partitions)) ≡ 4 + j / 3 * 16
  counted_taken = counted_wide (take j partitions) ∙ ap (λ (n : ℕ). 4 + n / 3 * 16) (length-take-le j partitions l)

  pub topic_wide : length (bytes_at lent topic_shape 1 ([] ∷ topics ∷ partitions ∷ [])) ≡ length x + 2 + 4 + j / 3 * 16
  topic_wide = ap length (sym topic_as) ∙ length-append (behind_length (size_of Form.Int16) x) (counted_bytes [] partition_shape (fixed w32 empty) 3 (take j partitions)) ∙ omega (arith, name_wide x, counted_taken)

  pub topic_put : {d d₁ e : List ℕ} {n m : ℕ} → length x + 2 + 4 + j / 3 * 16 ≤ length d → Put (behind_length (size_of Form.Int16) x) d n d₁ → Capped (counted_bytes [] partition_shape (fixed w32 empty) 3 (take j partitions)) (mid_of (length x + 2) (length d₁ - (length x + 2)) d₁) m e →
      Capped (bytes_at lent topic_shape 1 ([] ∷ topics ∷ partitions ∷ [])) d (length x + 2 + 4 + j / 3 * 16) (put_mid (length x + 2) (length d₁ - (length x + 2)) d₁ e)
  topic_put h p q =
      capped_as topic_as
      (capped_behind (capped (put_step p)) (length x + 2) (omega (arith, p.count, (put_step p).long, name_wide x)) q _ (omega (arith, p.count, name_wide x, q.count, counted_taken)))

-- ---- the own row in parts

pub lead_bytes : (lent : List ℕ) (b i : Bool) (x y z : ℕ) (cs topics partitions : List ℕ) → bytes_at lent (request_shape b i) 0 ((x ∷ y ∷ z ∷ cs) ∷ topics ∷ partitions ∷ []) ≡ row_bytes [] (lead_shape end) (x ∷ y ∷ z ∷ []) ++ bytes_at lent (limits_shape b i topics_shape) 0 (cs ∷ topics ∷ partitions ∷ [])
unfolding row_bytes bytes_at write write_basic value_of pop width basic_of
lead_bytes lent b i x y z cs topics partitions = joined_bytes lent (limits_shape b i topics_shape) 0 (lead_shape end) ((x ∷ y ∷ z ∷ cs) ∷ topics ∷ partitions ∷ [])

pub limits_bytes : (lent : List ℕ) (b i : Bool) (k m k' m' c : ℕ) (topics partitions : List ℕ) → bytes_at lent (limits_shape b i topics_shape) 0 ((k ∷ m ∷ k' ∷ m' ∷ c ∷ []) ∷ topics ∷ partitions ∷ [])
    ≡ row_bytes [] (limits_shape b i end) (k ∷ m ∷ k' ∷ m' ∷ []) ++ bytes_at lent topics_shape 0 ((c ∷ []) ∷ topics ∷ partitions ∷ [])
unfolding stands row_bytes bytes_at write write_basic value_of pop width basic_of
limits_bytes lent true true k m k' m' c topics partitions = joined_bytes lent topics_shape 0 (limits_shape true true end) ((k ∷ m ∷ k' ∷ m' ∷ c ∷ []) ∷ topics ∷ partitions ∷ [])
limits_bytes lent true false k m k' m' c topics partitions = joined_bytes lent topics_shape 0 (limits_shape true false end) ((k ∷ m ∷ k' ∷ m' ∷ c ∷ []) ∷ topics ∷ partitions ∷ [])
limits_bytes lent false true k m k' m' c topics partitions = joined_bytes lent topics_shape 0 (limits_shape false true end) ((k ∷ m ∷ k' ∷ m' ∷ c ∷ []) ∷ topics ∷ partitions ∷ [])
limits_bytes lent false false k m k' m' c topics partitions = joined_bytes lent topics_shape 0 (limits_shape false false end) ((k ∷ m ∷ k' ∷ m' ∷ c ∷ []) ∷ topics ∷ partitions ∷ [])

-- n is a number of rows
pub topics_bytes : (lent : List ℕ) (n : ℕ) (topics partitions : List ℕ) → n < 2 ^ 63 → bytes_at lent topics_shape 0 ((n ∷ []) ∷ topics ∷ partitions ∷ []) ≡ length_bytes (fixed w32 empty) n ++ items_bytes lent topic_shape n 1 ([] ∷ topics ∷ partitions ∷ [])
topics_bytes lent n topics partitions h = any_bytes lent (fixed w32 empty) topic_shape 0 1 ((n ∷ []) ∷ topics ∷ partitions ∷ []) refl ∙ ap (λ (j : ℕ). length_bytes (fixed w32 empty) j ++ items_bytes lent topic_shape j 1 ([] ∷ topics ∷ partitions ∷ [])) (few_told n h)

-- a number, where the version has it
module _ (o : Option ℕ) (k : ℕ) where
  pub number_there : {n : ℕ} → o ≡ Some n → {d d' : List ℕ} {m : ℕ} → Put (bytes k n) d m d' → Capped (cond (is_some o) (bytes k (unwrap_or o 0)) []) d m d'
  number_there h p = rw h (capped (put_step p))

  pub number_lacking : o ≡ None → (d : List ℕ) → Capped (cond (is_some o) (bytes k (unwrap_or o 0)) []) d 0 d
  number_lacking h d = rw h (capped (step_nothing d))

-- two numbers, where the version has them; unset they are written like a number given
pub limits_are : (b i : Bool) (largest level : ℕ) → cond b (bytes 4 largest) [] ++ cond i (bytes 1 level) [] ≡ row_bytes [] (limits_shape b i end) (2 ∷ largest ∷ 2 ∷ level ∷ [])
unfolding stands row_bytes bytes_at write write_basic value_of pop width basic_of chosen
limits_are true true largest level = ap (λ (x : List ℕ). bytes 4 largest ++ x) (sym (append-nil (bytes 1 level)))
limits_are true false largest level = refl
limits_are false true largest level = sym (append-nil (bytes 1 level))
limits_are false false largest level = refl

pub lead_are : (x y z : ℕ) → bytes 4 x ++ (bytes 4 y ++ bytes 4 z) ≡ row_bytes [] (lead_shape end) (x ∷ y ∷ z ∷ [])
lead_are x y z = sym (numbers_bytes [] w32 w32 w32 (x ∷ y ∷ z ∷ []))

-- ---- one behind the other, as calls with `&mut out[at..]` leave it

module _ {d d₁ e : List ℕ} {n m : ℕ} (at : ℕ) (h : at ≡ min n (length d₁)) (r : ℕ) (k : cap r ≡ cap (n + m)) where
  pub rows_put : (table : List ℕ) → Put (length_bytes (size_of Form.Int32) (length table / 3)) d n d₁ → Capped (rows_bytes [] partition_shape 3 table) (mid_of at (length d₁ - at) d₁) m e → Capped (counted_bytes [] partition_shape (fixed w32 empty) 3 table) d r (put_mid at (length d₁ - at) d₁ e)
  rows_put table p q = counted_put Form.Int32 empty [] partition_shape 3 table at h r k p q

  pub array_put : (lent topics partitions : List ℕ) → length topics < 2 ^ 64 → Put (length_bytes (size_of Form.Int32) (length topics / 3)) d n d₁ → Capped (items_bytes lent topic_shape (length topics / 3) 1 ([] ∷ topics ∷ partitions ∷ [])) (mid_of at (length d₁ - at) d₁) m e →
      Capped (bytes_at lent topics_shape 0 ((length topics / 3 ∷ []) ∷ topics ∷ partitions ∷ [])) d r (put_mid at (length d₁ - at) d₁ e)
  unfolding length_bytes
  array_put lent topics partitions l p q = capped_as (sym (topics_bytes lent (length topics / 3) topics partitions (omega arith))) (capped_behind (capped (put_step p)) at h q r k)

  pub limits_put : (b i : Bool) (largest level : ℕ) → Capped (cond b (bytes 4 largest) []) d n d₁ → Capped (cond i (bytes 1 level) []) (mid_of at (length d₁ - at) d₁) m e → Capped (row_bytes [] (limits_shape b i end) (2 ∷ largest ∷ 2 ∷ level ∷ [])) d r (put_mid at (length d₁ - at) d₁ e)
  limits_put b i largest level p q = capped_as (limits_are b i largest level) (capped_behind p at h q r k)

  pub lead_put : (replica wait least : ℕ) → Put (bytes 4 replica) d n d₁ → Capped (bytes 4 wait ++ bytes 4 least) (mid_of at (length d₁ - at) d₁) m e → Capped (row_bytes [] (lead_shape end) (replica ∷ wait ∷ least ∷ [])) d r (put_mid at (length d₁ - at) d₁ e)
  lead_put replica wait least p q = capped_as (lead_are replica wait least) (capped_behind (capped (put_step p)) at h q r k)

  pub rest_put : (b i : Bool) (lent : List ℕ) (largest level c : ℕ) (topics partitions : List ℕ) → Capped (row_bytes [] (limits_shape b i end) (2 ∷ largest ∷ 2 ∷ level ∷ [])) d n d₁ → Capped (bytes_at lent topics_shape 0 ((c ∷ []) ∷ topics ∷ partitions ∷ [])) (mid_of at (length d₁ - at) d₁) m e →
      Capped (bytes_at lent (limits_shape b i topics_shape) 0 ((2 ∷ largest ∷ 2 ∷ level ∷ c ∷ []) ∷ topics ∷ partitions ∷ [])) d r (put_mid at (length d₁ - at) d₁ e)
  rest_put b i lent largest level c topics partitions p q = capped_as (sym (limits_bytes lent b i 2 largest 2 level c topics partitions)) (capped_behind p at h q r k)

  pub request_put : (b i : Bool) (lent : List ℕ) (replica wait least : ℕ) (cs topics partitions : List ℕ) → Capped (row_bytes [] (lead_shape end) (replica ∷ wait ∷ least ∷ [])) d n d₁ → Capped (bytes_at lent (limits_shape b i topics_shape) 0 (cs ∷ topics ∷ partitions ∷ [])) (mid_of at (length d₁ - at) d₁) m e →
      Capped (bytes_at lent (request_shape b i) 0 ((replica ∷ wait ∷ least ∷ cs) ∷ topics ∷ partitions ∷ [])) d r (put_mid at (length d₁ - at) d₁ e)
  request_put b i lent replica wait least cs topics partitions p q = capped_as (sym (lead_bytes lent b i replica wait least cs topics partitions)) (capped_behind p at h q r k)
