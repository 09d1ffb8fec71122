-- A whole response part by part, each from the law of its layout: the items behind their number, what stands behind them, what is refused, and the answer to the call.
use mathlib.Core.Bool.{Bool, ◌&&◌, and_comm, cond, false, true}
use mathlib.Core.List.{List, [], ◌++◌, ◌∷◌, append-nil}
use mathlib.Core.Path.{◌∙◌, ◌≡◌, ap, ap₂, refl, sym}
use Prim.Native.Nat.{◌*◌, ◌+◌, ◌-◌, ◌/◌, ◌<◌, ◌^◌, ◌≤◌, min, ℕ}
use native.Mathlib.Omega.{arith}
use lib.Dec.{eqb, leb, lit<, lit≤}
use lib.IntN.{ℤ}
use lib.ListN.{drop, get_or, length, length-drop, take}
use lib.Seq.{get_or-take, take_all}
use borrow.Rule.Slice.PartMut.{mid_of, put_mid}
use Rattle.layout.specs.Answers.{Answer, write_alone, write_answer}
use Rattle.layout.specs.Messages.ApiVersions.{response}
use Rattle.layout.specs.Primitives.{Size, bytes, compact, fixed, holds, keeps, length_bytes, minus, never, plain, w16, w32}
use Rattle.layout.specs.Rows as Rows
use Rattle.layout.specs.Rows.{Value, array, end}
use Rattle.layout.specs.Tables.{Tables, basic_of, chosen, chunks, count, good, items_of, pop, rows_of, sum, times, value_of, width}
use Rattle.layout.specs.Write.{basic_fault, each, fault, first_of, or, too_long, unless, write, write_basic}
use Rattle.primitives_put.specs.Step.{Capped, cap}
use Rattle.body_reading.specs.Tagged.{tag_shape, tags_shape}
use Rattle.body_writing.specs.Writes.{bytes_at, counted_bytes, fault_at, items_bytes, refusal_of, row_bytes, row_fault, rows_fault}
use Rattle.primitives_put.proofs.Capped.{capped, capped_as, capped_behind, step_nothing}
use Rattle.body_writing.proofs.Faults.{or_none, or_unless, rows_only}
use Rattle.body_writing.proofs.Nested.{own_apart, sum_cells, taken_state}
use Rattle.body_writing.proofs.Writes.{any_bytes, any_fault, joined_bytes, joined_fault}
use Rattle.primitives.specs.Answers.{version_of}
use Rattle.primitives_put.specs.declared.Form.{Form}
use Rattle.primitives_put.specs.Put.{Put, size_of}
use Rattle.primitives_put.proofs.Stored.{put_step}
use Rattle.body_writing.specs.Asked.{told}
use Rattle.body_writing.proofs.Counts.{Cells, cells_drop, few_told}
use Rattle.tagged_fields.proofs.Tags.{tags_bytes, tags_clean}
use Rattle.body_reading.specs.Cells.{given, versioned_cells}
use Rattle.std.specs.Prelude.{Option, Some, None}
use Rattle.body_writing.proofs.Called.{called}
use Rattle.body_writing.proofs.Even.{numbers_fault}
use Rattle.api_versions_response.proofs.Replies.{shape_is}
use Rattle.api_versions_response.specs.Shapes.{item_shape, response_shape, throttle_shape}
use Rattle.api_versions_response.specs.ItemShapes.{key_front}
use Rattle.api_versions_response.proofs.Good.{good_items, good_own, good_tags, is_good, judged}
use Rattle.api_versions_response.proofs.ItemsWritten.{item_value, item_cells, items_fault_lem}

-- the cells of tags that the items take
abbrev cells_of : Bool → List (List ℕ) → ℕ
cells_of f rs = sum (item_cells f) rs

cells_told : (rs : List (List ℕ)) → cells_of true rs ≡ sum (told 3) rs * 3
unfolding told
cells_told rs = sum_cells (λ r. count (get_or r 3 0)) 3 rs

never_null : (f : Bool) (c : ℕ) → (keeps (Rows.items f) && eqb c minus) ≡ false
never_null true c = refl
never_null false c = refl

module _ (lent : List ℕ) (f : Bool) (c : ℕ) (cs items tags : List ℕ) where
  abbrev st : Tables
  st = (c ∷ cs) ∷ items ∷ tags ∷ []

  -- ---- the items behind their number, whatever stands behind that in the body's own row

  array_bytes : bytes_at lent (array (Rows.items f) 1 (item_shape f) end) 0 st ≡ length_bytes (Rows.items f) (count c) ++ items_bytes lent (item_shape f) (count c) 1 ([] ∷ items ∷ tags ∷ [])
  unfolding items_bytes
  array_bytes =
      any_bytes lent (Rows.items f) (item_shape f) 0 1 st (never_null f c)
      ∙ ap (λ (xs : List (Value (List ℕ) (item_shape f))). length_bytes (Rows.items f) (count c) ++ each (write (item_shape f)) xs) (own_apart 4 (item_cells f) (value_of lent (item_shape f) 1) _ (item_value lent f) (count c) cs [] items tags)

  -- the tables behind them
  pub array_left : (value_of lent (array (Rows.items f) 1 (item_shape f) end) 0 st).1 ≡ cs ∷ drop (count c * 4) items ∷ drop (cells_of f (chunks (count c) 4 items)) tags ∷ []
  unfolding value_of pop items_of
  array_left = go f
    where
      first : (g : Bool) (rs : List ℕ) → item_cells g (take 4 rs) ≡ item_cells g rs
      first g rs = ap (λ (n : ℕ). cond g (count n * 3) 0) (get_or-take 4 rs 3 0 (lit< tt))

      left : (g : Bool) → (times (count c) (value_of lent (item_shape g) 1) (cs ∷ items ∷ tags ∷ [])).1 ≡ cs ∷ drop (count c * 4) items ∷ drop (cells_of g (chunks (count c) 4 items)) tags ∷ []
      left g = taken_state 4 (item_cells g) (value_of lent (item_shape g) 1) _ (item_value lent g) (first g) (count c) cs items tags

      go : (g : Bool) → (value_of lent (array (Rows.items g) 1 (item_shape g) end) 0 st).1 ≡ cs ∷ drop (count c * 4) items ∷ drop (cells_of g (chunks (count c) 4 items)) tags ∷ []
      go true = left true
      go false = left false

-- ---- what stands behind the items: k and m are the cells of the throttle time, c that of the tags, which are rows of `table`

module _ (lent : List ℕ) (k m c : ℕ) (items table : List ℕ) where
  abbrev behind : Tables
  behind = (c ∷ []) ∷ items ∷ table ∷ []

  tags_part : (f : Bool) → (f ≡ true → count c ≡ length table / 3) → bytes_at lent (tags_shape f 2) 0 behind ≡ cond f (counted_bytes lent tag_shape plain 3 table) []
  unfolding bytes_at write
  tags_part true h = tags_bytes lent 0 2 behind (λ u. omega arith) (lit< tt) (h refl)
  tags_part false h = refl

  end_bytes : (t f : Bool) → (f ≡ true → count c ≡ length table / 3) → bytes_at lent (throttle_shape t (tags_shape f 2)) 0 ((k ∷ m ∷ c ∷ []) ∷ items ∷ table ∷ []) ≡ row_bytes [] (throttle_shape t end) (k ∷ m ∷ []) ++ cond f (counted_bytes lent tag_shape plain 3 table) []
  unfolding row_bytes bytes_at write value_of pop width basic_of
  end_bytes true f h = joined_bytes lent (tags_shape f 2) 0 (throttle_shape true end) ((k ∷ m ∷ c ∷ []) ∷ items ∷ table ∷ []) ∙ ap (λ (x : List ℕ). row_bytes [] (throttle_shape true end) (k ∷ m ∷ []) ++ x) (tags_part f h)
  end_bytes false f h = joined_bytes lent (tags_shape f 2) 0 (throttle_shape false end) ((k ∷ m ∷ c ∷ []) ∷ items ∷ table ∷ []) ∙ tags_part f h

  abbrev throttle : ℕ
  throttle = get_or (chosen (0 ∷ []) (k ∷ m ∷ [])) 0 0

  module _ (l : length lent < 2 ^ 64) (few : count c < 2 ^ 64) (cells : Cells table) where
    tags_fault : (f : Bool) → fault_at lent (tags_shape f 2) 0 behind ≡ 0
    unfolding fault_at fault
    tags_fault true = tags_clean lent 0 2 behind (λ u. omega arith) (lit< tt) few cells l
    tags_fault false = refl

    end_fault : (t f : Bool) → fault_at lent (throttle_shape t (tags_shape f 2)) 0 ((k ∷ m ∷ c ∷ []) ∷ items ∷ table ∷ []) ≡ unless (cond t (holds w32 throttle) true) 11
    unfolding fault_at fault basic_fault value_of pop width basic_of unless
    end_fault true f = ap (or (unless (holds w32 throttle) 11)) (tags_fault f) ∙ or_none _
    end_fault false f = tags_fault f

-- ---- what stands behind the error

-- no number of items has a fault of its own
pub items_fit : (f : Bool) (n : ℕ) → too_long (Rows.items f) n ≡ 0
unfolding too_long
items_fit true n = refl
items_fit false n = refl

module _ (lent : List ℕ) (t f : Bool) (c k m own : ℕ) (items tags : List ℕ) where
  abbrev row : Tables
  row = (c ∷ k ∷ m ∷ own ∷ []) ∷ items ∷ tags ∷ []

  -- the counts add up, as those of good tables do
  module _ (rows : count c ≡ length items / 4) (all_told : count own + sum (told 3) (rows_of 4 items) ≡ length tags / 3) where
    -- the body's own tags are the last rows
    abbrev own_tags : List ℕ
    own_tags = drop ((length tags / 3 - count own) * 3) tags

    own_left : (g : Bool) → (g ≡ true → count own ≡ length (drop (cells_of g (rows_of 4 items)) tags) / 3) × (cond g (counted_bytes lent tag_shape plain 3 (drop (cells_of g (rows_of 4 items)) tags)) [] ≡ cond g (counted_bytes lent tag_shape plain 3 own_tags) [])
    own_left true = (
      (λ e. omega (arith, all_told, cells_told (rows_of 4 items), length-drop (cells_of true (rows_of 4 items)) tags)),
      ap (λ (j : ℕ). counted_bytes lent tag_shape plain 3 (drop j tags)) same,
    )
      where
        same : cells_of true (rows_of 4 items) ≡ (length tags / 3 - count own) * 3
        same = omega (arith, cells_told (rows_of 4 items), all_told)
    own_left false = ((λ e. let z : ◌≡◌ {A = ℕ} 0 1 = cc in absurd (omega arith)), refl)

    rest_bytes : bytes_at lent (array (Rows.items f) 1 (item_shape f) (throttle_shape t (tags_shape f 2))) 0 row
        ≡ (length_bytes (Rows.items f) (length items / 4) ++ items_bytes lent (item_shape f) (length items / 4) 1 ([] ∷ items ∷ tags ∷ [])) ++ (row_bytes [] (throttle_shape t end) (k ∷ m ∷ []) ++ cond f (counted_bytes lent tag_shape plain 3 own_tags) [])
    unfolding rows_of
    rest_bytes =
        joined_bytes lent (throttle_shape t (tags_shape f 2)) 0 (array (Rows.items f) 1 (item_shape f) end) row
        ∙ ap₂ (λ (x y : List ℕ). x ++ y)
        (array_bytes lent f c (k ∷ m ∷ own ∷ []) items tags ∙ ap (λ (j : ℕ). length_bytes (Rows.items f) j ++ items_bytes lent (item_shape f) j 1 ([] ∷ items ∷ tags ∷ [])) rows)
        (ap (bytes_at lent (throttle_shape t (tags_shape f 2)) 0) (array_left lent f c (k ∷ m ∷ own ∷ []) items tags)
        ∙ ap (λ (j : ℕ). bytes_at lent (throttle_shape t (tags_shape f 2)) 0 ((k ∷ m ∷ own ∷ []) ∷ drop (count c * 4) items ∷ drop (cells_of f (chunks j 4 items)) tags ∷ [])) rows
        ∙ end_bytes lent k m own (drop (count c * 4) items) (drop (cells_of f (rows_of 4 items)) tags) t f (own_left f).0
        ∙ ap (λ (x : List ℕ). row_bytes [] (throttle_shape t end) (k ∷ m ∷ []) ++ x) (own_left f).1)

  rest_fault : length lent < 2 ^ 64 → count own < 2 ^ 64 → Cells items → Cells tags → count c ≡ length items / 4 → fault_at lent (array (Rows.items f) 1 (item_shape f) (throttle_shape t (tags_shape f 2))) 0 row
      ≡ or (rows_fault [] key_front 4 items) (unless (cond t (holds w32 (throttle lent k m own items tags)) true) 11)
  unfolding rows_fault rows_of or
  rest_fault l o h g rows =
      joined_fault lent (throttle_shape t (tags_shape f 2)) 0 (array (Rows.items f) 1 (item_shape f) end) row
      ∙ ap₂ or
      (any_fault lent (Rows.items f) (item_shape f) 0 1 row
      ∙ ap₂ or (items_fit f (count c)) (items_fault_lem lent l f (count c) (k ∷ m ∷ own ∷ []) items tags h g)
      ∙ ap (λ (j : ℕ). first_of (row_fault [] key_front) (chunks j 4 items)) rows)
      (ap (fault_at lent (throttle_shape t (tags_shape f 2)) 0) (array_left lent f c (k ∷ m ∷ own ∷ []) items tags)
      ∙ end_fault lent k m own (drop (count c * 4) items) (drop (cells_of f (chunks (count c) 4 items)) tags) l o (cells_drop (cells_of f (chunks (count c) 4 items)) tags g) t f)

  response_bytes : (error : ℕ) → bytes_at lent (response_shape t f) 0 ((error ∷ c ∷ k ∷ m ∷ own ∷ []) ∷ items ∷ tags ∷ []) ≡ bytes 2 error ++ bytes_at lent (array (Rows.items f) 1 (item_shape f) (throttle_shape t (tags_shape f 2))) 0 row
  unfolding bytes_at write write_basic value_of pop width basic_of
  response_bytes error = refl

  response_fault : (error : ℕ) → fault_at lent (response_shape t f) 0 ((error ∷ c ∷ k ∷ m ∷ own ∷ []) ∷ items ∷ tags ∷ []) ≡ or (unless (holds w16 error) 11) (fault_at lent (array (Rows.items f) 1 (item_shape f) (throttle_shape t (tags_shape f 2))) 0 row)
  unfolding fault_at fault basic_fault value_of pop width basic_of
  response_fault error = refl

  -- ---- what is refused

  -- error, items and throttle time
  abbrev parts : ℕ → ℕ
  parts error = or (unless (holds w16 error) 11) (or (rows_fault [] key_front 4 items) (unless (cond t (holds w32 (throttle lent k m own items tags)) true) 11))

  module _ (error : ℕ) (l : length lent < 2 ^ 64) (h : Cells items) (g : Cells tags) where
    is_fault : count own < 2 ^ 64 → count c ≡ length items / 4 → fault_at lent (response_shape t f) 0 ((error ∷ c ∷ k ∷ m ∷ own ∷ []) ∷ items ∷ tags ∷ []) ≡ parts error
    is_fault o rows = response_fault error ∙ ap (or (unless (holds w16 error) 11)) (rest_fault l o h g rows)

    refusal_is : refusal_of lent 2 (response_shape false false) (response_shape t f) ((error ∷ c ∷ k ∷ m ∷ own ∷ []) ∷ items ∷ tags ∷ []) ≡ cond (judged (length lent) c own items tags) (parts error) 13
    unfolding refusal_of
    refusal_is =
        ap (λ (b : Bool). cond b (fault_at lent (response_shape t f) 0 ((error ∷ c ∷ k ∷ m ∷ own ∷ []) ∷ items ∷ tags ∷ [])) 13) (is_good (length lent) c own items tags error k m ∙ sym (is_good (length lent) c own items tags 0 0 0))
        ∙ go (judged (length lent) c own items tags) refl
      where
        go : (b : Bool) → judged (length lent) c own items tags ≡ b → cond b (fault_at lent (response_shape t f) 0 ((error ∷ c ∷ k ∷ m ∷ own ∷ []) ∷ items ∷ tags ∷ [])) 13 ≡ cond b (parts error) 13
        go true e = is_fault (omega (arith, good_own (length lent) c own items tags e)) (good_items (length lent) c own items tags e)
        go false e = refl

-- as code judges it: without tags, the throttle time given
module _ (t : Bool) (error n : ℕ) (items : List ℕ) (h : Cells items) (s : length items < 2 ^ 64) where
  abbrev pub untagged : ℕ
  untagged = fault_at [] (response_shape t false) 0 ((error ∷ length items / 4 ∷ 2 ∷ n ∷ 0 ∷ []) ∷ items ∷ [] ∷ [])

  untagged_parts : untagged ≡ or (unless (holds w16 error) 11) (or (rows_fault [] key_front 4 items) (unless (cond t (holds w32 n) true) 11))
  unfolding chosen
  untagged_parts = is_fault [] t false (length items / 4) 2 n 0 items [] error (lit< tt) h (λ i. lit< tt) (omega (arith, few_told 0 (lit< tt))) (few_told (length items / 4) (omega arith))

  pub untagged_fault : untagged ≡ unless (holds w16 error && (cond t (holds w32 n) true && eqb (rows_fault [] key_front 4 items) 0)) 11
  untagged_fault =
      untagged_parts
      ∙ ap (or (unless (holds w16 error) 11)) (ap (λ (x : ℕ). or x (unless (cond t (holds w32 n) true) 11)) (rows_only [] key_front 4 items _ 10 (numbers_fault [] w16 w16 w16)) ∙ or_unless _ _ 10 ∙ ap (λ (b : Bool). unless b 11) (and_comm (eqb (rows_fault [] key_front 4 items) 0) (cond t (holds w32 n) true)))
      ∙ or_unless (holds w16 error) (cond t (holds w32 n) true && eqb (rows_fault [] key_front 4 items) 0) 10

  pub fault_told : (lent : List ℕ) (f : Bool) (c own : ℕ) (tags : List ℕ) → length lent < 2 ^ 64 → Cells tags → {e : ℕ} → e ≡ cond (judged (length lent) c own items tags) untagged 13 → e ≡ refusal_of lent 2 (response_shape false false) (response_shape t f) ((error ∷ c ∷ 2 ∷ n ∷ own ∷ []) ∷ items ∷ tags ∷ [])
  unfolding chosen
  fault_told lent f c own tags l g i = i ∙ ap (λ (x : ℕ). cond (judged (length lent) c own items tags) x 13) untagged_parts ∙ sym (refusal_is lent t f c 2 n own items tags error l h g)

-- ---- one behind the other, as calls with `&mut out[at..]` leave it

module _ (t : Bool) (x : ℕ) where
  pub throttle_there : t ≡ true → {d d' : List ℕ} {n : ℕ} → Put (bytes 4 x) d n d' → Capped (row_bytes [] (throttle_shape t end) (2 ∷ x ∷ [])) d n d'
  unfolding row_bytes bytes_at write write_basic value_of pop width basic_of chosen
  throttle_there h p = rw h (capped_as (sym (append-nil _)) (capped (put_step p)))

  pub throttle_lacking : t ≡ false → (d : List ℕ) → Capped (row_bytes [] (throttle_shape t end) (2 ∷ x ∷ [])) d 0 d
  unfolding row_bytes bytes_at write value_of
  throttle_lacking h d = rw h (capped (step_nothing d))

length_form : (f : Bool) (n : ℕ) → length_bytes (cond f (compact never) (fixed w32 never)) n ≡ length_bytes (Rows.items f) n
unfolding length_bytes
length_form true n = refl
length_form false n = refl

module _ {d d₁ e : List ℕ} {n m : ℕ} (at : ℕ) (h : at ≡ min n (length d₁)) (r : ℕ) (k : cap r ≡ cap (n + m)) where
  pub array_put : (f : Bool) (lent items tags : List ℕ) → length items < 2 ^ 64 → (o : Form) → size_of o ≡ cond f (compact never) (fixed w32 never) → Put (length_bytes (size_of o) (length items / 4)) d n d₁ →
      Capped (items_bytes lent (item_shape f) (length items / 4) 1 ([] ∷ items ∷ tags ∷ [])) (mid_of at (length d₁ - at) d₁) m e → Capped (bytes_at lent (array (Rows.items f) 1 (item_shape f) end) 0 ((length items / 4 ∷ []) ∷ items ∷ tags ∷ [])) d r (put_mid at (length d₁ - at) d₁ e)
  array_put f lent items tags l o i p q =
      capped_as
      (sym (array_bytes lent f (length items / 4) [] items tags ∙ ap (λ (j : ℕ). length_bytes (Rows.items f) j ++ items_bytes lent (item_shape f) j 1 ([] ∷ items ∷ tags ∷ [])) (few_told (length items / 4) (omega arith))))
      (capped_behind (capped_as (ap (λ (z : Size). length_bytes z (length items / 4)) i ∙ length_form f (length items / 4)) (capped (put_step p))) at h q r k)

  pub end_put : (t f : Bool) (lent : List ℕ) (x : ℕ) (table : List ℕ) → length table < 2 ^ 64 → Capped (row_bytes [] (throttle_shape t end) (2 ∷ x ∷ [])) d n d₁ → Capped (cond f (counted_bytes lent tag_shape plain 3 table) []) (mid_of at (length d₁ - at) d₁) m e →
      Capped (bytes_at lent (throttle_shape t (tags_shape f 2)) 0 ((2 ∷ x ∷ length table / 3 ∷ []) ∷ [] ∷ table ∷ [])) d r (put_mid at (length d₁ - at) d₁ e)
  end_put t f lent x table l p q = capped_as (sym (end_bytes lent 2 x (length table / 3) [] table t f (λ u. few_told (length table / 3) (omega arith)))) (capped_behind p at h q r k)

  pub rest_put : (t f : Bool) (lent : List ℕ) (x own : ℕ) (items tags : List ℕ) → length items < 2 ^ 64 → length tags < 2 ^ 64 → count own + sum (told 3) (rows_of 4 items) ≡ length tags / 3 → {i : ℕ} → i ≡ count own → (j : ℕ) → j ≡ (length tags / 3 - i) * 3 →
      Capped (bytes_at lent (array (Rows.items f) 1 (item_shape f) end) 0 ((length items / 4 ∷ []) ∷ items ∷ tags ∷ [])) d n d₁ →
      Capped (bytes_at lent (throttle_shape t (tags_shape f 2)) 0 ((2 ∷ x ∷ length (take (length tags - j) (drop j tags)) / 3 ∷ []) ∷ [] ∷ take (length tags - j) (drop j tags) ∷ [])) (mid_of at (length d₁ - at) d₁) m e →
      Capped (bytes_at lent (array (Rows.items f) 1 (item_shape f) (throttle_shape t (tags_shape f 2))) 0 ((length items / 4 ∷ 2 ∷ x ∷ own ∷ []) ∷ items ∷ tags ∷ [])) d r (put_mid at (length d₁ - at) d₁ e)
  rest_put t f lent x own items tags l s g {i} y j z p q = capped_as (sym (rest_bytes lent t f (length items / 4) 2 x own items tags few g)) (capped_behind (capped_as front p) at h (capped_as back q) r k)
    where
      few : count (length items / 4) ≡ length items / 4
      few = few_told (length items / 4) (omega arith)

      front : bytes_at lent (array (Rows.items f) 1 (item_shape f) end) 0 ((length items / 4 ∷ []) ∷ items ∷ tags ∷ []) ≡ length_bytes (Rows.items f) (length items / 4) ++ items_bytes lent (item_shape f) (length items / 4) 1 ([] ∷ items ∷ tags ∷ [])
      front = array_bytes lent f (length items / 4) [] items tags ∙ ap (λ (v : ℕ). length_bytes (Rows.items f) v ++ items_bytes lent (item_shape f) v 1 ([] ∷ items ∷ tags ∷ [])) few

      table : take (length tags - j) (drop j tags) ≡ drop ((length tags / 3 - count own) * 3) tags
      table = take_all (length tags - j) (drop j tags) (omega (arith, length-drop j tags)) ∙ ap (λ (v : ℕ). drop v tags) (z ∙ ap (λ (v : ℕ). (length tags / 3 - v) * 3) y)

      back : bytes_at lent (throttle_shape t (tags_shape f 2)) 0 ((2 ∷ x ∷ length (take (length tags - j) (drop j tags)) / 3 ∷ []) ∷ [] ∷ take (length tags - j) (drop j tags) ∷ []) ≡ row_bytes [] (throttle_shape t end) (2 ∷ x ∷ []) ++ cond f (counted_bytes lent tag_shape plain 3 (drop ((length tags / 3 - count own) * 3) tags)) []
      back =
          ap (λ (v : List ℕ). bytes_at lent (throttle_shape t (tags_shape f 2)) 0 ((2 ∷ x ∷ length v / 3 ∷ []) ∷ [] ∷ v ∷ [])) table
          ∙ end_bytes lent 2 x _ [] (drop ((length tags / 3 - count own) * 3) tags) t f (λ u. few_told _ (omega (arith, length-drop ((length tags / 3 - count own) * 3) tags)))

  pub response_put : (t f : Bool) (lent : List ℕ) (error c x own : ℕ) (items tags : List ℕ) → Put (bytes 2 error) d n d₁ → Capped (bytes_at lent (array (Rows.items f) 1 (item_shape f) (throttle_shape t (tags_shape f 2))) 0 ((c ∷ 2 ∷ x ∷ own ∷ []) ∷ items ∷ tags ∷ [])) (mid_of at (length d₁ - at) d₁) m e →
      Capped (bytes_at lent (response_shape t f) 0 ((error ∷ c ∷ 2 ∷ x ∷ own ∷ []) ∷ items ∷ tags ∷ [])) d r (put_mid at (length d₁ - at) d₁ e)
  response_put t f lent error c x own items tags p q = capped_as (sym (response_bytes lent t f c 2 x own items tags error)) (capped_behind (capped (put_step p)) at h q r k)

-- ---- the call's promise from that of a known version, where n is the throttle time, 0 if unset

module _ (lent : List ℕ) (error c own : ℕ) (items tags out : List ℕ) (l : length lent < 2 ^ 64) (h : Cells items) (i : Cells tags) (s : length items < 2 ^ 64) (v : ℕ) (k : v ≤ 3) where
  abbrev rows : List ℕ → Tables
  rows cs = (error ∷ c ∷ (cs ++ (own ∷ []))) ∷ items ∷ tags ∷ []

  abbrev refusal : List ℕ → ℕ
  refusal cs = refusal_of lent 2 (response_shape false false) (response_shape (leb 1 v) (leb 3 v)) (rows cs)

  same_refusal : (q : Option ℕ) → refusal (versioned_cells q) ≡ refusal (2 ∷ given 0 q ∷ [])
  unfolding chosen
  same_refusal None = refusal_is lent (leb 1 v) (leb 3 v) c 0 0 own items tags error l h i ∙ sym (refusal_is lent (leb 1 v) (leb 3 v) c 2 0 own items tags error l h i)
  same_refusal (Some n) = refl

  same_throttle : (t : Bool) (q : Option ℕ) → row_bytes [] (throttle_shape t end) (versioned_cells q) ≡ row_bytes [] (throttle_shape t end) (2 ∷ given 0 q ∷ [])
  unfolding row_bytes bytes_at write value_of pop width basic_of chosen
  same_throttle true None = refl
  same_throttle false None = refl
  same_throttle t (Some n) = refl

  same_bytes : (t f : Bool) → judged (length lent) c own items tags ≡ true → (q : Option ℕ) → bytes_at lent (response_shape t f) 0 (rows (versioned_cells q)) ≡ bytes_at lent (response_shape t f) 0 ((error ∷ length items / 4 ∷ 2 ∷ given 0 q ∷ own ∷ []) ∷ items ∷ tags ∷ [])
  same_bytes t f g q = go q
    where
      x : count c ≡ length items / 4
      x = good_items (length lent) c own items tags g

      y : count own + sum (told 3) (rows_of 4 items) ≡ length tags / 3
      y = good_tags (length lent) c own items tags g

      set : (n : ℕ) → bytes_at lent (response_shape t f) 0 ((error ∷ length items / 4 ∷ 2 ∷ n ∷ own ∷ []) ∷ items ∷ tags ∷ []) ≡ bytes 2 error ++ ((length_bytes (Rows.items f) (length items / 4) ++ items_bytes lent (item_shape f) (length items / 4) 1 ([] ∷ items ∷ tags ∷ [])) ++ (row_bytes [] (throttle_shape t end) (2 ∷ n ∷ []) ++ cond f (counted_bytes lent tag_shape plain 3 (drop ((length tags / 3 - count own) * 3) tags)) []))
      set n = response_bytes lent t f (length items / 4) 2 n own items tags error ∙ ap (λ (z : List ℕ). bytes 2 error ++ z) (rest_bytes lent t f (length items / 4) 2 n own items tags (few_told (length items / 4) (omega arith)) y)

      told_so : (k m n : ℕ) → row_bytes [] (throttle_shape t end) (k ∷ m ∷ []) ≡ row_bytes [] (throttle_shape t end) (2 ∷ n ∷ []) → bytes_at lent (response_shape t f) 0 ((error ∷ c ∷ k ∷ m ∷ own ∷ []) ∷ items ∷ tags ∷ []) ≡ bytes_at lent (response_shape t f) 0 ((error ∷ length items / 4 ∷ 2 ∷ n ∷ own ∷ []) ∷ items ∷ tags ∷ [])
      told_so k m n z =
          response_bytes lent t f c k m own items tags error
          ∙ ap (λ (w : List ℕ). bytes 2 error ++ w) (rest_bytes lent t f c k m own items tags x y ∙ ap (λ (w : List ℕ). (length_bytes (Rows.items f) (length items / 4) ++ items_bytes lent (item_shape f) (length items / 4) 1 ([] ∷ items ∷ tags ∷ [])) ++ (w ++ cond f (counted_bytes lent tag_shape plain 3 (drop ((length tags / 3 - count own) * 3) tags)) [])) z)
          ∙ sym (set n)

      go : (q : Option ℕ) → bytes_at lent (response_shape t f) 0 (rows (versioned_cells q)) ≡ bytes_at lent (response_shape t f) 0 ((error ∷ length items / 4 ∷ 2 ∷ given 0 q ∷ own ∷ []) ∷ items ∷ tags ∷ [])
      go None = told_so 0 0 0 (same_throttle t None)
      go (Some n) = told_so 2 n n refl

  pub response_written : (q : Option ℕ) (z : ℤ) → v ≡ version_of z → {n : ℕ} → n ≡ given 0 q → (r : Answer × List ℕ) →
      r ≡ write_alone (refusal (2 ∷ n ∷ [])) (bytes_at lent (response_shape (leb 1 v) (leb 3 v)) 0 ((error ∷ length items / 4 ∷ 2 ∷ n ∷ own ∷ []) ∷ items ∷ tags ∷ [])) out → r ≡ write_answer response z lent (rows (versioned_cells q)) out
  response_written q z e j r w =
      called response z v e k (omega arith) lent (rows (versioned_cells q)) out r _ _ w
      (rw (shape_is v k, shape_is 0 (lit≤ tt)) (same_refusal q ∙ ap (λ (n : ℕ). refusal (2 ∷ n ∷ [])) (sym j)))
      (rw (shape_is v k, shape_is 0 (lit≤ tt)) (λ g. same_bytes (leb 1 v) (leb 3 v) (rows_good q g) q ∙ ap (λ (n : ℕ). bytes_at lent (response_shape (leb 1 v) (leb 3 v)) 0 ((error ∷ length items / 4 ∷ 2 ∷ n ∷ own ∷ []) ∷ items ∷ tags ∷ [])) (sym j)))
    where
      rows_good : (q : Option ℕ) → good (length lent) 2 (response_shape false false) (rows (versioned_cells q)) ≡ true → judged (length lent) c own items tags ≡ true
      rows_good None g = sym (is_good (length lent) c own items tags error 0 0 ∙ sym (is_good (length lent) c own items tags 0 0 0)) ∙ g
      rows_good (Some n) g = sym (is_good (length lent) c own items tags error 2 n ∙ sym (is_good (length lent) c own items tags 0 0 0)) ∙ g
