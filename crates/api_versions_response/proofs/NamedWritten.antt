-- The name of a refused write of a response: the definition blames what the walk over error, items and throttle time finds, with tags or without them, since they have no fault.
use mathlib.Core.Bool.{Bool, cond, false, true}
use mathlib.Core.List.{List, [], ◌++◌, ◌∷◌}
use mathlib.Core.Logic.{◌≢◌}
use mathlib.Core.Path.{◌∙◌, ◌≡◌, ap, refl, sym}
use Prim.Native.Nat.{◌%◌, ◌*◌, ◌+◌, ◌/◌, ◌<◌, ◌^◌, ◌≤◌, suc, zero, ℕ}
use native.Mathlib.Omega.{arith}
use lib.Dec.{eqb, leb, lit<}
use lib.IntN.{ℤ}
use lib.ListN.{drop, get_or, length, length-set, take}
use lib.Seq.{get_or-set_same}
use Rattle.layout.specs.Answers.{meant, named_fault, none_yet}
use Rattle.layout.specs.Messages.ApiVersions.{response}
use Rattle.layout.specs.Names.{Sought, begun, blame, blame_each, blamed, else, fieldless, name_fault, past, there}
use Rattle.layout.specs.Primitives.{holds, w16, w32}
use Rattle.layout.specs.Reading.{Refusal, nowhere}
use Rattle.layout.specs.Rows as Rows
use Rattle.layout.specs.Rows.{Shape, array, end, number}
use Rattle.layout.specs.Tables.{Tables, basic_of, chosen, chunks, count, pop, rows_of, sum, times, value_of, width}
use Rattle.layout.specs.Write.{basic_fault, unless}
use Rattle.layout.proofs.Tests.{by_test}
use Rattle.primitives.specs.Answers.{version_of}
use Rattle.primitives.proofs.Versions.{known}
use Rattle.names.specs.Walks.{many_begun}
use Rattle.body_reading.specs.Cells.{given, versioned_cells}
use Rattle.std.specs.Prelude.{Err, None, Ok, Option, Some}
use Rattle.body_reading.specs.Tagged.{tags_shape}
use Rattle.body_writing.specs.Blames.{Blamed, Cause, blame_at, items_blame, of_blamed, row_blame, rows_blame}
use Rattle.body_writing.specs.Writes.{refusal_of}
use Rattle.body_writing.proofs.Blaming.{array_blame, else_same, fields_of, joined_blame}
use Rattle.body_writing.proofs.Counts.{Cells, cells_drop, few_told}
use Rattle.body_writing.proofs.NamedFaults.{cause_good, no_field}
use Rattle.tagged_fields.proofs.Blamed.{counts_long, others_kept, tags_past}
use Rattle.api_versions_response.specs.Blames.{response_blame}
use Rattle.api_versions_response.specs.ItemShapes.{key_front}
use Rattle.api_versions_response.specs.Shapes.{item_shape, response_shape, throttle_shape}
use Rattle.api_versions_response.proofs.Good.{good_items, is_good}
use Rattle.api_versions_response.proofs.Replies.{shape_is}
use Rattle.api_versions_response.proofs.Whole.{array_left, items_fit}
use Rattle.api_versions_response.proofs.ItemsWritten.{item_value, item_cells}

-- the throttle time that the cells k and n mean: 0, where it is unset
abbrev pub time_of : ℕ → ℕ → ℕ
time_of k n = get_or (chosen (0 ∷ []) (k ∷ n ∷ [])) 0 0

-- as many items were begun
record Same (c d : List ℕ) : Type 0 where
  rows : get_or c 1 0 ≡ get_or d 1 0
  one : 1 < length c
  other : 1 < length d

same_next : (n : ℕ) (c d : List ℕ) → Same c d → Same (many_begun n 2 (begun 1 c)) (begun 1 d)
same_next n c d h =
    let kept = others_kept 2 n 1 (begun 1 c) (λ i. omega arith) in
    let mine : get_or (begun 1 c) 1 0 ≡ (get_or c 1 0 + 1) % 2 ^ 64 = get_or-set_same c 1 _ 0 h.one in
    let its : get_or (begun 1 d) 1 0 ≡ (get_or d 1 0 + 1) % 2 ^ 64 = get_or-set_same d 1 _ 0 h.other in
    record {
      rows = kept ∙ mine ∙ ap (λ (k : ℕ). (k + 1) % 2 ^ 64) h.rows ∙ sym its;
      one = omega (arith, counts_long 2 n (begun 1 c), length-set c 1 ((get_or c 1 0 + 1) % 2 ^ 64), h.one);
      other = omega (arith, length-set d 1 ((get_or d 1 0 + 1) % 2 ^ 64), h.other);
    }

module _ (lent : List ℕ) (e : ℕ) (some : e ≢ 0) (m : ℕ) (x : Refusal) where
  -- ---- an item, the first row of `items` with the first rows of `tags`

  key_blame : (items tags : List ℕ) (j : ℕ) (d : List ℕ) → blame_at lent e key_front 1 ([] ∷ items ∷ tags ∷ []) j 0 d ≡ row_blame [] e key_front j 0 d (take 4 items)
  unfolding row_blame blame_at blame value_of pop width basic_of
  key_blame [] tags j d = refl
  key_blame (a ∷ []) tags j d = refl
  key_blame (a ∷ b ∷ []) tags j d = refl
  key_blame (a ∷ b ∷ c ∷ r) tags j d = refl

  -- the tags that it takes, where the version has them
  abbrev tags_of : Bool → List ℕ → ℕ
  tags_of f items = cond f (count (get_or (drop 1 (drop 1 (drop 1 items))) 0 0)) 0

  item_blame : (f : Bool) (items tags : List ℕ) → Cells tags → (j : ℕ) (d : List ℕ) → blame_at lent e (item_shape f) 1 ([] ∷ items ∷ tags ∷ []) j 0 d ≡ else (row_blame [] e key_front j 0 d (take 4 items)) (λ k. past (many_begun (tags_of f items) 2 k))
  unfolding value_of pop width
  item_blame f items tags g j d =
      joined_blame lent e (tags_shape f 2) key_front tt 1 ([] ∷ items ∷ tags ∷ []) j 0 d
      ∙ ap (λ (s : Sought). else s (λ k. blame_at lent e (tags_shape f 2) 1 ([] ∷ drop 1 (drop 1 (drop 1 items)) ∷ tags ∷ []) j (0 + fields_of key_front) k)) (key_blame items tags j d)
      ∙ else_same (row_blame [] e key_front j 0 d (take 4 items)) _ _ (tags_past lent e some 1 2 ([] ∷ drop 1 (drop 1 (drop 1 items)) ∷ tags ∷ []) (λ i. omega arith) (lit< tt) g f j (0 + fields_of key_front))

  -- ---- all items, and what comes after them

  -- one of three fields, or what comes after them: the next items, and then what comes after these
  three : (a b c : Bool) (j : ℕ) (k l : List ℕ) (n : ℕ) (g h u w : List ℕ → Sought) → blamed m x (else (g (many_begun n 2 k)) u) ≡ blamed m x (else (h l) w) →
      blamed m x (else (else (else (cond a (there j 0) (cond b (there j 1) (cond c (there j 2) (past k)))) (λ k. past (many_begun n 2 k))) g) u) ≡ blamed m x (else (else (cond a (there j 0) (cond b (there j 1) (cond c (there j 2) (past l)))) h) w)
  three true b c j k l n g h u w i = refl
  three false true c j k l n g h u w i = refl
  three false false true j k l n g h u w i = refl
  three false false false j k l n g h u w i = i

  test : ℕ → Bool
  test n = eqb (unless (holds w16 n) 11) e

  first_same : (r : List ℕ) (o j : ℕ) → o ≡ j → (k l : List ℕ) (n : ℕ) (g h u w : List ℕ → Sought) → blamed m x (else (g (many_begun n 2 k)) u) ≡ blamed m x (else (h l) w) →
      blamed m x (else (else (else (row_blame [] e key_front o 0 k r) (λ k. past (many_begun n 2 k))) g) u) ≡ blamed m x (else (else (row_blame [] e key_front j 0 l r) h) w)
  unfolding test row_blame blame_at blame basic_fault value_of pop width basic_of
  first_same r o j p k l n g h u w i =
      ap (λ (q : ℕ). blamed m x (else (else (else (row_blame [] e key_front q 0 k r) (λ k. past (many_begun n 2 k))) g) u)) p
      ∙ three (test (get_or (take 1 r) 0 0)) (test (get_or (take 1 (drop 1 r)) 0 0)) (test (get_or (take 1 (drop 1 (drop 1 r))) 0 0)) j k l n g h u w i

  module _ (f : Bool) (u w : List ℕ → Sought) (after : (c d : List ℕ) → blamed m x (u c) ≡ blamed m x (w d)) where
    abbrev rest : ℕ → List ℕ → List ℕ → List ℕ → List ℕ → Sought
    rest n cs items tags c = items_blame lent e (item_shape f) n 1 (cs ∷ items ∷ tags ∷ []) c

    abbrev flat_rest : ℕ → List ℕ → List ℕ → Sought
    flat_rest n items d = blame_each (λ j k r. row_blame [] e key_front j 0 k r) 1 (chunks n 4 items) d

    items_same : (n : ℕ) (cs items tags : List ℕ) → Cells tags → (c d : List ℕ) → Same c d → blamed m x (else (rest n cs items tags c) u) ≡ blamed m x (else (flat_rest n items d) w)
    unfolding items_blame blame_at times chunks blame_each
    items_same zero cs items tags g c d h = after c d
    items_same (suc n) cs items tags g c d h =
        rw (item_value lent f cs items tags)
        (ap (λ (s : Sought). blamed m x (else (else s (rest n cs (drop 4 items) (drop (item_cells f items) tags))) u)) (item_blame f items tags g (get_or c 1 0) (begun 1 c))
        ∙ first_same (take 4 items) (get_or c 1 0) (get_or d 1 0) h.rows (begun 1 c) (begun 1 d) (tags_of f items) (rest n cs (drop 4 items) (drop (item_cells f items) tags)) (flat_rest n (drop 4 items)) u w
        (items_same n cs (drop 4 items) (drop (item_cells f items) tags) (cells_drop (item_cells f items) tags g) (many_begun (tags_of f items) 2 (begun 1 c)) (begun 1 d) (same_next (tags_of f items) c d h)))

  same_field : (b : Bool) (f : ℕ) (s u : Sought) → blamed m x s ≡ blamed m x u → blamed m x (cond b (there nowhere f) s) ≡ blamed m x (cond b (there nowhere f) u)
  same_field true f s u h = refl
  same_field false f s u h = h

  -- ---- what comes after the items: k and n are the cells of the throttle time, `own` that of the body's own tags

  module _ (k n own : ℕ) (items tags : List ℕ) (g : Cells tags) where
    after_items : (t f : Bool) (c d : List ℕ) → blamed m x (blame_at lent e (throttle_shape t (tags_shape f 2)) 0 ((k ∷ n ∷ own ∷ []) ∷ items ∷ tags ∷ []) nowhere 2 c) ≡ blamed m x (row_blame [] e (throttle_shape t end) nowhere 2 d (2 ∷ time_of k n ∷ []))
    unfolding row_blame blame_at blame basic_fault value_of pop width basic_of chosen
    after_items true f c d = same_field (eqb (unless (holds w32 (time_of k n)) 11) e) 2 _ _ (ap (blamed m x) (tags_past lent e some 0 2 ((own ∷ []) ∷ items ∷ tags ∷ []) (λ i. omega arith) (lit< tt) g f nowhere 3 c))
    after_items false f c d = ap (blamed m x) (tags_past lent e some 0 2 ((own ∷ []) ∷ items ∷ tags ∷ []) (λ i. omega arith) (lit< tt) g f nowhere 2 c)

  -- ---- the body row: error, number of items, throttle time (kind, number), number of tags

  error_else : (b : Bool) (c : List ℕ) (g : List ℕ → Sought) → cond b (there nowhere 0) (g c) ≡ else (cond b (there nowhere 0) (past c)) g
  error_else true c g = refl
  error_else false c g = refl

  module _ (t f : Bool) (error c k n own : ℕ) (items tags : List ℕ) (rows : count c ≡ length items / 4) (g : Cells tags) (d : List ℕ) (long : 1 < length d) where
    abbrev cells : List ℕ
    cells = k ∷ n ∷ own ∷ []

    abbrev ending : Shape
    ending = throttle_shape t (tags_shape f 2)

    -- the walk over what comes after the items, of the definition and of the parts
    abbrev after : List ℕ → Sought
    after l = blame_at lent e ending 0 (cells ∷ drop (count c * 4) items ∷ drop (sum (item_cells f) (chunks (count c) 4 items)) tags ∷ []) nowhere 2 l

    abbrev time_after : List ℕ → Sought
    time_after l = row_blame [] e (throttle_shape t end) nowhere 2 l (2 ∷ time_of k n ∷ [])

    items_parts : blamed m x (blame_at lent e (array (Rows.items f) 1 (item_shape f) ending) 0 ((c ∷ cells) ∷ items ∷ tags ∷ []) nowhere 1 d) ≡ blamed m x (else (rows_blame [] e key_front 4 1 items d) time_after)
    unfolding rows_blame rows_of
    items_parts =
        ap (blamed m x) (array_blame lent e nowhere 1 d 0 ((c ∷ cells) ∷ items ∷ tags ∷ []) (Rows.items f) 1 (item_shape f) ending (λ i. some (sym i ∙ items_fit f (count c))))
        ∙ ap (λ (st : Tables). blamed m x (else (items_blame lent e (item_shape f) (count c) 1 (cells ∷ items ∷ tags ∷ []) d) (λ l. blame_at lent e ending 0 st nowhere 2 l))) (array_left lent f c cells items tags)
        ∙ items_same f after time_after (after_items k n own (drop (count c * 4) items) (drop (sum (item_cells f) (chunks (count c) 4 items)) tags) (cells_drop (sum (item_cells f) (chunks (count c) 4 items)) tags g) t f) (count c) cells items tags g d d (record { rows = refl; one = long; other = long })
        ∙ ap (λ (j : ℕ). blamed m x (else (blame_each (λ j k r. row_blame [] e key_front j 0 k r) 1 (chunks j 4 items) d) time_after)) rows

    pub response_parts : blamed m x (blame_at lent e (response_shape t f) 0 ((error ∷ c ∷ cells) ∷ items ∷ tags ∷ []) nowhere 0 d) ≡ blamed m x (response_blame e t error (time_of k n) items d)
    unfolding test response_blame row_blame blame_at blame basic_fault value_of pop width basic_of
    response_parts = same_field (test error) 0 _ _ items_parts ∙ ap (blamed m x) (error_else (test error) d (λ l. else (rows_blame [] e key_front 4 1 items l) time_after))

-- ---- the name

module _ (x : Refusal) (some : x.number ≢ 0) where
  name_parts : (lent : List ℕ) (t f : Bool) (error c k n own : ℕ) (items tags : List ℕ) → count c ≡ length items / 4 → Cells tags → fieldless x.number ≡ false →
      name_fault 2 (response_shape t f) none_yet (meant lent ((error ∷ c ∷ k ∷ n ∷ own ∷ []) ∷ items ∷ tags ∷ []) (response_shape t f)) x ≡ blamed 2 x (response_blame x.number t error (time_of k n) items none_yet)
  unfolding name_fault meant blame_at
  name_parts lent t f error c k n own items tags rows g h = rw h (response_parts lent x.number some 2 x t f error c k n own items tags rows g none_yet (lit< tt))

  module _ (t : Bool) (error n : ℕ) (items : List ℕ) (s : length items < 2 ^ 64) where
    -- the body that is walked over
    abbrev untagged : Refusal
    untagged = name_fault 2 (response_shape t false) none_yet (meant [] ((error ∷ length items / 4 ∷ 2 ∷ n ∷ 0 ∷ []) ∷ items ∷ [] ∷ []) (response_shape t false)) x

    untagged_parts : fieldless x.number ≡ false → untagged ≡ blamed 2 x (response_blame x.number t error n items none_yet)
    unfolding chosen
    untagged_parts h = name_parts [] t false error (length items / 4) 2 n 0 items [] (few_told (length items / 4) (omega arith)) (λ i. lit< tt) h

    -- what the walk leaves of its counts has no part in the name
    pub by_parts : fieldless x.number ≡ false → (c : List ℕ) (o : Blamed) → of_blamed c o ≡ response_blame x.number t error n items none_yet → blamed 2 x (of_blamed [] o) ≡ untagged
    by_parts h c o d = go o ∙ ap (blamed 2 x) d ∙ sym (untagged_parts h)
      where
        go : (o : Blamed) → blamed 2 x (of_blamed [] o) ≡ blamed 2 x (of_blamed c o)
        go (Err a) = refl
        go (Ok u) = refl

-- the name that the call gives of its own row, where n is the throttle time, 0 if unset
module _ (lent : List ℕ) (error c own : ℕ) (items tags : List ℕ) (s : length items < 2 ^ 64) (g : Cells tags) (v : ℕ) (k : v ≤ 3) (x : Refusal) where
  whole_parts : x.number ≢ 0 → count c ≡ length items / 4 → fieldless x.number ≡ false → (q : Option ℕ) → name_fault 2 (response_shape (leb 1 v) (leb 3 v)) none_yet (meant lent ((error ∷ c ∷ (versioned_cells q ++ (own ∷ []))) ∷ items ∷ tags ∷ []) (response_shape (leb 1 v) (leb 3 v))) x ≡ blamed 2 x (response_blame x.number (leb 1 v) error (given 0 q) items none_yet)
  unfolding chosen
  whole_parts some rows h None = name_parts x some lent (leb 1 v) (leb 3 v) error c 0 0 own items tags rows g h
  whole_parts some rows h (Some n) = name_parts x some lent (leb 1 v) (leb 3 v) error c 2 n own items tags rows g h

  pub response_named : (q : Option ℕ) (z : ℤ) → v ≡ version_of z → {n : ℕ} → n ≡ given 0 q → Cause x.number (refusal_of lent 2 (response_shape false false) (response_shape (leb 1 v) (leb 3 v)) ((error ∷ c ∷ 2 ∷ n ∷ own ∷ []) ∷ items ∷ tags ∷ [])) → (r : Refusal) →
      r ≡ name_fault 2 (response_shape (leb 1 v) false) none_yet (meant [] ((error ∷ length items / 4 ∷ 2 ∷ n ∷ 0 ∷ []) ∷ items ∷ [] ∷ []) (response_shape (leb 1 v) false)) x → r ≡ named_fault response z lent ((error ∷ c ∷ (versioned_cells q ++ (own ∷ []))) ∷ items ∷ tags ∷ []) x
  unfolding named_fault
  response_named q z i {n} j t r w =
      w
      ∙ by_test (fieldless x.number) (λ h. sym (no_field 2 _ none_yet _ x h) ∙ no_field 2 _ none_yet _ x h)
      (λ h.
      untagged_parts x t.some (leb 1 v) error n items s h
      ∙ ap (λ (o : ℕ). blamed 2 x (response_blame x.number (leb 1 v) error o items none_yet)) j
      ∙ sym (whole_parts t.some (rows h) h q))
      ∙ ap (λ (l : Shape). name_fault 2 l none_yet (meant lent ((error ∷ c ∷ (versioned_cells q ++ (own ∷ []))) ∷ items ∷ tags ∷ []) l) x) (sym (shape_is v k))
      ∙ ap (λ (y : ℤ). named_fault response y lent ((error ∷ c ∷ (versioned_cells q ++ (own ∷ []))) ∷ items ∷ tags ∷ []) x) (known response z v i k (omega arith))
    where
      -- a fault is given of good tables alone
      rows : fieldless x.number ≡ false → count c ≡ length items / 4
      rows h = good_items (length lent) c own items tags (is_good (length lent) c own items tags 0 0 0 ∙ sym (is_good (length lent) c own items tags error 2 n) ∙ cause_good lent 2 (response_shape false false) (response_shape (leb 1 v) (leb 3 v)) ((error ∷ c ∷ 2 ∷ n ∷ own ∷ []) ∷ items ∷ tags ∷ []) x.number t h)
