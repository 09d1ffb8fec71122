-- What tables mean, its bytes and its first fault, for any layout: rows with no arrays, a row in two parts, and an array of rows.
use mathlib.Core.Bool.{Bool, ◌&&◌, cond, false, true}
use mathlib.Core.List.{List, [], ◌++◌, ◌∷◌, append_assoc, append-nil, map}
use mathlib.Core.Logic.{◌≢◌}
use mathlib.Core.Option.{none, some}
use mathlib.Core.Path.{◌∙◌, ◌≡◌, ap, ap₂, refl, sym}
use Prim.Native.Nat.{◌*◌, ◌+◌, ◌/◌, ◌<◌, suc, zero, ℕ}
use native.Mathlib.Omega.{arith}
use lib.Dec.{eqb, lit<}
use lib.ListN.{drop, get_or, length, length-set, set, take}
use lib.Seq.{drop-drop, get_or-set_other, get_or-set_same, get_or-take, set-get_or, set-set, take-take}
use Rattle.layout.specs.Primitives.{Size, compact, fixed, keeps, length_bytes, minus, null_bytes, plain, sized_bytes, w16, w32, w64, w8}
use Rattle.layout.specs.Rows.{Shape, Value, absent, array, end, field, lacking}
use Rattle.layout.specs.Tables.{Tables, basic_of, chunks, count, good, items_of, pop, row_width, rows_of, times, value_of, width}
use Rattle.layout.specs.Write.{basic_fault, each, fault, first_of, or, sized_fault, too_long, unless, write, write_basic}
use Rattle.body_writing.specs.Writes.{bytes_at, counted_bytes, fault_at, items_bytes, items_fault, refusal_of, row_bytes, row_fault, rows_bytes}
use Rattle.layout.proofs.Chunks.{drop_take}
use Rattle.body_writing.proofs.Faults.{or_none}
use Rattle.body_reading.proofs.Front.{Flat, onto}
use Rattle.body_writing.proofs.Turns.{each_map, first_map, times_many, times_rows}

none_long : (z : Size) → too_long z 0 ≡ 0
unfolding too_long unless
none_long (fixed w8 m) = refl
none_long (fixed w16 m) = refl
none_long (fixed w32 m) = refl
none_long (fixed w64 m) = refl
none_long (compact m) = refl
none_long plain = refl

or_assoc : (a b c : ℕ) → or a (or b c) ≡ or (or a b) c
unfolding or
or_assoc zero b c = refl
or_assoc (suc a) b c = refl

or_nothing : (a : ℕ) → a ≡ or 0 a
unfolding or
or_nothing a = refl

module _ (lent : List ℕ) where
  -- ---- a row with no arrays: its cells alone decide

  abbrev pub row_value : (l : Shape) → List ℕ → Value (List ℕ) l
  row_value l r = (value_of lent l 0 (r ∷ [])).0

  -- behind the first w cells of table o
  module _ (o w : ℕ) (st : Tables) (h : o < length st) (r : Shape)
      (rec : value_of lent r o (set st o (drop w (get_or st o []))) ≡ (row_value r (take (row_width r) (get_or (set st o (drop w (get_or st o []))) o [])), set (set st o (drop w (get_or st o []))) o (drop (row_width r) (get_or (set st o (drop w (get_or st o []))) o [])))) where
    abbrev cs : List ℕ
    cs = get_or st o []

    behind : (j : ℕ) → j ≡ w + row_width r → value_of lent r o (set st o (drop w cs)) ≡ (row_value r (drop w (take j cs)), set st o (drop j cs))
    behind j e =
        let same : get_or (set st o (drop w cs)) o [] ≡ drop w cs = get_or-set_same st o (drop w cs) [] h in
        rec
        ∙ (λ i. (row_value r (take (row_width r) (same i)), set (set st o (drop w cs)) o (drop (row_width r) (same i))))
        ∙ (λ i. (row_value r (sym (drop_take w (row_width r) j e cs) i), (set-set st o (drop w cs) (drop (row_width r) (drop w cs)) ∙ ap (set st o) (drop-drop (row_width r) w cs ∙ ap (λ (n : ℕ). drop n cs) (sym e))) i))

  pub flat_value : (l : Shape) → Flat l → (o : ℕ) (st : Tables) → o < length st → value_of lent l o st ≡ (row_value l (take (row_width l) (get_or st o [])), set st o (drop (row_width l) (get_or st o [])))
  unfolding value_of pop row_width
  flat_value end f o st h = λ i. (tt, sym (set-get_or st o []) i)
  flat_value (field k r) f o st h =
      let w : ℕ = width k in
      let cs : List ℕ = get_or st o [] in
      let b = behind o w st h r (flat_value r f o (set st o (drop w cs)) (omega (arith, length-set st o (drop w cs)))) (w + row_width r) refl in
      λ i. ((basic_of lent k (sym (take-take w (w + row_width r) cs (omega arith)) i), (b i).0), (b i).1)
  flat_value (absent k r) f o st h = behind o (width k) st h r (flat_value r f o (set st o (drop (width k) (get_or st o []))) (omega (arith, length-set st o (drop (width k) (get_or st o []))))) (width k + row_width r) refl
  flat_value (array z t i r) f o st h = absurd f
  flat_value (lacking z t i r) f o st h = behind o 1 st h r (flat_value r f o (set st o (drop 1 (get_or st o []))) (omega (arith, length-set st o (drop 1 (get_or st o []))))) (suc (row_width r)) (omega arith)

  -- wherever the row stands
  pub flat_own : (l : Shape) → Flat l → (o : ℕ) (st : Tables) → o < length st → (value_of lent l o st).0 ≡ row_value l (get_or st o [])
  flat_own l f o st h = ap (λ (x : Value (List ℕ) l × Tables). x.0) (flat_value l f o st h) ∙ sym (ap (λ (x : Value (List ℕ) l × Tables). x.0) (flat_value l f 0 (get_or st o [] ∷ []) (omega arith)))

  module _ (l : Shape) (f : Flat l) (o : ℕ) (st : Tables) (h : o < length st) where
    pub flat_bytes : bytes_at lent l o st ≡ row_bytes lent l (get_or st o [])
    unfolding bytes_at row_bytes
    flat_bytes = ap (write l) (flat_own l f o st h)

    pub flat_fault : fault_at lent l o st ≡ row_fault lent l (get_or st o [])
    unfolding fault_at row_fault
    flat_fault = ap (fault l) (flat_own l f o st h)

  -- the first n rows of a table
  module _ (l : Shape) (f : Flat l) (w : ℕ) (q : row_width l ≡ w) (n o : ℕ) (st : Tables) (h : o < length st) where
    pub flat_items : times n (value_of lent l o) st ≡ (map (row_value l) (chunks n w (get_or st o [])), set st o (drop (n * w) (get_or st o [])))
    flat_items = rw (← q) (times_rows (row_width l) o (value_of lent l o) (row_value l) (flat_value l f o) n st h)

    pub items_bytes_lem : each (write l) (times n (value_of lent l o) st).0 ≡ each (row_bytes lent l) (chunks n w (get_or st o []))
    unfolding bytes_at row_bytes
    items_bytes_lem = ap (λ (x : List (Value (List ℕ) l) × Tables). each (write l) x.0) flat_items ∙ each_map (row_value l) (write l) (row_bytes lent l) (λ r. refl) (chunks n w (get_or st o []))

    pub items_fault_lem : first_of (fault l) (times n (value_of lent l o) st).0 ≡ first_of (row_fault lent l) (chunks n w (get_or st o []))
    unfolding fault_at row_fault
    items_fault_lem = ap (λ (x : List (Value (List ℕ) l) × Tables). first_of (fault l) x.0) flat_items ∙ first_map (row_value l) (fault l) (row_fault lent l) (λ r. refl) (chunks n w (get_or st o []))

  -- ---- a row in two parts: the bytes of the second stand behind those of the first

  module _ (r : Shape) (o : ℕ) where
    -- the tables behind an array's items
    abbrev past : Size → ℕ → Shape → Tables → Tables
    past z t i st = (items_of (keeps z) (get_or (pop o 1 st).0 0 0) (value_of lent i t) (pop o 1 st).1).1

    module _ (l : Shape) (st : Tables) where
      more_bytes : (a : List ℕ) → bytes_at lent (onto l r) o st ≡ bytes_at lent l o st ++ bytes_at lent r o (value_of lent l o st).1 → a ++ bytes_at lent (onto l r) o st ≡ (a ++ bytes_at lent l o st) ++ bytes_at lent r o (value_of lent l o st).1
      more_bytes a e = ap (λ (x : List ℕ). a ++ x) e ∙ sym (append_assoc a (bytes_at lent l o st) (bytes_at lent r o (value_of lent l o st).1))

      more_fault : (a : ℕ) → fault_at lent (onto l r) o st ≡ or (fault_at lent l o st) (fault_at lent r o (value_of lent l o st).1) → or a (fault_at lent (onto l r) o st) ≡ or (or a (fault_at lent l o st)) (fault_at lent r o (value_of lent l o st).1)
      more_fault a e = ap (or a) e ∙ or_assoc a (fault_at lent l o st) (fault_at lent r o (value_of lent l o st).1)

    pub joined_bytes : (l : Shape) (st : Tables) → bytes_at lent (onto l r) o st ≡ bytes_at lent l o st ++ bytes_at lent r o (value_of lent l o st).1
    unfolding bytes_at write value_of
    joined_bytes end st = refl
    joined_bytes (field k l) st = more_bytes l (pop o (width k) st).1 (write_basic k (basic_of lent k (pop o (width k) st).0)) (joined_bytes l (pop o (width k) st).1)
    joined_bytes (absent k l) st = joined_bytes l (pop o (width k) st).1
    joined_bytes (array z t i l) st = more_bytes l (past z t i st) (sized_bytes (keeps z) z (λ xs. each (write i) xs) (items_of (keeps z) (get_or (pop o 1 st).0 0 0) (value_of lent i t) (pop o 1 st).1).0) (joined_bytes l (past z t i st))
    joined_bytes (lacking z t i l) st = joined_bytes l (pop o 1 st).1

    pub joined_fault : (l : Shape) (st : Tables) → fault_at lent (onto l r) o st ≡ or (fault_at lent l o st) (fault_at lent r o (value_of lent l o st).1)
    unfolding fault_at fault value_of
    joined_fault end st = or_nothing _
    joined_fault (field k l) st = more_fault l (pop o (width k) st).1 (basic_fault k (basic_of lent k (pop o (width k) st).0)) (joined_fault l (pop o (width k) st).1)
    joined_fault (absent k l) st = joined_fault l (pop o (width k) st).1
    joined_fault (array z t i l) st = more_fault l (past z t i st) (sized_fault (keeps z) z (λ xs. first_of (fault i) xs) (items_of (keeps z) (get_or (pop o 1 st).0 0 0) (value_of lent i t) (pop o 1 st).1).0) (joined_fault l (past z t i st))
    joined_fault (lacking z t i l) st = joined_fault l (pop o 1 st).1

  -- ---- an array, told by the cell c in front of its row's other cells, whose items are rows of table t with no arrays in them

  module _ (z : Size) where
    module _ {A : Type 0} (g : Tables → A × Tables) (c : ℕ) (st : Tables) where
      some_bytes : (b : Bool) (u : List A → List ℕ) → (b && eqb c minus) ≡ false → sized_bytes b z u (items_of b c g st).0 ≡ length_bytes z (count c) ++ u (times (count c) g st).0
      unfolding sized_bytes items_of
      some_bytes true u e = rw e (ap (λ (n : ℕ). length_bytes z n ++ u (times (count c) g st).0) (times_many g (count c) st))
      some_bytes false u e = ap (λ (n : ℕ). length_bytes z n ++ u (times (count c) g st).0) (times_many g (count c) st)

      none_bytes : (b : Bool) (u : List A → List ℕ) → (b && eqb c minus) ≡ true → sized_bytes b z u (items_of b c g st).0 ≡ null_bytes z
      unfolding sized_bytes items_of
      none_bytes true u e = rw e refl
      none_bytes false u e = let y : ◌≡◌ {A = ℕ} 0 1 = cc in absurd (omega arith)

      -- null has no items, and so no fault
      pub some_fault : (b : Bool) (u : List A → ℕ) → u [] ≡ 0 → sized_fault b z u (items_of b c g st).0 ≡ or (too_long z (count c)) (u (times (count c) g st).0)
      unfolding sized_fault items_of count times or unless
      some_fault true u v = go (eqb c minus) refl
        where
          go : (b : Bool) → eqb c minus ≡ b → sized_fault true z u (cond b none (some (times (cond b 0 c) g st).0)) ≡ or (too_long z (cond b 0 c)) (u (times (cond b 0 c) g st).0)
          go true e = sym (rw (v, none_long z))
          go false e = ap (λ (n : ℕ). or (too_long z n) (u (times c g st).0)) (times_many g c st)
      some_fault false u v = ap (λ (n : ℕ). or (too_long z n) (u (times (count c) g st).0)) (times_many g (count c) st)

    -- any items: their bytes stand behind their number, or null
    module _ (i : Shape) (o t : ℕ) (st : Tables) where
      abbrev cell : ℕ
      cell = get_or (get_or st o []) 0 0

      -- the tables behind the count
      abbrev su : Tables
      su = set st o (drop 1 (get_or st o []))

      first : get_or (take 1 (get_or st o [])) 0 0 ≡ cell
      first = get_or-take 1 (get_or st o []) 0 0 (omega arith)

      pub any_bytes : (keeps z && eqb cell minus) ≡ false → bytes_at lent (array z t i end) o st ≡ length_bytes z (count cell) ++ items_bytes lent i (count cell) t su
      unfolding bytes_at items_bytes write value_of pop
      any_bytes e =
          append-nil _
          ∙ ap (λ (c : ℕ). sized_bytes (keeps z) z (λ xs. each (write i) xs) (items_of (keeps z) c (value_of lent i t) su).0) first
          ∙ some_bytes (value_of lent i t) cell su (keeps z) (λ xs. each (write i) xs) e

      pub array_null : (keeps z && eqb cell minus) ≡ true → bytes_at lent (array z t i end) o st ≡ null_bytes z
      unfolding bytes_at write value_of pop
      array_null e =
          append-nil _
          ∙ ap (λ (c : ℕ). sized_bytes (keeps z) z (λ xs. each (write i) xs) (items_of (keeps z) c (value_of lent i t) su).0) first
          ∙ none_bytes (value_of lent i t) cell su (keeps z) (λ xs. each (write i) xs) e

      pub any_fault : fault_at lent (array z t i end) o st ≡ or (too_long z (count cell)) (items_fault lent i (count cell) t su)
      unfolding fault_at items_fault fault value_of pop first_of
      any_fault =
          or_none _
          ∙ ap (λ (c : ℕ). sized_fault (keeps z) z (λ xs. first_of (fault i) xs) (items_of (keeps z) c (value_of lent i t) su).0) first
          ∙ some_fault (value_of lent i t) cell su (keeps z) (λ xs. first_of (fault i) xs) refl

      -- items with no arrays in them
      module _ (f : Flat i) (w : ℕ) (q : row_width i ≡ w) (apart : t ≢ o) (there : t < length st) where
        abbrev table : List ℕ
        table = get_or st t []

        same : get_or su t [] ≡ table
        same = get_or-set_other st o t (drop 1 (get_or st o [])) [] apart

        inside : t < length su
        inside = omega (arith, there, length-set st o (drop 1 (get_or st o [])))

        pub array_bytes : (keeps z && eqb cell minus) ≡ false → bytes_at lent (array z t i end) o st ≡ length_bytes z (count cell) ++ each (row_bytes lent i) (chunks (count cell) w table)
        unfolding items_bytes
        array_bytes e = any_bytes e ∙ ap (λ (x : List ℕ). length_bytes z (count cell) ++ x) (items_bytes_lem i f w q (count cell) t su inside ∙ ap (λ (x : List ℕ). each (row_bytes lent i) (chunks (count cell) w x)) same)

        pub array_fault : fault_at lent (array z t i end) o st ≡ or (too_long z (count cell)) (first_of (row_fault lent i) (chunks (count cell) w table))
        unfolding items_fault
        array_fault = any_fault ∙ ap (λ (x : ℕ). or (too_long z (count cell)) x) (items_fault_lem i f w q (count cell) t su inside ∙ ap (λ (x : List ℕ). first_of (row_fault lent i) (chunks (count cell) w x)) same)

        -- all rows of the table are its items
        module _ (n : count cell ≡ length table / w) where
          pub all_bytes : (keeps z && eqb cell minus) ≡ false → bytes_at lent (array z t i end) o st ≡ counted_bytes lent i z w table
          unfolding counted_bytes rows_bytes rows_of
          all_bytes e = array_bytes e ∙ ap (λ (j : ℕ). length_bytes z j ++ each (row_bytes lent i) (chunks j w table)) n

        -- what stands behind it in its own row
        pub array_left : o < length st → get_or (value_of lent (array z t i end) o st).1 o [] ≡ drop 1 (get_or st o [])
        unfolding value_of pop items_of
        array_left h =
            ap (λ (u : Tables). get_or u o []) (rows_left (keeps z) (get_or (take 1 (get_or st o [])) 0 0))
            ∙ get_or-set_other su t o _ [] (λ e. apart (sym e))
            ∙ get_or-set_same st o (drop 1 (get_or st o [])) [] h
          where
            rows_left : (b : Bool) (c : ℕ) → (items_of b c (value_of lent i t) su).1 ≡ set su t (drop (count c * w) (get_or su t []))
            rows_left true c = ap (λ (x : List (Value (List ℕ) i) × Tables). x.1) (flat_items i f w q (count c) t su inside)
            rows_left false c = ap (λ (x : List (Value (List ℕ) i) × Tables). x.1) (flat_items i f w q (count c) t su inside)

  -- ---- a body that is an array and fields behind it

  module _ (z : Size) (i : Shape) (f : Flat i) (w : ℕ) (q : row_width i ≡ w) (c : ℕ) (table : List ℕ) where
    -- whatever cells stand behind the count
    only_bytes : (cs : List ℕ) → bytes_at lent (array z 1 i end) 0 ((c ∷ cs) ∷ table ∷ []) ≡ bytes_at lent (array z 1 i end) 0 ((c ∷ []) ∷ table ∷ [])
    only_bytes cs = go (keeps z && eqb c minus) refl
      where
        go : (b : Bool) → (keeps z && eqb c minus) ≡ b → bytes_at lent (array z 1 i end) 0 ((c ∷ cs) ∷ table ∷ []) ≡ bytes_at lent (array z 1 i end) 0 ((c ∷ []) ∷ table ∷ [])
        go true e = array_null z i 0 1 ((c ∷ cs) ∷ table ∷ []) e ∙ sym (array_null z i 0 1 ((c ∷ []) ∷ table ∷ []) e)
        go false e = array_bytes z i 0 1 ((c ∷ cs) ∷ table ∷ []) f w q (λ u. omega arith) (lit< tt) e ∙ sym (array_bytes z i 0 1 ((c ∷ []) ∷ table ∷ []) f w q (λ u. omega arith) (lit< tt) e)

    module _ (r : Shape) (g : Flat r) (cs : List ℕ) where
      abbrev st : Tables
      st = (c ∷ cs) ∷ table ∷ []

      left : Tables
      left = (value_of lent (array z 1 i end) 0 st).1

      own : get_or left 0 [] ≡ cs
      unfolding left
      own = array_left z i 0 1 st f w q (λ u. omega arith) (lit< tt) (lit< tt)

      long : 0 < length left
      unfolding left value_of pop items_of
      long = go (keeps z)
        where
          go : (b : Bool) → 0 < length (items_of b (get_or (take 1 (c ∷ cs)) 0 0) (value_of lent i 1) (cs ∷ table ∷ [])).1
          go true = rw (flat_items i f w q (count c) 1 (cs ∷ table ∷ []) (lit< tt)) (lit< tt)
          go false = rw (flat_items i f w q (count c) 1 (cs ∷ table ∷ []) (lit< tt)) (lit< tt)

      pub then_bytes : bytes_at lent (array z 1 i r) 0 st ≡ bytes_at lent (array z 1 i end) 0 ((c ∷ []) ∷ table ∷ []) ++ row_bytes lent r cs
      unfolding left
      then_bytes = joined_bytes r 0 (array z 1 i end) st ∙ ap₂ (λ (x y : List ℕ). x ++ y) (only_bytes cs) (flat_bytes r g 0 left long ∙ ap (row_bytes lent r) own)

      pub then_fault : fault_at lent (array z 1 i r) 0 st ≡ or (or (too_long z (count c)) (first_of (row_fault lent i) (chunks (count c) w table))) (row_fault lent r cs)
      unfolding left
      then_fault = joined_fault r 0 (array z 1 i end) st ∙ ap₂ or (array_fault z i 0 1 st f w q (λ u. omega arith) (lit< tt)) (flat_fault r g 0 left long ∙ ap (row_fault lent r) own)

-- no number is given: the tables are good
pub refusal_none : (lent : List ℕ) (n : ℕ) (a l : Shape) (st : Tables) {e : ℕ} → e ≡ refusal_of lent n a l st → e ≡ 0 → good (length lent) n a st ≡ true
unfolding refusal_of
refusal_none lent n a l st {e} j h = go (good (length lent) n a st) refl
  where
    go : (b : Bool) → good (length lent) n a st ≡ b → good (length lent) n a st ≡ true
    go true g = g
    go false g = absurd (let y : e ≡ 13 = j ∙ rw g in omega arith)

-- 13 comes first
module _ (lent : List ℕ) (n : ℕ) (a l : Shape) (st : Tables) {g : Bool} (e : g ≡ good (length lent) n a st) where
  pub refusal_bad : g ≡ false → 13 ≡ refusal_of lent n a l st
  unfolding refusal_of
  refusal_bad h = sym (rw (← e, h))

  pub refusal_good : g ≡ true → (r : ℕ) → r ≡ fault_at lent l 0 st → r ≡ refusal_of lent n a l st
  unfolding refusal_of
  refusal_good h r i = i ∙ sym (rw (← e, h))
