-- Rows of one table that each take rows of another from its front, as topics take partitions: what they mean, the tables behind them, and a loop over them, for whatever is made of a row. Then those that have fields and an array, whose items are rows of the other table: the bytes and the first fault of such a row, for any fields, widths and lengths.
use mathlib.Core.List.{List, [], ◌++◌, ◌∷◌}
use mathlib.Core.Path.{◌∙◌, ◌≡◌, ap, ap₂, refl, sym}
use mathlib.Core.Bool.{Bool, ◌&&◌, cond, false, true}
use mathlib.Core.Logic.{◌≢◌}
use mathlib.Core.Option.{none, some}
use Prim.Native.Nat.{◌*◌, ◌+◌, ◌-◌, ◌/◌, ◌<◌, ◌≤◌, min, suc, zero, ℕ}
use native.Mathlib.Nat.{add-mul, add-zero, div-eq_of_lt, div-eq-sub-div}
use native.Mathlib.Omega.{arith}
use native.Mathlib.Numerals.{add-one}
use lib.ListN.{drop, get_or, length, length-drop, take}
use lib.Seq.{drop-drop, get_or-drop, get_or-take, take_all}
use lib.Dec.{eqb, lit<}
use borrow.Rule.Slice.PartMut.{mid_of, put_mid}
use Rattle.layout.specs.Tables.{Tables, basic_of, chunks, count, items_of, pop, row_width, rows_of, sum, times, value_of, width}
use Rattle.layout.specs.Write.{each, first_of, or, too_long, write}
use Rattle.primitives_put.specs.Step.{Capped, cap}
use Rattle.layout.specs.Primitives.{Size, keeps, length_bytes, minus}
use Rattle.layout.specs.Rows.{Shape, Value, absent, array, end, field, lacking}
use Rattle.body_writing.specs.Writes.{bytes_at, counted_bytes, fault_at, items_bytes, items_fault, row_bytes, row_fault, rows_bytes, rows_fault, takes}
use Rattle.primitives_put.proofs.Capped.{capped_all, capped_as, capped_next, capped_none}
use Rattle.layout.proofs.Chunks.{chunks_many, rows_first, rows_many, rows_part}
use Rattle.body_reading.proofs.Front.{Flat, onto}
use Rattle.body_writing.proofs.Turns.{behind, behind_next, behind_none, or_first, or_second, times_at, times_many}
use Rattle.body_writing.proofs.Writes.{array_bytes, array_fault, flat_bytes, flat_fault, flat_items, flat_value, joined_bytes, joined_fault}

-- rows that tell so many rows of k cells each
pub sum_cells : (g : List ℕ → ℕ) (k : ℕ) (rs : List (List ℕ)) → sum (λ r. g r * k) rs ≡ sum g rs * k
unfolding sum
sum_cells g k [] = let none : 0 ≡ 0 * k = omega arith in none
sum_cells g k (r ∷ rs) = ap (λ (n : ℕ). g r * k + n) (sum_cells g k rs) ∙ sym (add-mul (g r) (sum g rs) k)

-- ---- what rows of w cells take of another table is there

-- `left` and `free` are what is left of the two tables: t is told of a row's cells in `others`
pub record Enough (w : ℕ) (t : List ℕ → ℕ) (others left free : List ℕ) : Type 0 where
  pub short : length free ≤ length others
  pub enough : sum t (rows_of w left) ≤ length free

module _ (w : ℕ) (t : List ℕ → ℕ) (others : List ℕ) where
  pub enough_start : (items : List ℕ) → sum t (rows_of w items) ≤ length others → Enough w t others items others
  enough_start items h = record { short = omega arith; enough = h }

  module _ (z : 0 < w) (first : (cs : List ℕ) → t (take w cs) ≡ t cs) {left free : List ℕ} (a : Enough w t others left free) (h : w ≤ length left) where
    -- what the next row tells, and those behind it
    first_told : sum t (rows_of w left) ≡ t left + sum t (rows_of w (drop w left))
    unfolding sum
    first_told = ap (sum t) (rows_first w left z h) ∙ ap (λ (c : ℕ). c + sum t (rows_of w (drop w left))) (first left)

    pub enough_here : t left ≤ length free
    enough_here = omega (arith, first_told, a.enough)

    -- behind it, where it took c
    pub enough_more : (c : ℕ) → c ≤ t left → Enough w t others (drop w left) (take (length free - c) (drop c free))
    enough_more c l =
        let y : take (length free - c) (drop c free) ≡ drop c free = take_all (length free - c) (drop c free) (omega (arith, length-drop c free)) in
        rw y (record { short = omega (arith, a.short, length-drop c free); enough = omega (arith, first_told, a.enough, length-drop c free) })

-- ---- what they mean, and what is written of them

-- the first row of `items` means m, takes w cells of `items` and k of `others`, and leaves the body's own row alone
module _ {A : Type 0} (w : ℕ) (k : List ℕ → ℕ) (g : Tables → A × Tables) (m : List ℕ → List ℕ → A) (one : (own items others : List ℕ) → g (own ∷ items ∷ others ∷ []) ≡ (m items others, own ∷ drop w items ∷ drop (k items) others ∷ [])) where
  -- whatever stands in the body's own row
  pub own_apart : (n : ℕ) (a b items others : List ℕ) → (times n g (a ∷ items ∷ others ∷ [])).0 ≡ (times n g (b ∷ items ∷ others ∷ [])).0
  unfolding times
  own_apart zero a b items others = refl
  own_apart (suc n) a b items others = rw (one a items others, one b items others) (ap (λ (xs : List A). m items others ∷ xs) (own_apart n a b (drop w items) (drop (k items) others)))

  -- the tables behind n rows
  pub taken_state : ((items : List ℕ) → k (take w items) ≡ k items) → (n : ℕ) (own items others : List ℕ) → (times n g (own ∷ items ∷ others ∷ [])).1 ≡ own ∷ drop (n * w) items ∷ drop (sum k (chunks n w items)) others ∷ []
  unfolding times chunks sum
  taken_state first zero own items others = let none : 0 ≡ 0 * w = omega arith in ap (λ (j : ℕ). own ∷ drop j items ∷ others ∷ []) none
  taken_state first (suc n) own items others =
      let next : w + n * w ≡ suc n * w = omega arith in
      ap (λ (x : A × Tables). (times n g x.1).1) (one own items others)
      ∙ taken_state first n own (drop w items) (drop (k items) others)
      ∙ ap₂ (λ (x y : List ℕ). own ∷ x ∷ y ∷ []) (drop-drop (n * w) w items ∙ ap (λ (j : ℕ). drop j items) next)
      (drop-drop (sum k (chunks n w (drop w items))) (k items) others ∙ ap (λ (j : ℕ). drop (j + sum k (chunks n w (drop w items))) others) (sym (first items)))

  -- ---- the loop: t is told of a row's cells in `others`, and no more are taken

  module _ (t : List ℕ → ℕ) (u : A → List ℕ) (items others : List ℕ) where
    abbrev all : List A
    all = (times (length items / w) g ([] ∷ items ∷ others ∷ [])).0

    -- the bytes of the first rows stand there; `left` and `free` are what is left of the tables, with enough of `others`
    pub record Taking (d : List ℕ) (n : ℕ) (d' left free : List ℕ) : Type 0 where
      pub turn : ℕ
      pub rows : turn + length left / w ≡ length items / w
      pub state : behind g turn ([] ∷ items ∷ others ∷ []) ≡ [] ∷ left ∷ free ∷ []
      pub room : Enough w t others left free
      pub step : Capped (each u (take turn all)) d n d'

    pub taking_start : (d : List ℕ) → sum t (rows_of w items) ≤ length others → Taking d 0 d items others
    taking_start d h = record { turn = 0; rows = omega arith; state = behind_none g ([] ∷ items ∷ others ∷ []); room = enough_start w t others items h; step = capped_none u all d }

    module _ (z : 0 < w) {d : List ℕ} {n : ℕ} {d₁ left free : List ℕ} (a : Taking d n d₁ left free) where
      pub taking_end : length left < w → Capped (each u all) d n d₁
      taking_end h = capped_all u all a.turn (omega (arith, times_many g (length items / w) ([] ∷ items ∷ others ∷ []), a.rows, div-eq_of_lt h)) a.step

      module _ (first : (cs : List ℕ) → t (take w cs) ≡ t cs) (most : (cs : List ℕ) → k cs ≤ t cs) (h : w ≤ length left) where
        pub taking_enough : t left ≤ length free
        taking_enough = enough_here w t others z first a.room h

        one_less : length left / w ≡ length (drop w left) / w + 1
        one_less = div-eq-sub-div z h ∙ ap (λ (j : ℕ). j / w + 1) (sym (length-drop w left))

        pub taking_more : (at : ℕ) → at ≡ min n (length d₁) → (bs : List ℕ) → u (m left free) ≡ bs → {j : ℕ} {e : List ℕ} → Capped bs (mid_of at (length d₁ - at) d₁) j e → (r : ℕ) → cap r ≡ cap (n + j) → (c : ℕ) → c ≡ k left →
            Taking d r (put_mid at (length d₁ - at) d₁ e) (take (length left - w) (drop w left)) (take (length free - c) (drop c free))
        taking_more at i bs v {j} {e} s r q c b =
            let x : take (length left - w) (drop w left) ≡ drop w left = take_all (length left - w) (drop w left) (omega (arith, length-drop w left)) in
            let y : take (length free - c) (drop c free) ≡ drop (k left) free = take_all (length free - c) (drop c free) (omega (arith, length-drop c free)) ∙ ap (λ (l : ℕ). drop l free) b in
            let f : u (get_or all a.turn (m left free)) ≡ bs =
            ap u (times_at g (length items / w) ([] ∷ items ∷ others ∷ []) a.turn (m left free) (omega (arith, a.rows, one_less)) ∙ ap (λ (st : Tables). (g st).0) a.state ∙ ap (λ (p : A × Tables). p.0) (one [] left free))
            ∙ v
            in
            record {
              turn = a.turn + 1;
              rows = ap (λ (l : List ℕ). a.turn + 1 + length l / w) x ∙ omega (arith, a.rows, one_less);
              state = behind_next g a.turn ([] ∷ items ∷ others ∷ []) ∙ ap (λ (st : Tables). (g st).1) a.state ∙ ap (λ (p : A × Tables). p.1) (one [] left free) ∙ sym (ap₂ (λ (l o : List ℕ). [] ∷ l ∷ o ∷ []) x y);
              room = rw x (enough_more w t others z first a.room h c (omega (arith, b, most left)));
              step = capped_next u all a.turn (m left free) (omega (arith, times_many g (length items / w) ([] ∷ items ∷ others ∷ []), a.rows, one_less)) a.step at i (capped_as (sym f) s) r q;
            }

module _ (lent : List ℕ) (z : Size) (i : Shape) (f : Flat i) (w : ℕ) (q : row_width i ≡ w) where
  -- ---- what a row takes

  abbrev pub row : Shape → Shape
  row p = onto p (array z 2 i end)

  -- whatever stands in the body's own row
  apart : (b : Bool) (c : ℕ) (own items others : List ℕ) → items_of b c (value_of lent i 2) (own ∷ items ∷ others ∷ [])
      ≡ ((items_of b c (value_of lent i 2) ([] ∷ items ∷ others ∷ [])).0, own ∷ items ∷ drop (count c * w) others ∷ [])
  unfolding items_of
  apart b c own items others = go b
    where
      x : times (count c) (value_of lent i 2) (own ∷ items ∷ others ∷ []) ≡ ((times (count c) (value_of lent i 2) ([] ∷ items ∷ others ∷ [])).0, own ∷ items ∷ drop (count c * w) others ∷ [])
      x =
          flat_items lent i f w q (count c) 2 (own ∷ items ∷ others ∷ []) (lit< tt)
          ∙ (λ t. (sym (ap (λ (y : List (Value (List ℕ) i) × Tables). y.0) (flat_items lent i f w q (count c) 2 ([] ∷ items ∷ others ∷ []) (lit< tt))) t, own ∷ items ∷ drop (count c * w) others ∷ []))

      go : (b : Bool) → items_of b c (value_of lent i 2) (own ∷ items ∷ others ∷ []) ≡ ((items_of b c (value_of lent i 2) ([] ∷ items ∷ others ∷ [])).0, own ∷ items ∷ drop (count c * w) others ∷ [])
      go true = λ t. (cond (eqb c minus) none (some (x t).0), (x t).1)
      go false = x

  abbrev pub meaning : (p : Shape) → List ℕ → List ℕ → Value (List ℕ) (row p)
  meaning p items others = (value_of lent (row p) 1 ([] ∷ items ∷ others ∷ [])).0

  later : (j k n : ℕ) → n ≡ j + k → (own items others : List ℕ) → ◌≡◌ {A = Tables} (own ∷ drop (suc k) (drop j items) ∷ drop (takes w k (drop j items)) others ∷ []) (own ∷ drop (suc n) items ∷ drop (takes w n items) others ∷ [])
  unfolding takes
  later j k n e own items others =
      let next : j + suc k ≡ suc n = omega arith in
      ap₂ (λ (x : List ℕ) (c : ℕ). own ∷ x ∷ drop (count c * w) others ∷ []) (drop-drop (suc k) j items ∙ ap (λ (m : ℕ). drop m items) next) (get_or-drop j items k 0 ∙ ap (λ (m : ℕ). get_or items m 0) (sym e))

  pub nested : (p : Shape) → Flat p → (own items others : List ℕ) → value_of lent (row p) 1 (own ∷ items ∷ others ∷ []) ≡ (meaning p items others, own ∷ drop (suc (row_width p)) items ∷ drop (takes w (row_width p) items) others ∷ [])
  unfolding value_of pop row_width takes
  nested end g own [] others = λ t. (((apart (keeps z) 0 own [] others t).0, tt), (apart (keeps z) 0 own [] others t).1)
  nested end g own (c ∷ items) others = λ t. (((apart (keeps z) c own items others t).0, tt), (apart (keeps z) c own items others t).1)
  nested (field k p) g own items others =
      let r = nested p g own (drop (width k) items) others in
      λ t. ((basic_of lent k (take (width k) items), (r t).0), (ap (λ (x : Value (List ℕ) (row p) × Tables). x.1) r ∙ later (width k) (row_width p) (width k + row_width p) refl own items others) t)
  nested (absent k p) g own items others =
      let r = nested p g own (drop (width k) items) others in
      λ t. ((r t).0, (ap (λ (x : Value (List ℕ) (row p) × Tables). x.1) r ∙ later (width k) (row_width p) (width k + row_width p) refl own items others) t)
  nested (array z' t i' p) g own items others = absurd g
  nested (lacking z' t i' p) g own items others =
      let r = nested p g own (drop 1 items) others in
      λ t. ((r t).0, (ap (λ (x : Value (List ℕ) (row p) × Tables). x.1) r ∙ later 1 (row_width p) (suc (row_width p)) (omega arith) own items others) t)

  -- ---- its bytes and its first fault; n cells stand in front of its count

  module _ (p : Shape) (g : Flat p) (n : ℕ) (s : row_width p ≡ n) (items others : List ℕ) where
    abbrev st : Tables
    st = [] ∷ items ∷ others ∷ []

    -- the tables after the fields
    pub fields_left : (value_of lent p 1 st).1 ≡ [] ∷ drop n items ∷ others ∷ []
    fields_left = ap (λ (x : Value (List ℕ) p × Tables). x.1) (flat_value lent p g 1 st (lit< tt)) ∙ ap (λ (j : ℕ). [] ∷ drop j items ∷ others ∷ []) s

    pub count_cell_lem : get_or (drop n items) 0 0 ≡ get_or items n 0
    count_cell_lem = get_or-drop n items 0 0 ∙ ap (λ (j : ℕ). get_or items j 0) (add-zero n)

    module _ (v : 0 < w) (k : takes w n items ≤ length others) where
      pub taken_rows : rows_of w (take (takes w n items) others) ≡ chunks (count (get_or items n 0)) w others
      unfolding takes
      taken_rows = rows_part (count (get_or items n 0)) w others v k

      many : length (take (takes w n items) others) / w ≡ count (get_or items n 0)
      many = sym (rows_many w (take (takes w n items) others)) ∙ ap length taken_rows ∙ chunks_many (count (get_or items n 0)) w others

      pub row_bytes_lem : (keeps z && eqb (get_or items n 0) minus) ≡ false → bytes_at lent (row p) 1 st ≡ row_bytes lent p items ++ counted_bytes lent i z w (take (takes w n items) others)
      unfolding counted_bytes rows_bytes
      row_bytes_lem e =
          joined_bytes lent (array z 2 i end) 1 p st
          ∙ ap₂ (λ (x y : List ℕ). x ++ y) (flat_bytes lent p g 1 st (lit< tt))
          (ap (bytes_at lent (array z 2 i end) 1) fields_left
          ∙ array_bytes lent z i 1 2 ([] ∷ drop n items ∷ others ∷ []) f w q (λ u. omega arith) (lit< tt) (ap (λ (c : ℕ). keeps z && eqb c minus) count_cell_lem ∙ e)
          ∙ ap (λ (c : ℕ). length_bytes z (count c) ++ each (row_bytes lent i) (chunks (count c) w others)) count_cell_lem
          ∙ ap₂ (λ (c : ℕ) (rs : List (List ℕ)). length_bytes z c ++ each (row_bytes lent i) rs) (sym many) (sym taken_rows))

      pub row_fault_lem : fault_at lent (row p) 1 st ≡ or (row_fault lent p items) (or (too_long z (count (get_or items n 0))) (rows_fault lent i w (take (takes w n items) others)))
      unfolding rows_fault
      row_fault_lem =
          joined_fault lent (array z 2 i end) 1 p st
          ∙ ap₂ or (flat_fault lent p g 1 st (lit< tt))
          (ap (fault_at lent (array z 2 i end) 1) fields_left
          ∙ array_fault lent z i 1 2 ([] ∷ drop n items ∷ others ∷ []) f w q (λ u. omega arith) (lit< tt)
          ∙ ap (λ (c : ℕ). or (too_long z (count c)) (first_of (row_fault lent i) (chunks (count c) w others))) count_cell_lem
          ∙ ap (λ (rs : List (List ℕ)). or (too_long z (count (get_or items n 0))) (first_of (row_fault lent i) rs)) (sym taken_rows))

-- ---- such rows one by one, as a loop takes them: `left` and `free` are what is left of the tables

-- the fields of such a row, which have `before` cells, and the array behind them, whose items have `wide` cells
pub record Nest : Type 0 where
  pub fields : Shape
  pub flat_fields : Flat fields
  pub before : ℕ
  pub is_before : row_width fields ≡ before
  pub size : Size
  pub item : Shape
  pub flat_item : Flat item
  pub wide : ℕ
  pub is_wide : row_width item ≡ wide

abbrev pub nest : Nest → Shape
nest x = onto x.fields (array x.size 2 x.item end)

module _ (x : Nest) (lent : List ℕ) where
  abbrev l : Shape
  l = nest x

  abbrev n : ℕ
  n = x.before

  abbrev w : ℕ
  w = x.wide

  abbrev value : List ℕ → List ℕ → Value (List ℕ) (nest x)
  value items others = (value_of lent (nest x) 1 ([] ∷ items ∷ others ∷ [])).0

  pub one : (own items others : List ℕ) → value_of lent l 1 (own ∷ items ∷ others ∷ []) ≡ (value items others, own ∷ drop (suc n) items ∷ drop (takes w n items) others ∷ [])
  one own items others =
      nested lent x.size x.item x.flat_item x.wide x.is_wide x.fields x.flat_fields own items others
      ∙ (λ t. (value items others, own ∷ drop (suc (x.is_before t)) items ∷ drop (takes w (x.is_before t) items) others ∷ []))

  pub takes_first : (cs : List ℕ) → takes w n (take (suc n) cs) ≡ takes w n cs
  unfolding takes
  takes_first cs = ap (λ (c : ℕ). count c * w) (get_or-take (suc n) cs n 0 (omega arith))

  module _ (items others : List ℕ) where
    -- the bytes of the first rows stand there
    abbrev pub Going : List ℕ → ℕ → List ℕ → List ℕ → List ℕ → Type 0
    Going = Taking (suc n) (takes w n) (value_of lent l 1) value one (takes w n) (write l) items others

    pub going_start : (d : List ℕ) → sum (takes w n) (rows_of (suc n) items) ≤ length others → Going d 0 d items others
    going_start = taking_start (suc n) (takes w n) (value_of lent l 1) value one (takes w n) (write l) items others

    module _ {d : List ℕ} {m : ℕ} {d₁ left free : List ℕ} (a : Going d m d₁ left free) where
      pub going_end : length left < suc n → Capped (items_bytes lent l (length items / suc n) 1 ([] ∷ items ∷ others ∷ [])) d m d₁
      unfolding items_bytes
      going_end = taking_end (suc n) (takes w n) (value_of lent l 1) value one (takes w n) (write l) items others (omega arith) a

      module _ (h : suc n ≤ length left) where
        pub going_enough : takes w n left ≤ length free
        going_enough = taking_enough (suc n) (takes w n) (value_of lent l 1) value one (takes w n) (write l) items others (omega arith) a takes_first (λ cs. omega arith) h

        pub going_more : (at : ℕ) → at ≡ min m (length d₁) → {j : ℕ} {e : List ℕ} → Capped (bytes_at lent l 1 ([] ∷ left ∷ free ∷ [])) (mid_of at (length d₁ - at) d₁) j e → (r : ℕ) → cap r ≡ cap (m + j) → (k : ℕ) → k ≡ takes w n left →
            Going d r (put_mid at (length d₁ - at) d₁ e) (take (length left - suc n) (drop (suc n) left)) (take (length free - k) (drop k free))
        unfolding bytes_at
        going_more at i s r y k t =
            taking_more (suc n) (takes w n) (value_of lent l 1) value one (takes w n) (write l) items others (omega arith) a takes_first (λ cs. omega arith) h at i (bytes_at lent l 1 ([] ∷ left ∷ free ∷ [])) refl s r y k t

    abbrev faults : List ℕ → List ℕ → ℕ
    faults left free = items_fault lent l (length left / suc n) 1 ([] ∷ left ∷ free ∷ [])

    -- no row so far has a fault, and those left decide
    pub record Clearing (left free : List ℕ) : Type 0 where
      pub same : faults left free ≡ faults items others
      pub room : Enough (suc n) (takes w n) others left free

    pub clearing_start : sum (takes w n) (rows_of (suc n) items) ≤ length others → Clearing items others
    clearing_start h = record { same = refl; room = enough_start (suc n) (takes w n) others items h }

    module _ {left free : List ℕ} (a : Clearing left free) where
      pub clearing_end : length left < suc n → 0 ≡ faults items others
      unfolding items_fault times first_of
      clearing_end h = sym (rw (div-eq_of_lt h)) ∙ a.same

      module _ (h : suc n ≤ length left) where
        pub clearing_enough : takes w n left ≤ length free
        clearing_enough = enough_here (suc n) (takes w n) others (omega arith) takes_first a.room h

        split : faults left free ≡ or (fault_at lent l 1 ([] ∷ left ∷ free ∷ [])) (faults (drop (suc n) left) (drop (takes w n left) free))
        unfolding items_fault fault_at times first_of
        split =
            let next : length left / suc n ≡ suc (length (drop (suc n) left) / suc n) = div-eq-sub-div (omega arith) h ∙ add-one ((length left - suc n) / suc n) ∙ ap (λ (j : ℕ). suc (j / suc n)) (sym (length-drop (suc n) left)) in
            rw (next, one [] left free)

        module _ (e : ℕ) (f : e ≡ fault_at lent l 1 ([] ∷ left ∷ free ∷ [])) where
          pub clearing_stop : e ≢ 0 → e ≡ faults items others
          clearing_stop k = or_first (fault_at lent l 1 ([] ∷ left ∷ free ∷ [])) _ e f k ∙ sym split ∙ a.same

          pub clearing_more : e ≡ 0 → (k : ℕ) → k ≡ takes w n left → Clearing (take (length left - suc n) (drop (suc n) left)) (take (length free - k) (drop k free))
          clearing_more y k t =
              let u : take (length left - suc n) (drop (suc n) left) ≡ drop (suc n) left = take_all (length left - suc n) (drop (suc n) left) (omega (arith, length-drop (suc n) left)) in
              let v : take (length free - k) (drop k free) ≡ drop (takes w n left) free = take_all (length free - k) (drop k free) (omega (arith, length-drop k free)) ∙ ap (λ (j : ℕ). drop j free) t in
              record {
                same = ap₂ faults u v ∙ or_second (fault_at lent l 1 ([] ∷ left ∷ free ∷ [])) _ e f y ∙ sym split ∙ a.same;
                room = rw u (enough_more (suc n) (takes w n) others (omega arith) takes_first a.room h k (omega (arith, t)));
              }
