-- The rows of the tables, each by itself: what is told of tables as a whole is told of their rows one by one. For every shape.
use mathlib.Core.Bool.{Bool, cond, false, true}
use mathlib.Core.List.{List, [], ◌++◌, ◌∷◌, map, map-append, map_congr_left, map-map}
use mathlib.Core.Path.{◌∙◌, ◌≡◌, ap, refl, subst, sym}
use Prim.Native.Nat.{◌+◌, ◌<◌, ◌≤◌, suc, zero, ℕ}
use native.Mathlib.Omega.{arith}
use lib.Dec.{eqb}
use lib.ListN.{drop, get_or, length, length-map, length-replicate, length-set, replicate, take}
use lib.Seq.{drop_at, drop-drop, get_or-set_other, get_or-set_same, get_or-take, take_at, take-take}
use Rattle.layout.specs.Reading.{ok}
use Rattle.layout.specs.Primitives.{keeps, minus}
use Rattle.layout.specs.Rows.{Shape, Value, absent, array, end, field, lacking}
use Rattle.layout.specs.Tables.{Span, Tables, absent_cells, append, cells, chunks, count, kind_of, pop, row_width, rows_of, slice, times, width}
use Rattle.layout.specs.Answers.{meant}
use Rattle.layout.specs.Settled.{Shown, gone, gone_count, num, settled_cells, settled_count, settled_row, shown_cells, shown_row}
use Rattle.layout.proofs.Link.{keep, link, list_map, map_maybe, map_value, over}
use Rattle.layout.proofs.Chunks.{drop_take}
use Rattle.layout.proofs.Contents.{Free, Tree, flatten, row_cells, rows_back, rows_wide, rows_in, tables_hold}
use Rattle.layout.proofs.Decode.{absent_width, cells_width}
use Rattle.layout.proofs.Every.{Within, list_of}
use Rattle.layout.proofs.Good.{Kinds, kinds_wide}
use Rattle.layout.proofs.Parts.{Eating}
use Rattle.layout.proofs.Parts as Parts
use Rattle.layout.proofs.Same.{same_tables}
use Rattle.layout.proofs.Settled.{Held, Telling, as_back, as_is, comes_settled, holds, map_cell, of_value, settled, shown, shown_absent, shown_basic, shown_lacking, told}
use Rattle.layout.proofs.Tests.{by_test, of_eq, of-ne}
use Rattle.layout.proofs.Trip.{Laid}

-- ---- one pop

length_pop : (o w : ℕ) (st : Tables) → length (pop o w st).1 ≡ length st
unfolding pop
length_pop o w st = length-set st o _

pop_same : (o w : ℕ) (st : Tables) → o < length st → get_or (pop o w st).1 o [] ≡ drop w (get_or st o [])
unfolding pop
pop_same o w st h = get_or-set_same st o _ [] h

pop_other : (t o w : ℕ) (st : Tables) → eqb t o ≡ false → get_or (pop o w st).1 t [] ≡ get_or st t []
unfolding pop
pop_other t o w st h = get_or-set_other st o t _ [] (of-ne t o h)

drop_one : (n : ℕ) (cs : List ℕ) → drop n (drop 1 cs) ≡ drop (suc n) cs
drop_one n cs = let e : 1 + n ≡ suc n = omega arith in drop-drop n 1 cs ∙ ap (λ (k : ℕ). drop k cs) e

-- ---- one row

module _ (h : Telling) where
  unfoldable pub row : Shape → List ℕ → List Shown
  row end cs = []
  row (field k r) cs = h.cells_of k (take (width k) cs) ++ row r (drop (width k) cs)
  row (absent k r) cs = h.absent_of k (take (width k) cs) ++ row r (drop (width k) cs)
  row (array z t i r) cs = num (h.count_of z (get_or cs 0 0)) ∷ row r (drop 1 cs)
  row (lacking z t i r) cs = num (h.lacked_of z (get_or cs 0 0)) ∷ row r (drop 1 cs)

row_shown : (b : List ℕ) (l : Shape) (cs : List ℕ) → shown_row b l cs ≡ row (as_is b) l cs
unfolding row shown_row
row_shown b end cs = refl
row_shown b (field k r) cs = ap (λ (s : List Shown). shown_cells b k (take (width k) cs) ++ s) (row_shown b r (drop (width k) cs))
row_shown b (absent k r) cs = ap (λ (s : List Shown). shown_cells b k (take (width k) cs) ++ s) (row_shown b r (drop (width k) cs))
row_shown b (array z t i r) cs = ap (λ (s : List Shown). num (get_or cs 0 0) ∷ s) (row_shown b r (drop 1 cs))
row_shown b (lacking z t i r) cs = ap (λ (s : List Shown). num (get_or cs 0 0) ∷ s) (row_shown b r (drop 1 cs))

row_settled : (b : List ℕ) (l : Shape) (cs : List ℕ) → settled_row b l cs ≡ row (as_back b) l cs
unfolding row settled_row
row_settled b end cs = refl
row_settled b (field k r) cs = ap (λ (s : List Shown). settled_cells b k (take (width k) cs) ++ s) (row_settled b r (drop (width k) cs))
row_settled b (absent k r) cs = ap (λ (s : List Shown). gone k ++ s) (row_settled b r (drop (width k) cs))
row_settled b (array z t i r) cs = ap (λ (s : List Shown). num (settled_count z (get_or cs 0 0)) ∷ s) (row_settled b r (drop 1 cs))
row_settled b (lacking z t i r) cs = ap (λ (s : List Shown). num (gone_count z) ∷ s) (row_settled b r (drop 1 cs))

-- ---- the own row and the other rows of what is told

abbrev pub own : (l : Shape) → Held l → List Shown
own end x = []
own (field k r) x = x.0 ++ own r x.1
own (absent k r) x = x.0 ++ own r x.1
own (array z t i r) x = num x.0.0 ∷ own r x.1
own (lacking z t i r) x = num x.0 ∷ own r x.1

unfoldable pub rows_held : ℕ → (l : Shape) → Held l → List (List Shown)
rows_held t end x = []
rows_held t (field k r) x = rows_held t r x.1
rows_held t (absent k r) x = rows_held t r x.1
rows_held t (array z u i r) x = flatten (λ y. cond (eqb t u) (own i y ∷ []) (rows_held t i y)) x.0.1 ++ rows_held t r x.1
rows_held t (lacking z u i r) x = rows_held t r x.1

-- the items of an array of table t are the rows of that table
kind_is : (t u : ℕ) (L i : Shape) → kind_of u L ≡ i → eqb t u ≡ true → i ≡ kind_of t L
kind_is t u L i k e = sym k ∙ ap (λ (n : ℕ). kind_of n L) (sym (of_eq t u e))

module _ (h : Telling) where
  length_times : {A : Type 0} (d : Tables → A × Tables) → ((st : Tables) → length (d st).1 ≡ length st) → (n : ℕ) (st : Tables) → length (times n d st).1 ≡ length st
  unfolding times
  length_times d k zero st = refl
  length_times d k (suc n) st = length_times d k n (d st).1 ∙ k st

  pub length_told : (l : Shape) (o : ℕ) (st : Tables) → length (told h l o st).1 ≡ length st
  unfolding told
  length_told end o st = refl
  length_told (field k r) o st = length_told r o _ ∙ length_pop o (width k) st
  length_told (absent k r) o st = length_told r o _ ∙ length_pop o (width k) st
  length_told (array z t i r) o st = length_told r o _ ∙ length_times (told h i t) (length_told i t) (count (get_or (pop o 1 st).0 0 0)) (pop o 1 st).1 ∙ length_pop o 1 st
  length_told (lacking z t i r) o st = length_told r o _ ∙ length_pop o 1 st

  times_leave : {A : Type 0} (t : ℕ) (d : Tables → A × Tables) → ((st : Tables) → get_or (d st).1 t [] ≡ get_or st t []) → (n : ℕ) (st : Tables) → get_or (times n d st).1 t [] ≡ get_or st t []
  unfolding times
  times_leave t d k zero st = refl
  times_leave t d k (suc n) st = times_leave t d k n (d st).1 ∙ k st

  -- a table that l does not name is left as it was
  leaves : (t : ℕ) (l : Shape) (o : ℕ) (st : Tables) → eqb t o ≡ false → Free t l → get_or (told h l o st).1 t [] ≡ get_or st t []
  unfolding told
  leaves t end o st a f = refl
  leaves t (field k r) o st a f = leaves t r o _ a f ∙ pop_other t o (width k) st a
  leaves t (absent k r) o st a f = leaves t r o _ a f ∙ pop_other t o (width k) st a
  leaves t (array z u i r) o st a f =
      leaves t r o _ a f.2 ∙ times_leave t (told h i u) (λ su. leaves t i u su f.0 f.1) (count (get_or (pop o 1 st).0 0 0)) (pop o 1 st).1 ∙ pop_other t o 1 st a
  leaves t (lacking z u i r) o st a f = leaves t r o _ a f ∙ pop_other t o 1 st a

  -- the own row is told from the front of its table, and is taken from there
  pub own_row : (l : Shape) (o : ℕ) (st : Tables) → o < length st → Free o l → own l (told h l o st).0 ≡ row h l (get_or st o [])
  unfolding told row pop
  own_row end o st a f = refl
  own_row (field k r) o st a f =
      (λ i. h.cells_of k (take (width k) (get_or st o [])) ++ (own_row r o (pop o (width k) st).1 (subst (λ (n : ℕ). o < n) (sym (length_pop o (width k) st)) a) f ∙ ap (row h r) (pop_same o (width k) st a)) i)
  own_row (absent k r) o st a f =
      (λ i. h.absent_of k (take (width k) (get_or st o [])) ++ (own_row r o (pop o (width k) st).1 (subst (λ (n : ℕ). o < n) (sym (length_pop o (width k) st)) a) f ∙ ap (row h r) (pop_same o (width k) st a)) i)
  own_row (array z t i r) o st a f =
      let S = (pop o 1 st).1 in
      let n = count (get_or (pop o 1 st).0 0 0) in
      let c = get_or-take 1 (get_or st o []) 0 0 (omega arith) in
      let e : get_or (times n (told h i t) S).1 o [] ≡ drop 1 (get_or st o []) = times_leave o (told h i t) (λ su. leaves o i t su f.0 f.1) n S ∙ pop_same o 1 st a in
      let b : o < length (times n (told h i t) S).1 = subst (λ (m : ℕ). o < m) (sym (length_times (told h i t) (length_told i t) n S ∙ length_pop o 1 st)) a in
      λ j. num (h.count_of z (c j)) ∷ (own_row r o (times n (told h i t) S).1 b f.2 ∙ ap (row h r) e) j
  own_row (lacking z t i r) o st a f =
      let c = get_or-take 1 (get_or st o []) 0 0 (omega arith) in
      λ j. num (h.lacked_of z (c j)) ∷ (own_row r o (pop o 1 st).1 (subst (λ (n : ℕ). o < n) (sym (length_pop o 1 st)) a) f ∙ ap (row h r) (pop_same o 1 st a)) j

  own_left : (l : Shape) (o : ℕ) (st : Tables) → o < length st → Free o l → get_or (told h l o st).1 o [] ≡ drop (row_width l) (get_or st o [])
  unfolding told row_width
  own_left end o st a f = refl
  own_left (field k r) o st a f =
      own_left r o (pop o (width k) st).1 (subst (λ (n : ℕ). o < n) (sym (length_pop o (width k) st)) a) f ∙ ap (drop (row_width r)) (pop_same o (width k) st a) ∙ drop-drop (row_width r) (width k) (get_or st o [])
  own_left (absent k r) o st a f =
      own_left r o (pop o (width k) st).1 (subst (λ (n : ℕ). o < n) (sym (length_pop o (width k) st)) a) f ∙ ap (drop (row_width r)) (pop_same o (width k) st a) ∙ drop-drop (row_width r) (width k) (get_or st o [])
  own_left (array z t i r) o st a f =
      let S = (pop o 1 st).1 in
      let n = count (get_or (pop o 1 st).0 0 0) in
      let e : get_or (times n (told h i t) S).1 o [] ≡ drop 1 (get_or st o []) = times_leave o (told h i t) (λ su. leaves o i t su f.0 f.1) n S ∙ pop_same o 1 st a in
      let b : o < length (times n (told h i t) S).1 = subst (λ (m : ℕ). o < m) (sym (length_times (told h i t) (length_told i t) n S ∙ length_pop o 1 st)) a in
      own_left r o (times n (told h i t) S).1 b f.2 ∙ ap (drop (row_width r)) e ∙ drop_one (row_width r) (get_or st o [])
  own_left (lacking z t i r) o st a f =
      own_left r o (pop o 1 st).1 (subst (λ (n : ℕ). o < n) (sym (length_pop o 1 st)) a) f ∙ ap (drop (row_width r)) (pop_same o 1 st a) ∙ drop_one (row_width r) (get_or st o [])

  -- a row looks at no cell behind it
  row_front : (l : Shape) (cs : List ℕ) → row h l (take (row_width l) cs) ≡ row h l cs
  unfolding row row_width
  row_front end cs = refl
  row_front (field k r) cs = λ i. h.cells_of k (take-take (width k) (width k + row_width r) cs (omega arith) i) ++ (ap (row h r) (drop_take (width k) (row_width r) _ refl cs) ∙ row_front r (drop (width k) cs)) i
  row_front (absent k r) cs = λ i. h.absent_of k (take-take (width k) (width k + row_width r) cs (omega arith) i) ++ (ap (row h r) (drop_take (width k) (row_width r) _ refl cs) ∙ row_front r (drop (width k) cs)) i
  row_front (array z t i r) [] = refl
  row_front (array z t i r) (c ∷ cs) = ap (λ (s : List Shown). num (h.count_of z c) ∷ s) (row_front r cs)
  row_front (lacking z t i r) [] = refl
  row_front (lacking z t i r) (c ∷ cs) = ap (λ (s : List Shown). num (h.lacked_of z c) ∷ s) (row_front r cs)

  -- ---- the rows of table t

  module _ (t : ℕ) (L : Shape) where
    -- the rows rs are told from the front of cs, one behind the other, and ds is left
    abbrev pub Took : List (List Shown) → List ℕ → List ℕ → Type 0
    Took [] cs ds = cs ≡ ds
    Took (r ∷ rs) cs ds = (r ≡ row h (kind_of t L) cs) × Took rs (drop (row_width (kind_of t L)) cs) ds

    took_then : (rs qs : List (List Shown)) (cs ds es : List ℕ) → Took rs cs ds → Took qs ds es → Took (rs ++ qs) cs es
    took_then [] qs cs ds es a b = subst (λ (u : List ℕ). Took qs u es) (sym a) b
    took_then (r ∷ rs) qs cs ds es a b = (a.0, took_then rs qs (drop (row_width (kind_of t L)) cs) ds es a.1 b)

    took_times : {A : Type 0} (d : Tables → A × Tables) (g : A → List (List Shown)) (N : ℕ) → ((st : Tables) → length (d st).1 ≡ length st) →
        ((st : Tables) → length st ≡ N → Took (g (d st).0) (get_or st t []) (get_or (d st).1 t [])) → (n : ℕ) (st : Tables) → length st ≡ N → Took (flatten g (times n d st).0) (get_or st t []) (get_or (times n d st).1 t [])
    unfolding times
    took_times d g N k a zero st e = refl
    took_times d g N k a (suc n) st e = took_then (g (d st).0) _ _ _ _ (a st e) (took_times d g N k a n (d st).1 (k st ∙ e))

    module _ (N : ℕ) (low : t < N) where
      took_item : (i : Shape) (u : ℕ) (st : Tables) → length st ≡ N → Free u i → (eqb t u ≡ true → i ≡ kind_of t L) → (eqb t u ≡ false → Took (rows_held t i (told h i u st).0) (get_or st t []) (get_or (told h i u st).1 t [])) →
          Took (cond (eqb t u) (own i (told h i u st).0 ∷ []) (rows_held t i (told h i u st).0)) (get_or st t []) (get_or (told h i u st).1 t [])
      took_item i u st e f same rec = by_test (eqb t u) (λ d. rw d (here d (of_eq t u d))) (λ d. rw d (rec d))
        where
          here : eqb t u ≡ true → t ≡ u → Took (own i (told h i u st).0 ∷ []) (get_or st t []) (get_or (told h i u st).1 t [])
          here d z =
              let a : u < length st = omega (arith, e, low, z) in (
                own_row i u st a f ∙ ap (λ (n : ℕ). row h i (get_or st n [])) (sym z) ∙ ap (λ (k : Shape). row h k (get_or st t [])) (same d),
                sym (ap (λ (n : ℕ). get_or (told h i u st).1 n []) z ∙ own_left i u st a f ∙ ap (λ (n : ℕ). drop (row_width i) (get_or st n [])) (sym z) ∙ ap (λ (k : Shape). drop (row_width k) (get_or st t [])) (same d)),
              )

      pub took : (l : Shape) (o : ℕ) (st : Tables) → length st ≡ N → eqb t o ≡ false → Tree l → Kinds L l → Took (rows_held t l (told h l o st).0) (get_or st t []) (get_or (told h l o st).1 t [])
      unfolding told rows_held
      took end o st e a f k = refl
      took (field j r) o st e a f k = rw (pop_other t o (width j) st a) at (took r o (pop o (width j) st).1 (length_pop o (width j) st ∙ e) a f k)
      took (absent j r) o st e a f k = rw (pop_other t o (width j) st a) at (took r o (pop o (width j) st).1 (length_pop o (width j) st ∙ e) a f k)
      took (array z u i r) o st e a f k =
          let S = (pop o 1 st).1 in
          let n = count (get_or (pop o 1 st).0 0 0) in
          let b = length_pop o 1 st ∙ e in
          let g : Held i → List (List Shown) = λ y. cond (eqb t u) (own i y ∷ []) (rows_held t i y) in
          let X = times n (told h i u) S in
          let p : Took (flatten g X.0) (get_or S t []) (get_or X.1 t []) = took_times (told h i u) g N (length_told i u) (λ su c. took_item i u su c f.0 (kind_is t u L i k.0) (λ d. took i u su c d f.1 k.1)) n S b in
          took_then (flatten g X.0) (rows_held t r (told h r o X.1).0) _ (get_or X.1 t []) _ (rw (pop_other t o 1 st a) at p)
          (took r o X.1 (length_times (told h i u) (length_told i u) n S ∙ b) a f.2 k.2)
      took (lacking z u i r) o st e a f k = rw (pop_other t o 1 st a) at (took r o (pop o 1 st).1 (length_pop o 1 st ∙ e) a f k)

    -- so they are the first rows of the table
    pub took_rows : (rs : List (List Shown)) (cs ds : List ℕ) → Took rs cs ds → rs ≡ map (row h (kind_of t L)) (chunks (length rs) (row_width (kind_of t L)) cs)
    unfolding chunks
    took_rows [] cs ds a = refl
    took_rows (r ∷ rs) cs ds a = λ j. (a.0 ∙ sym (row_front (kind_of t L) cs)) j ∷ took_rows rs (drop (row_width (kind_of t L)) cs) ds a.1 j

-- ---- the tables that a read fills

map_flatten : {A B C : Type 0} (f : B → C) (g : A → List B) (xs : List A) → map f (flatten g xs) ≡ flatten (λ x. map f (g x)) xs
map_flatten f g [] = refl
map_flatten f g (x ∷ xs) = map-append f (g x) (flatten g xs) ∙ ap (λ (ys : List _). map f (g x) ++ ys) (map_flatten f g xs)

flatten_map : {A B C : Type 0} (p : A → B) (g : B → List C) (q : A → List C) → ((x : A) → g (p x) ≡ q x) → (xs : List A) → flatten g (map p xs) ≡ flatten q xs
flatten_map p g q e [] = refl
flatten_map p g q e (x ∷ xs) = λ i. e x i ++ flatten_map p g q e xs i

module _ (b : List ℕ) where
  own_of : (l : Shape) (x : Value Span l) → own l (of_value l (map_value (slice b) l x)) ≡ row (as_is b) l (row_cells l x)
  unfolding row row_cells
  own_of end x = refl
  own_of (field k r) x =
      let n = cells_width k x.0 in
      λ i. (sym (shown_basic b k x.0) ∙ ap (shown_cells b k) (sym (take_at (cells k x.0) (row_cells r x.1) (width k) n))) i
      ++ (own_of r x.1 ∙ ap (row (as_is b) r) (sym (drop_at (cells k x.0) (row_cells r x.1) (width k) n))) i
  own_of (absent k r) x =
      let n = absent_width k in
      λ i. (sym (shown_absent b k) ∙ ap (shown_cells b k) (sym (take_at (absent_cells k) (row_cells r x) (width k) n))) i
      ++ (own_of r x ∙ ap (row (as_is b) r) (sym (drop_at (absent_cells k) (row_cells r x) (width k) n))) i
  own_of (array z t j r) x = λ i. num (sym (map_cell (keeps z) (map_value (slice b) j) x.0) i) ∷ own_of r x.1 i
  own_of (lacking z t j r) x = λ i. num (sym (shown_lacking z) i) ∷ own_of r x i

  module _ (t : ℕ) (L : Shape) where
    rows_of_lem : (l : Shape) (x : Value Span l) → Kinds L l → rows_held t l (of_value l (map_value (slice b) l x)) ≡ map (row (as_is b) (kind_of t L)) (rows_in t l x)
    unfolding rows_held rows_in
    rows_of_lem end x a = refl
    rows_of_lem (field k r) x a = rows_of_lem r x.1 a
    rows_of_lem (absent k r) x a = rows_of_lem r x a
    rows_of_lem (array z u j r) x a =
        let g : Value Span j → List (List ℕ) = λ y. cond (eqb t u) (row_cells j y ∷ []) (rows_in t j y) in
        let e : flatten (λ y. cond (eqb t u) (own j y ∷ []) (rows_held t j y)) (map (of_value j) (list_of (keeps z) (map_maybe (map (map_value (slice b) j)) (keeps z) x.0))) ≡ flatten (λ y. map (row (as_is b) (kind_of t L)) (g y)) (list_of (keeps z) x.0) =
        rw (list_map (map_value (slice b) j) (keeps z) x.0, map-map (of_value j) (map_value (slice b) j) (list_of (keeps z) x.0)) (flatten_map _ _ _ (λ y. by_test (eqb t u)
        (λ c. rw c (ap (λ (s : List Shown). s ∷ []) (own_of j y ∙ ap (λ (k : Shape). row (as_is b) k (row_cells j y)) (kind_is t u L j a.0 c)))) (λ c. rw c (rows_of_lem j y a.1))) (list_of (keeps z) x.0)) in
        (λ i. (e ∙ sym (map_flatten (row (as_is b) (kind_of t L)) g (list_of (keeps z) x.0))) i ++ rows_of_lem r x.1 a.2 i)
        ∙ sym (map-append (row (as_is b) (kind_of t L)) (flatten g (list_of (keeps z) x.0)) (rows_in t r x.1))
    rows_of_lem (lacking z u j r) x a = rows_of_lem r x a

-- ---- the theorems, row by row, of a body msg that was written from the tables st and read into d.st

module _ (q : Bool) (l : Shape) (N : ℕ) (lent : List ℕ) (st : Tables) (msg : List ℕ) (n : ℕ) (first : 0 < N) (names : Within N l) (eats : Eating l) (small : length msg < minus) (free : Free 0 l)
    (d : Laid q l N msg (meant lent st l) n) where
  -- the tables that are read are as many as the message has
  pub tables_read : length d.st ≡ N
  unfolding shown settled
  tables_read = sym (length_told (as_is msg) l 0 d.st) ∙ ap (λ (x : Held l × Tables). length x.1) (comes_settled q l N lent st msg n first names eats small d) ∙ length-replicate N []

  -- the own row comes back settled
  pub own_settled : 0 < length st → shown_row msg l (get_or d.st 0 []) ≡ settled_row lent l (get_or st 0 [])
  unfolding shown settled
  own_settled some-row =
      let e = comes_settled q l N lent st msg n first names eats small d in
      row_shown msg l (get_or d.st 0 []) ∙ sym (own_row (as_is msg) l 0 d.st (subst (λ (k : ℕ). 0 < k) (sym tables_read) first) free) ∙ ap (λ (x : Held l × Tables). own l x.0) e ∙ own_row (as_back lent) l 0 st some-row free ∙ sym (row_settled lent l (get_or st 0 []))

  -- and so do the rows of table t: as many come back as are read, the first ones that were lent
  module _ (tree : Tree l) (kinds : Kinds l l) (t : ℕ) (apart : eqb t 0 ≡ false) (wide : 0 < row_width (kind_of t l)) where
    abbrev K : Shape
    K = kind_of t l

    abbrev back : List (List ℕ)
    back = rows_of (row_width (kind_of t l)) (get_or d.st t [])

    rows_read : map (row (as_is msg) (kind_of t l)) (rows_of (row_width (kind_of t l)) (get_or d.st t [])) ≡ rows_held t l (told (as_is msg) l 0 d.st).0
    rows_read =
        let c = tables_hold q l N msg d.st n first names free tree d.reads in
        let x = c.x in
        let w = rows_wide (λ u. row_width (kind_of u l)) t l x (kinds_wide l l kinds) in
        let a : rows_of (row_width (kind_of t l)) (get_or d.st t []) ≡ rows_in t l x = ap (rows_of (row_width (kind_of t l))) (c.others t apart) ∙ rows_back (row_width (kind_of t l)) (rows_in t l x) wide w in
        let r : ok d.st n ≡ ok (keep append l 0 x (replicate N [])) n = sym d.reads ∙ (link q append l 0 (replicate N [])).law 0 msg tt ∙ ap (over (λ x. keep append l 0 x (replicate N []))) c.reads in
        let i : d.st ≡ keep append l 0 x (replicate N []) = cc in
        let s = Parts.shown minus q l msg x n small eats c.reads in
        let g = ap (told (as_is msg) l 0) (i ∙ same_tables N l 0 x) ∙ (holds msg N (λ t. t.0 + t.1 ≤ length msg) l 0 x first names s.inside_it).law (replicate N []) (length-replicate N []) in
        ap (map (row (as_is msg) (kind_of t l))) a ∙ sym (rows_of_lem msg t l l x kinds) ∙ ap (λ (y : Held l × Tables). rows_held t l y.0) (sym g)

    pub rows_settled : t < length st → map (shown_row msg K) back ≡ map (settled_row lent K) (chunks (length back) (row_width K) (get_or st t []))
    unfolding shown settled
    rows_settled low =
        let e = comes_settled q l N lent st msg n first names eats small d in
        let rs = rows_held t l (told (as_back lent) l 0 st).0 in
        let a : map (row (as_is msg) K) back ≡ rs = rows_read ∙ ap (λ (x : Held l × Tables). rows_held t l x.0) e in
        let b : length back ≡ length rs = sym (length-map back (row (as_is msg) K)) ∙ ap length a in
        let c = took_rows (as_back lent) t l rs _ _ (took (as_back lent) t l (length st) low l 0 st refl apart tree kinds) in
        map_congr_left {l = back} (λ r m. row_shown msg K r) ∙ a ∙ c ∙ ap (λ (k : ℕ). map (row (as_back lent) K) (chunks k (row_width K) (get_or st t []))) (sym b)
        ∙ sym (map_congr_left {l = chunks (length back) (row_width K) (get_or st t [])} (λ r m. row_settled lent K r))
