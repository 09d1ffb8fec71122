-- What stands in each table: the body's own row in table 0, and in every other the rows of the value, in body order, each as wide as its kind.
-- So the need that 10 tells is the number of those rows.
use mathlib.Core.Bool.{Bool, cond, false}
use mathlib.Core.List.{List, [], ◌++◌, ◌∷◌, append_assoc, append-nil}
use mathlib.Core.Path.{◌∙◌, ◌≡◌, ap, refl, subst, sym}
use Prim.Native.Nat.{◌*◌, ◌+◌, ◌/◌, ◌<◌, suc, zero, ℕ}
use native.Mathlib.Nat.{add_comm, mul-div_cancel, suc-mul, zero-mul}
use lib.Dec.{eqb}
use lib.ListN.{get_or, length, length-append, length-replicate, replicate}
use lib.Seq.{drop_at, get_or-set_other, get_or-set_same, take_at}
use Rattle.layout.specs.Reading.{ok}
use Rattle.layout.specs.Primitives.{keeps}
use Rattle.layout.specs.Rows.{Shape, Value, absent, array, end, field, lacking}
use Rattle.layout.specs.Read.{by_place, read}
use Rattle.layout.specs.Tables.{Span, Tables, absent_cells, absent_count, append, cells, chunks, read_rows, row_width, rows_of}
use Rattle.layout.proofs.Tests.{by_test, of_eq, of-ne}
use Rattle.layout.proofs.Decode.{absent_width, cells_width}
use Rattle.layout.proofs.Every.{All, Within, all_append, list_of}
use Rattle.layout.proofs.Link.{items_cell, link, under}
use Rattle.layout.proofs.Same.{lay, lay_all, moves, push, same_tables}

-- ---- the rows of a value

unfoldable pub row_cells : (l : Shape) → Value Span l → List ℕ
row_cells end x = []
row_cells (field k r) x = cells k x.0 ++ row_cells r x.1
row_cells (absent k r) x = absent_cells k ++ row_cells r x
row_cells (array z t i r) x = items_cell (Value Span i) (keeps z) x.0 ∷ row_cells r x.1
row_cells (lacking z t i r) x = absent_count z ∷ row_cells r x

abbrev pub flatten : {A B : Type 0} → (A → List B) → List A → List B
flatten g [] = []
flatten g (x ∷ xs) = g x ++ flatten g xs

abbrev pub joined : List (List ℕ) → List ℕ
joined rs = flatten (λ r. r) rs

-- the rows that a value brings to table t
unfoldable pub rows_in : ℕ → (l : Shape) → Value Span l → List (List ℕ)
rows_in t end x = []
rows_in t (field k r) x = rows_in t r x.1
rows_in t (absent k r) x = rows_in t r x
rows_in t (array z u i r) x = flatten (λ y. cond (eqb t u) (row_cells i y ∷ []) (rows_in t i y)) (list_of (keeps z) x.0) ++ rows_in t r x.1
rows_in t (lacking z u i r) x = rows_in t r x

-- ---- table o is none of those that l names

abbrev pub Free : ℕ → Shape → Type 0
Free o end = Unit {0}
Free o (field k r) = Free o r
Free o (absent k r) = Free o r
Free o (array z u i r) = (eqb o u ≡ false) × Free o i × Free o r
Free o (lacking z u i r) = Free o r

-- no items' rows go to the table that the items stand in
abbrev pub Tree : Shape → Type 0
Tree end = Unit {0}
Tree (field k r) = Tree r
Tree (absent k r) = Tree r
Tree (array z u i r) = Free u i × Tree i × Tree r
Tree (lacking z u i r) = Tree r

pub flatten_none : {A B : Type 0} (g : A → List B) → ((x : A) → g x ≡ []) → (xs : List A) → flatten g xs ≡ []
flatten_none g h [] = refl
flatten_none g h (x ∷ xs) = λ i. (h x i) ++ flatten_none g h xs i

pub free_rows : (o : ℕ) (l : Shape) (x : Value Span l) → Free o l → rows_in o l x ≡ []
unfolding rows_in
free_rows o end x h = refl
free_rows o (field k r) x h = free_rows o r x.1 h
free_rows o (absent k r) x h = free_rows o r x h
free_rows o (array z u i r) x h =
    λ j. flatten_none (λ y. cond (eqb o u) (row_cells i y ∷ []) (rows_in o i y)) (λ y. ap (λ (b : Bool). cond b (row_cells i y ∷ []) (rows_in o i y)) h.0 ∙ free_rows o i y h.1) (list_of (keeps z) x.0) j ++ free_rows o r x.1 h.2 j
free_rows o (lacking z u i r) x h = free_rows o r x h

joined_append : (rs qs : List (List ℕ)) → joined (rs ++ qs) ≡ joined rs ++ joined qs
joined_append [] qs = refl
joined_append (r ∷ rs) qs = ap (λ (z : List ℕ). r ++ z) (joined_append rs qs) ∙ sym (append_assoc r (joined rs) (joined qs))

-- ---- the theorem, for every shape, in front of what the tables hold

module _ (N : ℕ) where
  pub length_lay : (l : Shape) (o : ℕ) (x : Value Span l) (st : Tables) → length st ≡ N → length (lay l o x st) ≡ N
  length_lay l o x st h = (moves N l o x).right st h

  -- items: each brings its own
  items_in : {A : Type 0} (t : ℕ) (g : A → Tables → Tables) (f : A → List (List ℕ)) → ((y : A) (st : Tables) → length st ≡ N → (get_or (g y st) t [] ≡ joined (f y) ++ get_or st t []) × (length (g y st) ≡ N)) →
      (xs : List A) (st : Tables) → length st ≡ N → (get_or (lay_all g xs st) t [] ≡ joined (flatten f xs) ++ get_or st t []) × (length (lay_all g xs st) ≡ N)
  items_in t g f h [] st e = (refl, e)
  items_in t g f h (x ∷ xs) st e =
      let r = items_in t g f h xs st e in
      let a = h x (lay_all g xs st) r.1 in
      (a.0 ∙ ap (λ (z : List ℕ). joined (f x) ++ z) r.0 ∙ sym (append_assoc (joined (f x)) (joined (flatten f xs)) (get_or st t [])) ∙ ap (λ (z : List ℕ). z ++ get_or st t []) (sym (joined_append (f x) (flatten f xs))), a.1)

  -- su is st with, in front, a row in table o and other rows in the other tables
  pub record In (o : ℕ) (st su : Tables) (own : List ℕ) (rows : ℕ → List (List ℕ)) : Type 0 where
    pub own_row : get_or su o [] ≡ own ++ get_or st o []
    pub others : (t : ℕ) → eqb t o ≡ false → get_or su t [] ≡ joined (rows t) ++ get_or st t []

  -- more cells of the row
  pushed : (o : ℕ) (st su : Tables) (cs own : List ℕ) (rows : ℕ → List (List ℕ)) → o < N → length su ≡ N → In o st su own rows → In o st (push o cs su) (cs ++ own) rows
  unfolding push
  pushed o st su cs own rows h n c = record {
    own_row = get_or-set_same su o (cs ++ get_or su o []) [] (subst (λ (m : ℕ). o < m) (sym n) h) ∙ ap (λ (z : List ℕ). cs ++ z) c.own_row ∙ sym (append_assoc cs own (get_or st o []));
    others = λ t d. get_or-set_other su o t (cs ++ get_or su o []) [] (of-ne t o d) ∙ c.others t d;
  }

  -- more rows of other tables
  joining : (o : ℕ) (st su sv : Tables) (own : List ℕ) (F rows : ℕ → List (List ℕ)) → F o ≡ [] → ((t : ℕ) → get_or sv t [] ≡ joined (F t) ++ get_or su t []) → In o st su own rows → In o st sv own (λ t. F t ++ rows t)
  joining o st su sv own F rows q p c = record {
    own_row = p o ∙ ap (λ (z : List (List ℕ)). joined z ++ get_or su o []) q ∙ c.own_row;
    others = λ t d. p t ∙ ap (λ (z : List ℕ). joined (F t) ++ z) (c.others t d) ∙ sym (append_assoc (joined (F t)) (joined (rows t)) (get_or st t [])) ∙ ap (λ (z : List ℕ). z ++ get_or st t []) (sym (joined_append (F t) (rows t)));
  }

  -- what a shape's value brings
  abbrev pub Brings : (l : Shape) → ℕ → Value Span l → Tables → Type 0
  Brings l o x st = In o st (lay l o x st) (row_cells l x) (λ t. rows_in t l x)

  -- an item's part in table t
  item_in : (i : Shape) (u : ℕ) → ((y : Value Span i) (st : Tables) → length st ≡ N → Brings i u y st) → (t : ℕ) (y : Value Span i) (st : Tables) → length st ≡ N →
      (get_or (lay i u y st) t [] ≡ joined (cond (eqb t u) (row_cells i y ∷ []) (rows_in t i y)) ++ get_or st t []) × (length (lay i u y st) ≡ N)
  item_in i u h t y st e = (by_test (eqb t u) (λ d. rw (d, of_eq t u d, append-nil) (h y st e).own_row) (λ d. rw d ((h y st e).others t d)), length_lay i u y st e)

  pub contents : (l : Shape) (o : ℕ) (x : Value Span l) (st : Tables) → length st ≡ N → o < N → Within N l → Free o l → Tree l → Brings l o x st
  unfolding lay row_cells rows_in
  contents end o x st e h w f sep = record { own_row = refl; others = λ t d. refl }
  contents (field k r) o x st e h w f sep = pushed o st _ (cells k x.0) _ _ h (length_lay r o x.1 st e) (contents r o x.1 st e h w f sep)
  contents (absent k r) o x st e h w f sep = pushed o st _ (absent_cells k) _ _ h (length_lay r o x st e) (contents r o x st e h w f sep)
  contents (array z u i r) o x st e h w f sep =
      let S = lay r o x.1 st in
      let xs = list_of (keeps z) x.0 in
      let F : ℕ → Value Span i → List (List ℕ) = λ t y. cond (eqb t u) (row_cells i y ∷ []) (rows_in t i y) in
      let p : (t : ℕ) → (get_or (lay_all (lay i u) xs S) t [] ≡ joined (flatten (F t) xs) ++ get_or S t []) × (length (lay_all (lay i u) xs S) ≡ N) =
      λ t. items_in t (lay i u) (F t) (item_in i u (λ y su k. contents i u y su k w.0 w.1 sep.0 sep.1) t) xs S (length_lay r o x.1 st e) in
      let q : flatten (F o) xs ≡ [] = flatten_none (F o) (λ y. ap (λ (b : Bool). cond b (row_cells i y ∷ []) (rows_in o i y)) f.0 ∙ free_rows o i y f.1) xs in
      pushed o st _ (items_cell (Value Span i) (keeps z) x.0 ∷ []) (row_cells r x.1) _ h (p o).1
      (joining o st S _ (row_cells r x.1) (λ t. flatten (F t) xs) (λ t. rows_in t r x.1) q (λ t. (p t).0) (contents r o x.1 st e h w.2 f.2 sep.2))
  contents (lacking z u i r) o x st e h w f sep = pushed o st _ (absent_count z ∷ []) (row_cells r x) _ h (length_lay r o x st e) (contents r o x st e h w f sep)

-- ---- the tables of a read

none_there : (N t : ℕ) → get_or (replicate {A = List ℕ} N []) t [] ≡ []
none_there zero t = refl
none_there (suc N) zero = refl
none_there (suc N) (suc t) = none_there N t

pub record Holds (q : Bool) (l : Shape) (msg : List ℕ) (n : ℕ) (st : Tables) : Type 0 where
  pub x : Value Span l
  pub reads : read (by_place q) l 0 msg ≡ ok x n
  pub own_row : get_or st 0 [] ≡ row_cells l x
  pub others : (t : ℕ) → eqb t 0 ≡ false → get_or st t [] ≡ joined (rows_in t l x)

pub tables_hold : (q : Bool) (l : Shape) (N : ℕ) (msg : List ℕ) (st : Tables) (n : ℕ) → 0 < N → Within N l → Free 0 l → Tree l →
    read_rows q append l 0 (replicate N []) 0 msg ≡ ok st n → Holds q l msg n st
tables_hold q l N msg st n h w f sep e =
    let u = under _ _ _ (link q append l 0 (replicate N [])) 0 msg tt st n e in
    let x = u.x in
    let i : st ≡ lay l 0 x (replicate N []) = sym u.is ∙ same_tables N l 0 x in
    let k = contents N l 0 x (replicate N []) (length-replicate N []) h w f sep in
    record {
      x = x;
      reads = u.reads;
      own_row = ap (λ (u : Tables). get_or u 0 []) i ∙ k.own_row ∙ ap (λ (u : List ℕ). row_cells l x ++ u) (none_there N 0) ∙ append-nil (row_cells l x);
      others = λ t a. ap (λ (u : Tables). get_or u t []) i ∙ k.others t a ∙ ap (λ (u : List ℕ). joined (rows_in t l x) ++ u) (none_there N t) ∙ append-nil (joined (rows_in t l x));
    }

-- ---- each row is as wide as its table says, so the rows come back from the cells, and the need is their number

pub row_width_lem : (l : Shape) (x : Value Span l) → length (row_cells l x) ≡ row_width l
unfolding row_cells row_width
row_width_lem end x = refl
row_width_lem (field k r) x = length-append (cells k x.0) (row_cells r x.1) ∙ (λ i. cells_width k x.0 i + row_width_lem r x.1 i)
row_width_lem (absent k r) x = length-append (absent_cells k) (row_cells r x) ∙ (λ i. absent_width k i + row_width_lem r x i)
row_width_lem (array z t i r) x = ap suc (row_width_lem r x.1)
row_width_lem (lacking z t i r) x = ap suc (row_width_lem r x)

-- W is the width of each table's rows
module _ (W : ℕ → ℕ) where
  abbrev pub Wide : Shape → Type 0
  Wide end = Unit {0}
  Wide (field k r) = Wide r
  Wide (absent k r) = Wide r
  Wide (array z u i r) = (W u ≡ row_width i) × Wide i × Wide r
  Wide (lacking z u i r) = Wide r

  abbrev Row : ℕ → List ℕ → Type 0
  Row t r = length r ≡ W t

  all_flatten : {A B : Type 0} (P : B → Type 0) (g : A → List B) → ((x : A) → All P (g x)) → (xs : List A) → All P (flatten g xs)
  all_flatten P g h [] = tt
  all_flatten P g h (x ∷ xs) = all_append P (g x) (flatten g xs) (h x) (all_flatten P g h xs)

  pub rows_wide : (t : ℕ) (l : Shape) (x : Value Span l) → Wide l → All (Row t) (rows_in t l x)
  unfolding rows_in
  rows_wide t end x h = tt
  rows_wide t (field k r) x h = rows_wide t r x.1 h
  rows_wide t (absent k r) x h = rows_wide t r x h
  rows_wide t (array z u i r) x h =
      let F : Value Span i → List (List ℕ) = λ y. cond (eqb t u) (row_cells i y ∷ []) (rows_in t i y) in
      let one : (y : Value Span i) → All (Row t) (F y) = λ y. by_test (eqb t u) (λ e. rw e (row_width_lem i y ∙ sym h.0 ∙ ap W (sym (of_eq t u e)), tt)) (λ e. rw e (rows_wide t i y h.1)) in
      all_append (Row t) (flatten F (list_of (keeps z) x.0)) (rows_in t r x.1) (all_flatten (Row t) F one (list_of (keeps z) x.0)) (rows_wide t r x.1 h.2)
  rows_wide t (lacking z u i r) x h = rows_wide t r x h

pub joined_length : (w : ℕ) (rs : List (List ℕ)) → All (λ r. length r ≡ w) rs → length (joined rs) ≡ length rs * w
joined_length w [] h = sym (zero-mul w)
joined_length w (r ∷ rs) h = length-append r (joined rs) ∙ (λ i. h.0 i + joined_length w rs h.1 i) ∙ add_comm w (length rs * w) ∙ sym (suc-mul (length rs) w)

chunks_back : (w : ℕ) (rs : List (List ℕ)) → All (λ r. length r ≡ w) rs → chunks (length rs) w (joined rs) ≡ rs
unfolding chunks
chunks_back w [] h = refl
chunks_back w (r ∷ rs) h = λ i. take_at r (joined rs) w h.0 i ∷ (ap (chunks (length rs) w) (drop_at r (joined rs) w h.0) ∙ chunks_back w rs h.1) i

-- the need
pub rows_needed : (w : ℕ) (rs : List (List ℕ)) → 0 < w → All (λ r. length r ≡ w) rs → length (joined rs) / w ≡ length rs
rows_needed w rs h a = ap (λ (n : ℕ). n / w) (joined_length w rs a) ∙ mul-div_cancel (length rs) h

-- the rows
pub rows_back : (w : ℕ) (rs : List (List ℕ)) → 0 < w → All (λ r. length r ≡ w) rs → rows_of w (joined rs) ≡ rs
unfolding rows_of
rows_back w rs h a = ap (λ (n : ℕ). chunks n w (joined rs)) (rows_needed w rs h a) ∙ chunks_back w rs a
