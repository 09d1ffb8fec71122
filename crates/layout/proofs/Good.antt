-- The tables of a read are tables that can be written: 13 is not given for them. For every shape.
use mathlib.Core.Bool.{Bool, ◌&&◌, cond, false, true, true≢false}
use mathlib.Core.List.{List, [], ◌++◌, ◌∷◌}
use mathlib.Core.Logic.{◌≢◌}
use mathlib.Core.Option.{none, some}
use mathlib.Core.Path.{◌∙◌, ◌≡◌, ap, refl, subst, sym}
use Prim.Native.Nat.{◌+◌, ◌<◌, ◌^◌, ◌≤◌, suc, ℕ}
use native.Mathlib.Nat.{add-zero, zero-add}
use native.Mathlib.Omega.{arith}
use lib.Dec.{eqb, leb-zero, lit<}
use lib.ListN.{get_or, length, length-append, replicate}
use lib.Seq.{drop_at}
use borrow.Author.Tests.{eq-eqb}
use Rattle.layout.specs.Primitives.{Maybe, Null, Size, compact, empty, fixed, is_kept, keeps, kept, minus, never, plain}
use Rattle.layout.specs.Rows.{Basic, BasicValue, Shape, Value, absent, array, blob, boolean, end, field, lacking, level, natural, number, optional, text}
use Rattle.layout.specs.Tables.{Span, Tables, absent_cells, absent_count, absent_items, adds_up, all, asked, cells, count, from, good, good_cells, good_count, good_row, good_span, inside, kind_of, lacks, row_width, rows_at, rows_of, span, sum, width}
use Rattle.layout.proofs.Contents.{Free, Holds, Tree, Wide, flatten, free_rows, row_cells, rows_back, rows_wide, rows_in}
use Rattle.layout.proofs.Decode.{absent_width, cells_width, count_is, count_list}
use Rattle.layout.proofs.Every.{All, Every, EveryBasic, EveryMaybe, Few, Within, all_append, few_list, list_of}
use Rattle.layout.proofs.Link.{items_cell}
use Rattle.layout.proofs.Parts.{Eating, shown}
use Rattle.layout.proofs.Sums.{length_flatten, one_of, sum_add, sum_append, sum_eq, sum_flatten, sum_ones, sum_same, sum_swap, sum_zero}
use Rattle.layout.proofs.Tests.{by_test, le-true, lt-true, not_minus, of_eq, of-ne}

both_true : (a b : Bool) → a ≡ true → b ≡ true → (a && b) ≡ true
both_true a b h g = rw (h, g)

abbrev half : ℕ
half = 2 ^ 63

-- an array that the version lacks has no null, so that a write may leave it out
abbrev pub NoNull : Shape → Type 0
NoNull end = Unit {0}
NoNull (field k r) = NoNull r
NoNull (absent k r) = NoNull r
NoNull (array z u i r) = NoNull i × NoNull r
NoNull (lacking z u i r) = (keeps z ≡ false) × NoNull r

-- the rows of each table are the items of every array that names it
abbrev pub Kinds : Shape → Shape → Type 0
Kinds L end = Unit {0}
Kinds L (field k r) = Kinds L r
Kinds L (absent k r) = Kinds L r
Kinds L (array z u i r) = (kind_of u L ≡ i) × Kinds L i × Kinds L r
Kinds L (lacking z u i r) = Kinds L r

pub kinds_wide : (L l : Shape) → Kinds L l → Wide (λ t. row_width (kind_of t L)) l
kinds_wide L end h = tt
kinds_wide L (field k r) h = kinds_wide L r h
kinds_wide L (absent k r) h = kinds_wide L r h
kinds_wide L (array z u i r) h = (ap row_width h.0, kinds_wide L i h.1, kinds_wide L r h.2)
kinds_wide L (lacking z u i r) h = kinds_wide L r h

no_items : (m : Null) → is_kept m ≡ false → absent_items m ≡ 0
no_items never e = refl
no_items kept e = absurd (true≢false e)
no_items empty e = refl

-- ---- rows: ranges inside, counts good

module _ (size : ℕ) where
  abbrev pub InSize : Span → Type 0
  InSize t = t.0 + t.1 ≤ size

  good_span_lem : (b : Bool) (x : Maybe b Span) (cs : List ℕ) → EveryMaybe InSize b x → good_span size b (span b x ++ cs) ≡ true
  unfolding good_span span inside
  good_span_lem true none cs h = refl
  good_span_lem true (some x) cs h = le-true _ _ h
  good_span_lem false x cs h = le-true _ _ h

  good_cells_lem : (k : Basic) (x : BasicValue Span k) (cs : List ℕ) → EveryBasic half InSize k x → good_cells size k (cells k x ++ cs) ≡ true
  unfolding good_cells cells
  good_cells_lem (number w) x cs h = refl
  good_cells_lem boolean x cs h = refl
  good_cells_lem level x cs h = refl
  good_cells_lem natural x cs h = refl
  good_cells_lem (text z) x cs h = good_span_lem (keeps z) x cs h
  good_cells_lem (blob z) x cs h = good_span_lem (keeps z) x cs h
  good_cells_lem (optional d k) x cs h = good_cells_lem k x cs h

  absent_span : (b : Bool) (cs : List ℕ) → good_span size b (replicate (cond b 3 2) 0 ++ cs) ≡ true
  unfolding good_span inside
  absent_span true cs = refl
  absent_span false cs = leb-zero size

  good_absent : (k : Basic) (cs : List ℕ) → good_cells size k (absent_cells k ++ cs) ≡ true
  unfolding good_cells absent_cells width
  good_absent (number w) cs = refl
  good_absent boolean cs = refl
  good_absent level cs = refl
  good_absent natural cs = refl
  good_absent (text z) cs = absent_span (keeps z) cs
  good_absent (blob z) cs = absent_span (keeps z) cs
  good_absent (optional d k) cs = refl

  good_number : (b : Bool) (n : ℕ) → n < half → good_count b n ≡ true
  unfolding good_count
  good_number b n h = rw (not_minus n (omega arith), lt-true n half h)

  good_minus : good_count true minus ≡ true
  unfolding good_count
  good_minus = refl

  good_items : (A : Type 0) (Q : A → Type 0) (b c : Bool) → (b ≡ true → c ≡ true) → (xs : Maybe b (List A)) → EveryMaybe (λ xs. Few half Q xs) b xs → good_count c (items_cell A b xs) ≡ true
  good_items A Q true c k none h = ap (λ (b : Bool). good_count b minus) (k refl) ∙ good_minus
  good_items A Q true c k (some xs) h = good_number c (length xs) h.0
  good_items A Q false c k xs h = good_number c (length xs) h.0

  keeps_lacks : (z : Size) → keeps z ≡ true → lacks z ≡ true
  keeps_lacks (fixed w m) e = e
  keeps_lacks (compact m) e = e
  keeps_lacks plain e = refl

  -- the count of an array that the version lacks
  good_lacking : (z : Size) → keeps z ≡ false → good_count (lacks z) (absent_count z) ≡ true
  good_lacking (fixed w m) e = rw (no_items m e) (good_number (is_kept m) 0 (lit< tt))
  good_lacking (compact m) e = rw (no_items m e) (good_number (is_kept m) 0 (lit< tt))
  good_lacking plain e = good_minus

  good_row_lem : (l : Shape) (x : Value Span l) → NoNull l → Every half InSize l x → good_row size l (row_cells l x) ≡ true
  unfolding good_row row_cells
  good_row_lem end x z h = refl
  good_row_lem (field k r) x z h =
      both_true _ _ (good_cells_lem k x.0 (row_cells r x.1) h.0) (ap (good_row size r) (drop_at (cells k x.0) (row_cells r x.1) (width k) (cells_width k x.0)) ∙ good_row_lem r x.1 z h.1)
  good_row_lem (absent k r) x z h =
      both_true _ _ (good_absent k (row_cells r x)) (ap (good_row size r) (drop_at (absent_cells k) (row_cells r x) (width k) (absent_width k)) ∙ good_row_lem r x z h)
  good_row_lem (array s u i r) x z h = both_true _ _ (good_items (Value Span i) (Every half InSize i) (keeps s) (lacks s) (keeps_lacks s) x.0 h.0) (good_row_lem r x.1 z.1 h.1)
  good_row_lem (lacking s u i r) x z h = both_true _ _ (good_lacking s z.0) (good_row_lem r x z.1 h)

  -- ---- all rows of a table

  in_flatten : {A B : Type 0} (P : B → Type 0) (Q : A → Type 0) (g : A → List B) → ((x : A) → Q x → All P (g x)) → (xs : List A) → All Q xs → All P (flatten g xs)
  in_flatten P Q g h [] q = tt
  in_flatten P Q g h (x ∷ xs) q = all_append P (g x) (flatten g xs) (h x q.0) (in_flatten P Q g h xs q.1)

  module _ (L : Shape) (t : ℕ) where
    abbrev Is : List ℕ → Type 0
    Is r = good_row size (kind_of t L) r ≡ true

    rows_good : (l : Shape) (x : Value Span l) → Kinds L l → NoNull l → Every half InSize l x → All Is (rows_in t l x)
    unfolding rows_in
    rows_good end x k z h = tt
    rows_good (field c r) x k z h = rows_good r x.1 k z h.1
    rows_good (absent c r) x k z h = rows_good r x k z h
    rows_good (array s u i r) x k z h =
        let F : Value Span i → List (List ℕ) = λ y. cond (eqb t u) (row_cells i y ∷ []) (rows_in t i y) in
        let one : (y : Value Span i) → Every half InSize i y → All Is (F y) =
        λ y q. by_test (eqb t u) (λ e. rw e (ap (λ (j : Shape). good_row size j (row_cells i y)) (ap (λ (w : ℕ). kind_of w L) (of_eq t u e) ∙ k.0) ∙ good_row_lem i y z.0 q, tt)) (λ e. rw e (rows_good i y k.1 z.0 q)) in
        all_append Is (flatten F (list_of (keeps s) x.0)) (rows_in t r x.1) (in_flatten Is (Every half InSize i) F one (list_of (keeps s) x.0) (few_list half _ (keeps s) x.0 (lit< tt) h.0).1) (rows_good r x.1 k.2 z.1 h.1)
    rows_good (lacking s u i r) x k z h = rows_good r x k z.1 h

-- ---- the counts add up

-- an array that the version lacks asks for no rows
lacking_count : (z : Size) → keeps z ≡ false → count (absent_count z) ≡ 0
lacking_count (fixed w m) e = rw (no_items m e) (count_is 0 (lit< tt))
lacking_count (compact m) e = rw (no_items m e) (count_is 0 (lit< tt))
lacking_count plain e = unfold count in refl

-- t: the table whose rows are asked for; L names what the rows of each table are, n tables in all
module _ (P : Span → Type 0) (L : Shape) (n t : ℕ) where
  abbrev asks : ℕ → List ℕ → ℕ
  asks u r = asked t (kind_of u L) r

  -- what a row asks, and all rows below it
  abbrev total : (l : Shape) → Value Span l → ℕ
  total l x = asked t l (row_cells l x) + sum (λ u. sum (asks u) (rows_in u l x)) (from 1 n)

  abbrev part : (i : Shape) → ℕ → Value Span i → ℕ → List (List ℕ)
  part i v y u = cond (eqb u v) (row_cells i y ∷ []) (rows_in u i y)

  -- an item's row and those below it, table by table
  item_total : (i : Shape) (v : ℕ) (y : Value Span i) → Free v i → kind_of v L ≡ i → 1 ≤ v → v < 1 + n → sum (λ u. sum (asks u) (part i v y u)) (from 1 n) ≡ total i y
  item_total i v y free k low high =
      sum_eq _ _ (λ u. by_test (eqb u v) (λ e. rw e (unfold sum in add-zero _)) (λ e. rw e)) (from 1 n)
      ∙ one_of (λ u. asks u (row_cells i y)) (λ u. sum (asks u) (rows_in u i y)) v 1 n low high (ap (sum (asks v)) (free_rows v i y free) ∙ (unfold sum in refl))
      ∙ ap (λ (j : Shape). asked t j (row_cells i y) + sum (λ u. sum (asks u) (rows_in u i y)) (from 1 n)) k

  -- the rows of table t that an array's items bring
  items_rows : (i : Shape) (v : ℕ) → Free v i → (xs : List (Value Span i)) → length (flatten (λ y. part i v y t) xs) ≡ cond (eqb t v) (length xs) 0 + sum (λ y. length (rows_in t i y)) xs
  items_rows i v free xs =
      length_flatten (λ y. part i v y t) xs
      ∙ by_test (eqb t v)
      (λ e. rw e (sum_ones xs ∙ sym (ap (λ (m : ℕ). length xs + m) (sum_zero _ (λ y. ap length (free_rows t i y (subst (λ (w : ℕ). Free w i) (sym (of_eq t v e)) free))) xs) ∙ add-zero (length xs))))
      (λ e. rw e (sym (zero-add _)))

  array_adds : (A B C D E F G N S R : ℕ) → S ≡ A + B → C ≡ D + E → D ≡ F → B + E ≡ G → N ≡ A + F → R ≡ N + G → S + C ≡ R
  array_adds A B C D E F G N S R a b c d e f = omega arith

  no_count : (z : Size) (v : ℕ) → keeps z ≡ false → cond (eqb t v) (count (absent_count z)) 0 ≡ 0
  no_count z v e = by_test (eqb t v) (λ d. rw d (lacking_count z e)) (λ d. rw d)

  adds : (l : Shape) (x : Value Span l) → Within (suc n) l → Free 0 l → Tree l → Kinds L l → NoNull l → Every half P l x → total l x ≡ length (rows_in t l x)
  unfolding asked row_cells rows_in
  adds end x w f s k z h = zero-add _ ∙ sum_zero (λ u. sum (asks u) []) (λ u. (unfold sum in refl)) (from 1 n)
  adds (field c r) x w f s k z h =
      ap (λ (cs : List ℕ). asked t r cs + sum (λ u. sum (asks u) (rows_in u r x.1)) (from 1 n)) (drop_at (cells c x.0) (row_cells r x.1) (width c) (cells_width c x.0)) ∙ adds r x.1 w f s k z h.1
  adds (absent c r) x w f s k z h =
      ap (λ (cs : List ℕ). asked t r cs + sum (λ u. sum (asks u) (rows_in u r x)) (from 1 n)) (drop_at (absent_cells c) (row_cells r x) (width c) (absent_width c)) ∙ adds r x w f s k z h
  adds (array b v i r) x w f s k z h =
      let xs = list_of (keeps b) x.0 in
      let low : 1 ≤ v = (let g : 0 ≢ v = of-ne 0 v f.0 in omega arith) in
      let high : v < 1 + n = (let g = w.0 in omega arith) in
      let few = few_list half (Every half P i) (keeps b) x.0 (lit< tt) h.0 in
      array_adds _ _ _ _ _ _ _ _ _ _
      (ap (λ (m : ℕ). cond (eqb t v) m 0 + asked t r (row_cells r x.1)) (count_list (Value Span i) (keeps b) x.0 (let l = few.0 in omega arith)))
      (sum_eq _ _ (λ u. sum_append (asks u) (flatten (λ y. part i v y u) xs) (rows_in u r x.1)) (from 1 n) ∙ sum_add (λ u. sum (asks u) (flatten (λ y. part i v y u) xs)) (λ u. sum (asks u) (rows_in u r x.1)) (from 1 n))
      (sum_eq _ _ (λ u. sum_flatten (asks u) (λ y. part i v y u) xs) (from 1 n) ∙ sum_swap (λ u y. sum (asks u) (part i v y u)) (from 1 n) xs
      ∙ sum_same (Every half P i) _ _ (λ y q. item_total i v y s.0 k.0 low high ∙ adds i y w.1 f.1 s.1 k.1 z.0 q) xs few.1)
      (adds r x.1 w.2 f.2 s.2 k.2 z.1 h.1)
      (items_rows i v s.0 xs)
      (length-append (flatten (λ y. part i v y t) xs) (rows_in t r x.1))
  adds (lacking b v i r) x w f s k z h =
      ap (λ (m : ℕ). m + asked t r (row_cells r x) + sum (λ u. sum (asks u) (rows_in u r x)) (from 1 n)) (no_count b v z.0) ∙ ap (λ (m : ℕ). m + sum (λ u. sum (asks u) (rows_in u r x)) (from 1 n)) (zero-add _) ∙ adds r x w f s k z.1 h

-- ---- the theorem

-- what a shape owes
pub record Writable (n : ℕ) (l : Shape) : Type 0 where
  pub within_it : Within (suc n) l
  pub free : Free 0 l
  pub tree : Tree l
  pub eats : Eating l
  pub no_null : NoNull l
  pub kinds : Kinds l l
  -- every lent table has rows
  pub named : All (λ t. (eqb t 0 ≡ false) × (0 < row_width (kind_of t l))) (from 1 n)

all_true : {A : Type 0} (P : A → Type 0) (p : A → Bool) → ((x : A) → P x → p x ≡ true) → (xs : List A) → All P xs → all p xs ≡ true
unfolding all
all_true P p f [] h = refl
all_true P p f (x ∷ xs) h = both_true _ _ (f x h.0) (all_true P p f xs h.1)

module _ (q : Bool) (n : ℕ) (l : Shape) (msg : List ℕ) (k : ℕ) (st : Tables) (W : Writable n l) (H : Holds q l msg k st) (small : length msg < half) where
  abbrev Named : ℕ → Type 0
  Named t = (eqb t 0 ≡ false) × (0 < row_width (kind_of t l))

  every : Every half (λ t. t.0 + t.1 ≤ length msg) l H.x
  every = (shown half q l msg H.x k small W.eats H.reads).inside_it

  -- the rows come back from the tables
  back : (t : ℕ) → Named t → rows_at l st t ≡ rows_in t l H.x
  unfolding rows_at
  back t h = ap (rows_of (row_width (kind_of t l))) (H.others t h.0) ∙ rows_back (row_width (kind_of t l)) (rows_in t l H.x) h.1 (rows_wide (λ t. row_width (kind_of t l)) t l H.x (kinds_wide l l W.kinds))

  rows_are_good : (t : ℕ) → Named t → all (good_row (length msg) (kind_of t l)) (rows_at l st t) ≡ true
  rows_are_good t h = ap (all (good_row (length msg) (kind_of t l))) (back t h) ∙ all_true _ _ (λ r h. h) _ (rows_good (length msg) l t l H.x W.kinds W.no_null every)

  counts_add_up : (t : ℕ) → Named t → adds_up (length msg) n l st t ≡ true
  unfolding adds_up
  counts_add_up t h =
      let a : asked t l (get_or st 0 []) ≡ asked t l (row_cells l H.x) = ap (asked t l) H.own_row in
      let b : sum (λ u. sum (asked t (kind_of u l)) (rows_at l st u)) (from 1 n) ≡ sum (λ u. sum (asked t (kind_of u l)) (rows_in u l H.x)) (from 1 n) =
      sum_same Named _ _ (λ u g. ap (sum (asked t (kind_of u l))) (back u g)) (from 1 n) W.named in
      let c = adds (λ t. t.0 + t.1 ≤ length msg) l n t l H.x W.within_it W.free W.tree W.kinds W.no_null every in
      ap (λ (m : ℕ). eqb m (length (rows_at l st t))) ((λ i. a i + b i) ∙ c ∙ sym (ap length (back t h))) ∙ eq-eqb (length (rows_at l st t)) _ refl

  -- 13 is not given
  pub read_good : good (length msg) n l st ≡ true
  unfolding good
  read_good =
      both_true _ _ (ap (good_row (length msg) l) H.own_row ∙ good_row_lem (length msg) l H.x W.no_null every)
      (both_true _ _ (all_true Named _ rows_are_good (from 1 n) W.named) (all_true Named _ counts_add_up (from 1 n) W.named))
