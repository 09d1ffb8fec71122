-- Every row comes back. The counts of the tables that were lent add up, and so do those of the tables that a read of the written bytes fills; a row that comes back asks for as many rows as
-- the one that was lent. So table by table, each after those whose rows ask for its rows, as many rows come back as were lent, and all of them settled. For every shape.
use mathlib.Core.Bool.{Bool, ◌&&◌, cond, false, not, true}
use mathlib.Core.List.{List, [], map}
use mathlib.Core.Path.{◌∙◌, ◌≡◌, ap, refl, sym}
use Prim.Native.Nat.{◌+◌, ◌<◌, ◌≤◌, suc, zero, ℕ}
use native.Mathlib.Nat.{zero-add}
use native.Mathlib.Omega.{arith}
use lib.Dec.{eqb, ltb}
use lib.ListN.{drop, get_or, length, replicate, take}
use lib.Seq.{drop_at}
use borrow.Author.Tests.{ne_eqb, not-true}
use Rattle.layout.specs.Reading.{ok}
use Rattle.layout.specs.Primitives.{Size, keeps, minus}
use Rattle.layout.specs.Rows.{Basic, Shape, absent, array, blob, boolean, end, field, lacking, level, natural, number, optional, text}
use Rattle.layout.specs.Tables.{Tables, absent_cells, adds_up, all, append, asked, chunks, count, from, good, good_row, kind_of, read_rows, row_width, rows_at, rows_of, sum, width}
use Rattle.layout.specs.Answers.{Message, meant, most, shape}
use Rattle.layout.specs.Settled.{Returned, Shown, gone, num, part, settled_cells, settled_count, settled_row, settled_span, shown_cells, shown_row, shown_span}
use Rattle.layout.proofs.Chunks.{rows_many}
use Rattle.layout.proofs.Contents.{Holds, free_rows, joined, tables_hold}
use Rattle.layout.proofs.Every.{All}
use Rattle.layout.proofs.Good.{Kinds, NoNull, Writable, read_good}
use Rattle.layout.proofs.Proper.{Owes, all_from, avoids, avoids_free, both, owed, proper, width_same, width_at}
use Rattle.layout.proofs.SettledRows.{own_settled, rows_settled, tables_read}
use Rattle.layout.proofs.Sums.{sum_eq, sum_map, sum_same, sum_zero}
use Rattle.layout.proofs.Tests.{by_test, of_eq, of_lt}
use Rattle.layout.proofs.Trip.{Laid}
use Rattle.layout.proofs.Settled.{shown_absent}

-- ---- what a row asks of a table, told from what is shown of the row

-- how many pieces are shown of a field
abbrev pieces : Basic → ℕ
pieces k = length (shown_cells [] k [])

span_pieces : (b : List ℕ) (t : Bool) (cs : List ℕ) → length (shown_span b t cs) ≡ length (shown_span [] t [])
unfolding shown_span
span_pieces b true cs = refl
span_pieces b false cs = refl

shown_pieces : (b : List ℕ) (k : Basic) (cs : List ℕ) → length (shown_cells b k cs) ≡ pieces k
unfolding shown_cells
shown_pieces b (number w) cs = refl
shown_pieces b boolean cs = refl
shown_pieces b level cs = refl
shown_pieces b natural cs = refl
shown_pieces b (text z) cs = span_pieces b (keeps z) cs
shown_pieces b (blob z) cs = span_pieces b (keeps z) cs
shown_pieces b (optional d k) cs = ap suc (shown_pieces b k (drop 1 cs))

back_pieces : (b : List ℕ) (t : Bool) (cs : List ℕ) → length (settled_span b t cs) ≡ length (shown_span [] t [])
unfolding settled_span shown_span
back_pieces b true cs = by_test (eqb (get_or cs 0 0) 2) (λ e. rw e (span_pieces b true cs)) (λ e. rw e)
back_pieces b false cs = span_pieces b false cs

settled_pieces : (b : List ℕ) (k : Basic) (cs : List ℕ) → length (settled_cells b k cs) ≡ pieces k
unfolding settled_cells shown_cells
settled_pieces b (number w) cs = refl
settled_pieces b boolean cs = refl
settled_pieces b level cs = refl
settled_pieces b natural cs = refl
settled_pieces b (text z) cs = back_pieces b (keeps z) cs
settled_pieces b (blob z) cs = back_pieces b (keeps z) cs
settled_pieces b (optional d k) cs = ap suc (settled_pieces b k (cond (eqb (get_or cs 0 0) 0) d (drop 1 cs)))

gone_pieces : (k : Basic) → length (gone k) ≡ pieces k
gone_pieces k = ap length (sym (shown_absent [] k)) ∙ shown_pieces [] k (absent_cells k)

abbrev num_of : Shown → ℕ
num_of (num n) = n
num_of (part bs) = 0

-- the rows of table t that the counts shown of a row tell, but for arrays that the version lacks
unfoldable asked_of : ℕ → Shape → List Shown → ℕ
asked_of t end s = 0
asked_of t (field k r) s = asked_of t r (drop (pieces k) s)
asked_of t (absent k r) s = asked_of t r (drop (pieces k) s)
asked_of t (array z u i r) s = cond (eqb t u) (count (num_of (get_or s 0 (num 0)))) 0 + asked_of t r (drop 1 s)
asked_of t (lacking z u i r) s = asked_of t r (drop 1 s)

-- no array that the version lacks has its items in table t
unfoldable pub unlacked : ℕ → Shape → Bool
unlacked t end = true
unlacked t (field k r) = unlacked t r
unlacked t (absent k r) = unlacked t r
unlacked t (array z u i r) = unlacked t r
unlacked t (lacking z u i r) = not (eqb t u) && unlacked t r

-- no array at all
unfoldable pub mute : ℕ → Shape → Bool
mute t end = true
mute t (field k r) = mute t r
mute t (absent k r) = mute t r
mute t (array z u i r) = not (eqb t u) && mute t r
mute t (lacking z u i r) = not (eqb t u) && mute t r

not_this : (t u : ℕ) (c a : ℕ) → not (eqb t u) ≡ true → cond (eqb t u) c 0 + a ≡ a
not_this t u c a h = ap (λ (b : Bool). cond b c 0 + a) (not-true (eqb t u) h) ∙ zero-add a

asked_shown : (b : List ℕ) (t : ℕ) (l : Shape) (cs : List ℕ) → unlacked t l ≡ true → asked_of t l (shown_row b l cs) ≡ asked t l cs
unfolding asked_of shown_row asked unlacked
asked_shown b t end cs h = refl
asked_shown b t (field k r) cs h =
    ap (asked_of t r) (drop_at (shown_cells b k (take (width k) cs)) (shown_row b r (drop (width k) cs)) (pieces k) (shown_pieces b k (take (width k) cs))) ∙ asked_shown b t r (drop (width k) cs) h
asked_shown b t (absent k r) cs h =
    ap (asked_of t r) (drop_at (shown_cells b k (take (width k) cs)) (shown_row b r (drop (width k) cs)) (pieces k) (shown_pieces b k (take (width k) cs))) ∙ asked_shown b t r (drop (width k) cs) h
asked_shown b t (array z u i r) cs h = ap (λ (n : ℕ). cond (eqb t u) (count (get_or cs 0 0)) 0 + n) (asked_shown b t r (drop 1 cs) h)
asked_shown b t (lacking z u i r) cs h =
    let a = both (not (eqb t u)) (unlacked t r) h in
    asked_shown b t r (drop 1 cs) a.1 ∙ sym (not_this t u (count (get_or cs 0 0)) (asked t r (drop 1 cs)) a.0)

count_settled : (z : Size) (c : ℕ) → count (settled_count z c) ≡ count c
unfolding settled_count count
count_settled z c = by_test (keeps z) (λ k. rw k) (λ k. rw k (by_test (eqb c minus) (λ e. rw e) (λ e. rw (e, e))))

asked_settled : (b : List ℕ) (t : ℕ) (l : Shape) (cs : List ℕ) → unlacked t l ≡ true → asked_of t l (settled_row b l cs) ≡ asked t l cs
unfolding asked_of settled_row asked unlacked
asked_settled b t end cs h = refl
asked_settled b t (field k r) cs h =
    ap (asked_of t r) (drop_at (settled_cells b k (take (width k) cs)) (settled_row b r (drop (width k) cs)) (pieces k) (settled_pieces b k (take (width k) cs))) ∙ asked_settled b t r (drop (width k) cs) h
asked_settled b t (absent k r) cs h = ap (asked_of t r) (drop_at (gone k) (settled_row b r (drop (width k) cs)) (pieces k) (gone_pieces k)) ∙ asked_settled b t r (drop (width k) cs) h
asked_settled b t (array z u i r) cs h = λ j. cond (eqb t u) (count_settled z (get_or cs 0 0) j) 0 + asked_settled b t r (drop 1 cs) h j
asked_settled b t (lacking z u i r) cs h =
    let a = both (not (eqb t u)) (unlacked t r) h in
    asked_settled b t r (drop 1 cs) a.1 ∙ sym (not_this t u (count (get_or cs 0 0)) (asked t r (drop 1 cs)) a.0)

mute_asks : (t : ℕ) (l : Shape) (cs : List ℕ) → mute t l ≡ true → asked t l cs ≡ 0
unfolding mute asked
mute_asks t end cs h = refl
mute_asks t (field k r) cs h = mute_asks t r (drop (width k) cs) h
mute_asks t (absent k r) cs h = mute_asks t r (drop (width k) cs) h
mute_asks t (array z u i r) cs h = let a = both (not (eqb t u)) (mute t r) h in not_this t u (count (get_or cs 0 0)) (asked t r (drop 1 cs)) a.0 ∙ mute_asks t r (drop 1 cs) a.1
mute_asks t (lacking z u i r) cs h = let a = both (not (eqb t u)) (mute t r) h in not_this t u (count (get_or cs 0 0)) (asked t r (drop 1 cs)) a.0 ∙ mute_asks t r (drop 1 cs) a.1

-- ---- which tables can be followed

-- F: the tables whose rows the version has; n tables in all
module _ (F : ℕ → Bool) (n : ℕ) (l : Shape) where
  -- the arrays of table t are there, and the rows that they stand in are those of tables before it that the version has
  unfoldable pub follows : ℕ → Bool
  follows t = unlacked t l && all (λ u. unlacked t (kind_of u l) && cond (mute t (kind_of u l)) true (ltb u t && F u)) (from 1 n)

  -- a table that the version lacks is named by no array
  unfoldable pub followed : Bool
  followed = all (λ t. cond (F t) (follows t) (avoids t l)) (from 1 n)

  at_table : followed ≡ true → (t : ℕ) → 1 ≤ t → t ≤ n → cond (F t) (follows t) (avoids t l) ≡ true
  unfolding followed
  at_table h t a b = all_from (λ t. cond (F t) (follows t) (avoids t l)) 1 n t h a (omega arith)

in_from : (s n : ℕ) (P : ℕ → Type 0) → ((u : ℕ) → s ≤ u → u < s + n → P u) → All P (from s n)
unfolding from
in_from s zero P h = tt
in_from s (suc n) P h = (h s (omega arith) (omega arith), in_from (suc s) n P (λ u a b. h u (omega arith) (omega arith)))

-- the counts of good tables add up
adds : (size n : ℕ) (l : Shape) (st : Tables) → good size n l st ≡ true → (t : ℕ) → 1 ≤ t → t ≤ n →
    asked t l (get_or st 0 []) + sum (λ u. sum (asked t (kind_of u l)) (rows_at l st u)) (from 1 n) ≡ length (rows_at l st t)
unfolding good adds_up
adds size n l st h t a b =
    let x = both (good_row size l (get_or st 0 [])) _ h in
    let y = both (all (λ t. all (good_row size (kind_of t l)) (rows_at l st t)) (from 1 n)) (all (adds_up size n l st) (from 1 n)) x.1 in
    of_eq _ _ (all_from (adds_up size n l st) 1 n t y.1 a (omega arith))

-- ---- the tables su, read from bs, and the tables st that were lent with `lent`: as many rows as are read are the first that were lent

module _ (F : ℕ → Bool) (n : ℕ) (l : Shape) (lent bs : List ℕ) (st su : Tables) (test : followed F n l ≡ true) (own : shown_row bs l (get_or su 0 []) ≡ settled_row lent l (get_or st 0 []))
    (rows : (t : ℕ) → 1 ≤ t → t ≤ n → map (shown_row bs (kind_of t l)) (rows_at l su t) ≡ map (settled_row lent (kind_of t l)) (chunks (length (rows_at l su t)) (row_width (kind_of t l)) (get_or st t [])))
    (lent-good : good (length lent) n l st ≡ true) (read_again : good (length bs) n l su ≡ true) where
  -- all of table t comes back
  abbrev Same : ℕ → Type 0
  Same t = map (shown_row bs (kind_of t l)) (rows_at l su t) ≡ map (settled_row lent (kind_of t l)) (rows_at l st t)

  -- rows that come back ask alike
  asks_same : (t u : ℕ) → unlacked t (kind_of u l) ≡ true → Same u → sum (asked t (kind_of u l)) (rows_at l su u) ≡ sum (asked t (kind_of u l)) (rows_at l st u)
  asks_same t u h same =
      let K = kind_of u l in
      sum_eq (asked t K) (λ r. asked_of t K (shown_row bs K r)) (λ r. sym (asked_shown bs t K r h)) (rows_at l su u) ∙ sym (sum_map (asked_of t K) (shown_row bs K) (rows_at l su u))
      ∙ ap (sum (asked_of t K)) same
      ∙ sum_map (asked_of t K) (settled_row lent K) (rows_at l st u) ∙ sum_eq (λ r. asked_of t K (settled_row lent K r)) (asked t K) (λ r. asked_settled lent t K r h) (rows_at l st u)

  asks : (t u : ℕ) → (unlacked t (kind_of u l) && cond (mute t (kind_of u l)) true (ltb u t && F u)) ≡ true → (u < t → F u ≡ true → Same u) →
      sum (asked t (kind_of u l)) (rows_at l su u) ≡ sum (asked t (kind_of u l)) (rows_at l st u)
  asks t u h before =
      let K = kind_of u l in
      let a = both (unlacked t K) _ h in
      by_test (mute t K) (λ e. sum_zero (asked t K) (λ r. mute_asks t K r e) (rows_at l su u) ∙ sym (sum_zero (asked t K) (λ r. mute_asks t K r e) (rows_at l st u)))
      (λ e. let b = both (ltb u t) (F u) (rw e at a.1) in asks_same t u a.0 (before (of_lt u t b.0) b.1))

  as_many : (t : ℕ) → 1 ≤ t → t ≤ n → F t ≡ true → ((u : ℕ) → 1 ≤ u → u ≤ n → u < t → F u ≡ true → Same u) → length (rows_at l su t) ≡ length (rows_at l st t)
  unfolding follows
  as_many t a b f before =
      let x = both (unlacked t l) _ (ap (λ (c : Bool). cond c (follows F n l t) (avoids t l)) (sym f) ∙ at_table F n l test t a b) in
      let c : asked t l (get_or su 0 []) ≡ asked t l (get_or st 0 []) = sym (asked_shown bs t l (get_or su 0 []) x.0) ∙ ap (asked_of t l) own ∙ asked_settled lent t l (get_or st 0 []) x.0 in
      let d : sum (λ u. sum (asked t (kind_of u l)) (rows_at l su u)) (from 1 n) ≡ sum (λ u. sum (asked t (kind_of u l)) (rows_at l st u)) (from 1 n) =
      sum_same (λ u. (1 ≤ u) × (u ≤ n)) _ _ (λ u h. asks t u (all_from (λ u. unlacked t (kind_of u l) && cond (mute t (kind_of u l)) true (ltb u t && F u)) 1 n u x.1 h.0 (let k = h.1 in omega arith)) (λ i g. before u h.0 h.1 i g))
      (from 1 n) (in_from 1 n (λ u. (1 ≤ u) × (u ≤ n)) (λ u i j. (i, omega arith))) in
      sym (adds (length bs) n l su read_again t a b) ∙ (λ i. c i + d i) ∙ adds (length lent) n l st lent-good t a b

  from_below : (k t : ℕ) → t < k → 1 ≤ t → t ≤ n → F t ≡ true → Same t
  from_below zero t h a b f = absurd (omega arith)
  from_below (suc k) t h a b f =
      let e = as_many t a b f (λ u i j g c. from_below k u (omega arith) i j c) in
      let z : chunks (length (rows_at l st t)) (row_width (kind_of t l)) (get_or st t []) ≡ rows_at l st t = unfold rows_at rows_of in ap (λ (n : ℕ). chunks n (row_width (kind_of t l)) (get_or st t [])) (rows_many (row_width (kind_of t l)) (get_or st t [])) in
      rows t a b ∙ ap (map (settled_row lent (kind_of t l))) (ap (λ (m : ℕ). chunks m (row_width (kind_of t l)) (get_or st t [])) e ∙ z)

  pub every_row : (t : ℕ) → 1 ≤ t → t ≤ n → F t ≡ true → Same t
  every_row t a b f = from_below (suc t) t (omega arith) a b f

-- ---- the theorem, of a message

-- what version v owes, where it has the rows of the tables F
pub record Follows (m : Message) (F : ℕ → Bool) (v : ℕ) : Type 0 where
  pub kinds : Kinds (shape m v) (shape m v)
  pub no_null : NoNull (shape m v)
  -- 13 is judged alike at this version
  pub judged : (size : ℕ) (st : Tables) → good size m.tables (shape m 0) st ≡ good size m.tables (shape m v) st
  pub test : followed F m.tables (shape m v) ≡ true

apart : (t : ℕ) → 1 ≤ t → eqb t 0 ≡ false
apart t a = ne_eqb t 0 (λ e. omega arith)

module _ (m : Message) (h : proper m ≡ true) (F : ℕ → Bool) (v : ℕ) (known : v ≤ m.last) (o : Follows m F v) where
  abbrev l : Shape
  l = shape m v

  owes : Owes (suc m.tables) l l
  owes = owed m h v known

  wide : (t : ℕ) → 1 ≤ t → t ≤ m.tables → 0 < row_width (kind_of t l)
  unfolding width_at
  wide t a b = (width_same m h v known t a b).0

  writable : Writable m.tables l
  writable = record {
    within_it = owes.names;
    free = owes.free;
    tree = owes.tree;
    eats = owes.eating;
    no_null = o.no_null;
    kinds = o.kinds;
    named = in_from 1 m.tables (λ t. (eqb t 0 ≡ false) × (0 < row_width (kind_of t l))) (λ t a b. (apart t a, wide t a (omega arith)));
  }

  module _ (w : Bool) (s : List ℕ) (st : Tables) (n : ℕ) (short : length s ≤ most + 4) (d : read_rows w append l 0 (replicate (suc m.tables) []) 0 s ≡ ok st n) where
    holds : Holds w l s n st
    holds = tables_hold w l (suc m.tables) s st n (omega arith) owes.names owes.free owes.tree d

    -- tables that were read can be written: 13 is not given for them
    pub good_again : good (length s) m.tables (shape m 0) st ≡ true
    good_again = o.judged (length s) st ∙ read_good w m.tables l s n st writable holds (omega arith)

  module _ (w : Bool) (lent : List ℕ) (st : Tables) (bs : List ℕ) (n : ℕ) (tables-lent : length st ≡ suc m.tables) (short : length bs ≤ most + 4)
      (lent-good : good (length lent) m.tables (shape m 0) st ≡ true) (d : Laid w l (suc m.tables) bs (meant lent st l) n) where
    own_back : shown_row bs l (get_or d.st 0 []) ≡ settled_row lent l (get_or st 0 [])
    own_back = own_settled w l (suc m.tables) lent st bs n (omega arith) owes.names owes.eating (omega arith) owes.free d (omega arith)

    rows_back : (t : ℕ) → 1 ≤ t → t ≤ m.tables → map (shown_row bs (kind_of t l)) (rows_at l d.st t) ≡ map (settled_row lent (kind_of t l)) (chunks (length (rows_at l d.st t)) (row_width (kind_of t l)) (get_or st t []))
    unfolding rows_at
    rows_back t a b = rows_settled w l (suc m.tables) lent st bs n (omega arith) owes.names owes.eating (omega arith) owes.free d owes.tree o.kinds t (apart t a) (wide t a b) (omega arith)

    pub returned : Returned m F v lent st bs d.st
    returned = record {
      tables = tables_read w l (suc m.tables) lent st bs n (omega arith) owes.names owes.eating (omega arith) owes.free d;
      own_row = own_back;
      rows = every_row F m.tables l lent bs st d.st o.test own_back rows_back (sym (o.judged (length lent) st) ∙ lent-good) (sym (o.judged (length bs) d.st) ∙ good_again w bs d.st n short d.reads);
      none = λ t a b f.
          let e = ap (λ (c : Bool). cond c (follows F m.tables l t) (avoids t l)) (sym f) ∙ at_table F m.tables l o.test t a b in
          let x = holds w bs d.st n short d.reads in
          x.others t (apart t a) ∙ ap joined (free_rows t l x.x (avoids_free t l e));
    }
