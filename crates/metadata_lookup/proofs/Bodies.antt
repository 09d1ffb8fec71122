-- The search for a host: each way out, one reader behind the other and broker by broker. In a message that is accepted, the rows that it reads are those of the brokers' table: so what is found is what the lookup tells, and the whole answer.
use mathlib.Core.Bool.{Bool, cond, false, true}
use mathlib.Core.List.{List, [], ◌++◌, ◌∷◌, append-nil, map}
use mathlib.Core.Logic.{◌≢◌}
use mathlib.Core.Option.{some}
use mathlib.Core.Path.{◌∙◌, ◌≡◌, ap, refl, subst, sym}
use Prim.Native.Nat.{◌+◌, ◌-◌, ◌<◌, ◌≤◌, suc, zero, ℕ}
use native.Mathlib.Omega.{arith}
use native.Mathlib.Nat.{zero-add}
use lib.ListN.{get_or, length}
use lib.Dec.{leb}
use lib.IntN.{pos, ℤ}
use borrow.Author.Tests.{eq-eqb, ne_eqb}
use Rattle.layout.specs.Reading.{Reader, Refusal, Res, bad, give, many, more, ok, pair, then}
use Rattle.layout.specs.Tables.{Span, Tables, absent_cells, arrays, cells, first_row, kind_in, kind_of, row_width, rows_of, width}
use Rattle.layout.specs.Lookup.{Host, found, host_of, lookup, refused, unknown}
use Rattle.body_reading.specs.Walk.{item_count, on, row_from}
use Rattle.body_reading.specs.Fronts.{front_of}
use Rattle.metadata_response.specs.Brokers.{broker_shape}
use Rattle.layout.specs.Primitives.{admits, checked, empty, fixed, length_of, refusal, sized, unsigned, w32}
use Rattle.layout.specs.Rows.{Basic, Shape, Value, absent, array, at, done, end, field, int32, items, maybe, nullable_string, number, optional, row, rows, standing, stands}
use Rattle.layout.specs.Read.{by_place, counted, read, read_basic}
use Rattle.layout.specs.Answers.{seen, shape}
use Rattle.layout.specs.Messages.Metadata.{broker_rows, node_rows, partition_rows, response, response_rows, topic_rows}
use Rattle.body_reading.specs.Moved.{array_items}
use Rattle.primitives.specs.Answers.{version_of}
use Rattle.body_reading.specs.Meter.{metered}
use Rattle.metadata_lookup.specs.Hosts.{Seeks, brokers_of}
use Rattle.layout.proofs.Local.{not_ok}
use Rattle.body_reading.proofs.Chains.{both, give_took, same_end, same_value, then_no, then_took}
use Rattle.layout.proofs.Calls.{Seen, seen_inv, tables_are}
use Rattle.layout.proofs.Contents.{Free, Holds, flatten, free_rows, joined, row_cells, rows_back, rows_wide, rows_in}
use Rattle.layout.proofs.Every.{All}
use Rattle.layout.proofs.Looked.{lookup_refuses, lookup_rows}
use Rattle.layout.proofs.Proper.{metadata_response_lem, owed, width_same, width_at}
use Rattle.body_reading.proofs.Front.{Flat}
use Rattle.body_reading.proofs.RowCells.{cells_absent, cells_end, cells_took, read_row}
use Rattle.body_reading.proofs.Fronts.{count_took}
use Rattle.metadata_response.proofs.BrokerRows.{broker_flat}

-- ---- a search behind something else

module _ {A : Type 0} (r : Reader A) (f : A → Reader (List (List ℕ))) (s : List ℕ) (p node : ℕ) (h : Host) where
  pub seeks_no : (c : Refusal) → bad c ≡ on r s p → Seeks (then r f) s p node h
  seeks_no c e = record { law = λ rs q d. not_ok (then_no r f s p e ∙ sym d) }

  pub seeks_behind : (x : A) (u : ℕ) → ok x u ≡ on r s p → Seeks (f x) s u node h → Seeks (then r f) s p node h
  seeks_behind x u e w = record { law = λ rs q d. w.law rs q (d ∙ sym (then_took r f s p e refl)) }

-- ---- rows, one after the other

module _ (r : Reader (List ℕ)) (s : List ℕ) (node : ℕ) where
  pub none_left : (n p : ℕ) → n ≤ 0 → Seeks (many n r) s p node unknown
  unfolding many first_row
  none_left zero p l = record { law = λ rs q d. let e : rs ≡ [] = same_value (d ∙ sym (give_took [] s p)) in rw e }
  none_left (suc n) p l = absurd (omega arith)

  pub row_no : (n p : ℕ) → 0 < n → (c : Refusal) → bad c ≡ on r s p → (h : Host) → Seeks (many n r) s p node h
  unfolding many
  row_no zero p l c e h = absurd (omega arith)
  row_no (suc n) p l c e h = seeks_no r _ s p node h c e

  -- the rows are this one and those behind it
  record Rest (n : ℕ) (cs : List ℕ) (u : ℕ) (rs : List (List ℕ)) (q : ℕ) : Type 0 where
    behind : List (List ℕ)
    is : rs ≡ cs ∷ behind
    is_read : ok behind q ≡ on (many n r) s u

  rest : (n p : ℕ) (cs : List ℕ) (u : ℕ) → ok cs u ≡ on r s p → (rs : List (List ℕ)) (q : ℕ) → ok rs q ≡ on (many (suc n) r) s p → Rest n cs u rs q
  unfolding many
  rest n p cs u e rs q d =
      let a = both (many n r) (λ xs. give (cs ∷ xs)) s u rs q (d ∙ sym (then_took r (λ x. then (many n r) (λ xs. give (x ∷ xs))) s p e refl)) in
      let g = a.second ∙ sym (give_took (cs ∷ a.x) s a.u) in
      record { behind = a.x; is = same_value g; is_read = ap (λ (j : ℕ). ok a.x j) (same_end g) ∙ a.first }

  module _ (n p : ℕ) (l : 0 < n) (cs : List ℕ) (u : ℕ) (e : ok cs u ≡ on r s p) where
    pub row_here : get_or cs 0 0 ≡ node → Seeks (many n r) s p node (found (get_or cs 1 0) (get_or cs 2 0))
    unfolding first_row
    row_here g = record { law = λ rs q d. go n l rs q d }
      where
        told : (rs : List (List ℕ)) (m q : ℕ) → Rest m cs u rs q → found (get_or cs 1 0) (get_or cs 2 0) ≡ host_of (first_row node rs)
        told rs m q a = sym (ap (λ (t : List (List ℕ)). host_of (first_row node t)) a.is ∙ ap (λ (b : Bool). host_of (cond b (some cs) (first_row node a.behind))) (eq-eqb (get_or cs 0 0) node g))

        go : (n : ℕ) → 0 < n → (rs : List (List ℕ)) (q : ℕ) → ok rs q ≡ on (many n r) s p → found (get_or cs 1 0) (get_or cs 2 0) ≡ host_of (first_row node rs)
        go zero l rs q d = absurd (omega arith)
        go (suc m) l rs q d = told rs m q (rest m p cs u e rs q d)

    pub row_past : get_or cs 0 0 ≢ node → (h : Host) → Seeks (many (n - 1) r) s u node h → Seeks (many n r) s p node h
    unfolding first_row
    row_past g h w = record { law = λ rs q d. go n l w rs q d }
      where
        told : (rs : List (List ℕ)) (m q : ℕ) → Seeks (many m r) s u node h → Rest m cs u rs q → h ≡ host_of (first_row node rs)
        told rs m q w a =
            w.law a.behind q a.is_read
            ∙ sym (ap (λ (t : List (List ℕ)). host_of (first_row node t)) a.is ∙ ap (λ (b : Bool). host_of (cond b (some cs) (first_row node a.behind))) (ne_eqb (get_or cs 0 0) node g))

        go : (n : ℕ) → 0 < n → Seeks (many (n - 1) r) s u node h → (rs : List (List ℕ)) (q : ℕ) → ok rs q ≡ on (many n r) s p → h ≡ host_of (first_row node rs)
        go zero l w rs q d = absurd (omega arith)
        go (suc m) l w rs q d =
            let k : suc m - 1 ≡ m = omega arith in
            told rs m q (subst (λ (j : ℕ). Seeks (many j r) s u node h) k w) (rest m p cs u e rs q d)

  -- ---- the loop: what is found among those left is what is found among all

  module _ (count at : ℕ) where
    pub record Left (n p : ℕ) : Type 0 where
      pub law : (h : Host) → Seeks (many n r) s p node h → Seeks (many count r) s at node h

    -- after i turns
    abbrev pub After : ℕ → ℕ → Type 0
    After i p = Left (count - i) p

    pub left_all : After 0 at
    left_all =
        let m : count - 0 ≡ count = omega arith in
        record { law = λ h w. subst (λ (n : ℕ). Seeks (many n r) s at node h) m w }

    module _ (i p : ℕ) (w : After i p) where
      pub left_none : count ≤ i → Seeks (many count r) s at node unknown
      left_none l = w.law unknown (none_left (count - i) p (omega arith))

      module _ (l : i < count) where
        pub left_no : (c : Refusal) → bad c ≡ on r s p → (h : Host) → Seeks (many count r) s at node h
        left_no c e h = w.law h (row_no (count - i) p (omega arith) c e h)

        module _ (cs : List ℕ) (u : ℕ) (e : ok cs u ≡ on r s p) where
          pub left_here : get_or cs 0 0 ≡ node → Seeks (many count r) s at node (found (get_or cs 1 0) (get_or cs 2 0))
          left_here g = w.law (found (get_or cs 1 0) (get_or cs 2 0)) (row_here (count - i) p (omega arith) cs u e g)

          pub left_past : get_or cs 0 0 ≢ node → After (i + 1) u
          left_past g =
              let m : count - (i + 1) ≡ count - i - 1 = omega arith in
              record { law = λ h v. w.law h (row_past (count - i) p (omega arith) cs u e g h (subst (λ (n : ℕ). Seeks (many n r) s u node h) m v)) }

-- ---- behind the front of a body

module _ (racked throttled : Bool) (s : List ℕ) (node : ℕ) (h : Host) where
  pub front_no : (c : Refusal) → bad c ≡ on (front_of throttled) s 0 → Seeks (brokers_of racked throttled) s 0 node h
  unfolding brokers_of
  front_no c e = seeks_no (front_of throttled) _ s 0 node h c e

  pub among : (cs : List ℕ) (n q : ℕ) → ok (cs, n) q ≡ on (front_of throttled) s 0 → Seeks (many n (row_from [] (broker_shape racked))) s q node h → Seeks (brokers_of racked throttled) s 0 node h
  unfolding brokers_of
  among cs n q e w = seeks_behind (front_of throttled) _ s 0 node h (cs, n) q e w

-- ---- where values are read, their cells are

module _ (l : Shape) (f : Flat l) (s : List ℕ) where
  rows_for : (n p q : ℕ) (ys : List (Value Span l)) → ok ys q ≡ on (many n (read (by_place false) l)) s p → ok (map (row_cells l) ys) q ≡ on (many n (row_from [] l)) s p
  unfolding many
  rows_for zero p q ys e =
      let g = e ∙ sym (give_took [] s p) in
      (λ i. ok (map (row_cells l) (same_value g i)) (same_end g i)) ∙ give_took [] s p
  rows_for (suc n) p q ys e =
      let a = both (read (by_place false) l) (λ x. then (many n (read (by_place false) l)) (λ xs. give (x ∷ xs))) s p ys q e in
      let b = both (many n (read (by_place false) l)) (λ xs. give (a.x ∷ xs)) s a.u ys q a.second in
      let g = b.second ∙ sym (give_took (a.x ∷ b.x) s b.u) in
      (λ i. ok (map (row_cells l) (same_value g i)) (same_end g i))
      ∙ then_took (row_from [] l) (λ x. then (many n (row_from [] l)) (λ xs. give (x ∷ xs))) s p (read_row l f s p [] a.x a.u a.first)
      (then_took (many n (row_from [] l)) (λ xs. give (row_cells l a.x ∷ xs)) s a.u (rows_for n a.u b.u b.x b.first) (give_took (row_cells l a.x ∷ map (row_cells l) b.x) s b.u))

-- ---- a body: perhaps a throttle time, the brokers, and anything that leaves their table alone

one_each : {A B : Type 0} (g : A → B) (xs : List A) → flatten (λ x. g x ∷ []) xs ≡ map g xs
one_each g [] = refl
one_each g (x ∷ xs) = ap (λ ys. g x ∷ ys) (one_each g xs)

module _ (racked throttled : Bool) (s : List ℕ) where
  -- the search reads the rows of table 1
  pub record Brought (l : Shape) (x : Value Span l) : Type 0 where
    pub q : ℕ
    pub is : ok (rows_in 1 l x) q ≡ on (brokers_of racked throttled) s 0

  module _ (tail : Shape) (free : Free 1 tail) where
    abbrev time : Basic
    time = optional (0 ∷ []) (number w32)

    abbrev brokers : Shape
    brokers = array (fixed w32 empty) 1 (broker_shape racked) tail

    rows_are : (x : Value Span brokers) → map (row_cells (broker_shape racked)) x.0 ≡ rows_in 1 brokers x
    unfolding rows_in
    rows_are x = sym ((λ i. one_each (row_cells (broker_shape racked)) x.0 i ++ free_rows 1 tail x.1 free i) ∙ append-nil (map (row_cells (broker_shape racked)) x.0))

    -- the rows that are read behind their number
    record From (p : ℕ) (rs : List (List ℕ)) : Type 0 where
      n : ℕ
      m : ℕ
      u : ℕ
      count : ok n m ≡ on (item_count false (fixed w32 empty)) s p
      is : ok rs u ≡ on (many n (row_from [] (broker_shape racked))) s m

    abbrev count : Reader ℕ
    count = checked (admits false (fixed w32 empty)) (refusal (fixed w32 empty)) (length_of unsigned (fixed w32 empty))

    abbrev values : Reader (List (Value Span (broker_shape racked)))
    values = counted (by_place false) (fixed w32 empty) (λ n. many n (read (by_place false) (broker_shape racked)))

    -- the cells of values that are read behind their number
    counted_rows : (p u : ℕ) (ys : List (Value Span (broker_shape racked))) → ok ys u ≡ on values s p → From p (map (row_cells (broker_shape racked)) ys)
    unfolding sized item_count
    counted_rows p u ys e =
        let c = both count (λ n. many (n - 1) (read (by_place false) (broker_shape racked))) s p ys u e in
        record {
          n = c.x - 1;
          m = c.u;
          u = u;
          count = then_took count (λ n. give (n - 1)) s p c.first (give_took (c.x - 1) s c.u);
          is = rows_for (broker_shape racked) (broker_flat racked) s (c.x - 1) c.u u ys c.second;
        }

    from : (p n : ℕ) (x : Value Span brokers) → ok x n ≡ on (read (by_place false) brokers) s p → From p (rows_in 1 brokers x)
    unfolding read pair
    from p n x e =
        let a = both values (λ ys. then (read (by_place false) tail) (λ y. give (ys, y))) s p x n e in
        let b = both (read (by_place false) tail) (λ y. give (a.x, y)) s a.u x n a.second in
        let g = b.second ∙ sym (give_took (a.x, b.x) s b.u) in
        let k : x.0 ≡ a.x = ap (λ y. y.0) (same_value g) in
        subst (From p) (sym (ap (map (row_cells (broker_shape racked))) k) ∙ rows_are x) (counted_rows p a.u a.x a.first)

    -- behind the front, which holds the number
    behind_front : (l : Shape) (x : Value Span l) (cs : List ℕ) (p : ℕ) → ok cs p ≡ on (row_from [] (stands throttled time end)) s 0 → From p (rows_in 1 l x) → Brought l x
    unfolding brokers_of array_items
    behind_front l x cs p e w = record { q = w.u; is = then_took (front_of throttled) (λ y. many y.1 (row_from [] (broker_shape racked))) s 0 (count_took throttled s cs p e w.n w.m w.count) w.is }

    -- with a throttle time and without
    there : (n : ℕ) (x : Value Span (field time brokers)) → throttled ≡ true → ok x n ≡ on (read (by_place false) (field time brokers)) s 0 → Brought (field time brokers) x
    unfolding read pair rows_in stands
    there n x t e =
        let a = both (read_basic (by_place false) time) (λ y. then (read (by_place false) brokers) (λ z. give (y, z))) s 0 x n e in
        let b = both (read (by_place false) brokers) (λ z. give (a.x, z)) s a.u x n a.second in
        let g = b.second ∙ sym (give_took (a.x, b.x) s b.u) in
        let k : b.x ≡ x.1 = sym (ap (λ y. y.1) (same_value g)) in
        behind_front (field time brokers) x (cells time a.x) a.u
        (subst (λ (b : Bool). ok (cells time a.x) a.u ≡ on (row_from [] (stands b time end)) s 0) (sym t) (cells_took [] time end s 0 a.x a.u a.first _ (cells_end (cells time a.x) s a.u)))
        (from a.u b.u x.1 (ap (λ y. ok y b.u) (sym k) ∙ b.first))

    lacking : (n : ℕ) (x : Value Span (absent time brokers)) → throttled ≡ false → ok x n ≡ on (read (by_place false) (absent time brokers)) s 0 → Brought (absent time brokers) x
    unfolding read rows_in stands
    lacking n x t e =
        behind_front (absent time brokers) x (absent_cells time) 0
        (subst (λ (b : Bool). ok (absent_cells time) 0 ≡ on (row_from [] (stands b time end)) s 0) (sym t) (cells_absent [] time end s 0 _ (cells_end (absent_cells time) s 0))) (from 0 n x e)

    pub brought : (l : Shape) → l ≡ stands throttled time brokers → (x : Value Span l) (n : ℕ) → ok x n ≡ on (read (by_place false) l) s 0 → Brought l x
    unfolding stands
    brought l e x n d = go throttled refl l e x n d
      where
        go : (b : Bool) → throttled ≡ b → (l : Shape) → l ≡ stands b time brokers → (x : Value Span l) (n : ℕ) → ok x n ≡ on (read (by_place false) l) s 0 → Brought l x
        go true t l e = subst (λ (j : Shape). (x : Value Span j) (n : ℕ) → ok x n ≡ on (read (by_place false) j) s 0 → Brought j x) (sym e) (λ x n d. there n x t d)
        go false t l e = subst (λ (j : Shape). (x : Value Span j) (n : ℕ) → ok x n ≡ on (read (by_place false) j) s 0 → Brought j x) (sym e) (λ x n d. lacking n x t d)

-- ---- the response is such a body

-- behind the brokers
abbrev tail : ℕ → Shape
tail v = at 9 v (row 2 4 nullable_string (row 1 4 (maybe (0 ∷ []) int32) (rows 0 4 items 2 topic_rows done)))

record Body (v : ℕ) : Type 0 where
  free : Free 1 (tail v)
  is : shape response v ≡ stands (leb 3 v) (optional (0 ∷ []) (number w32)) (array (fixed w32 empty) 1 (broker_shape (leb 1 v)) (tail v))

body : (v : ℕ) → v ≤ 4 → Body v
unfolding shape at stands standing broker_rows node_rows partition_rows topic_rows response_rows broker_shape
body zero h = record { free = (refl, (refl, (refl, tt, (refl, tt, tt)), tt), tt); is = refl }
body (suc zero) h = record { free = (refl, (refl, (refl, tt, (refl, tt, tt)), tt), tt); is = refl }
body (suc (suc zero)) h = record { free = (refl, (refl, (refl, tt, (refl, tt, tt)), tt), tt); is = refl }
body (suc (suc (suc zero))) h = record { free = (refl, (refl, (refl, tt, (refl, tt, tt)), tt), tt); is = refl }
body (suc (suc (suc (suc zero)))) h = record { free = (refl, (refl, (refl, tt, (refl, tt, tt)), tt), tt); is = refl }
body (suc (suc (suc (suc (suc v))))) h = absurd (omega arith)

-- a broker's row has seven cells
seven : width_at response 0 1 ≡ 7
unfolding width_at kind_of kind_in arrays row_width width shape at stands standing broker_rows node_rows partition_rows topic_rows response_rows
seven = refl

module _ (node v : ℕ) (s : List ℕ) (st : Tables) (n : ℕ) (e : seen false response (pos v) s ≡ ok st n) (h : Host) (w : Seeks (brokers_of (leb 1 v) (leb 3 v)) s 0 node h) where
  told : (x : Value Span (shape response v)) → All (λ r. length r ≡ 7) (rows_in 1 (shape response v) x) → get_or st 1 [] ≡ joined (rows_in 1 (shape response v) x) → Brought (leb 1 v) (leb 3 v) s (shape response v) x → h ≡ lookup node (pos v) s
  told x a b c =
      w.law (rows_in 1 (shape response v) x) c.q c.is
      ∙ ap (λ (rs : List (List ℕ)). host_of (first_row node rs)) (sym (ap (rows_of 7) b ∙ rows_back 7 (rows_in 1 (shape response v) x) (omega arith) a))
      ∙ sym (lookup_rows node (pos v) s st n e)

  -- what the search found
  pub as_lookup : h ≡ lookup node (pos v) s
  unfolding width_at on
  as_lookup = go (seen_inv false response (pos v) s st n e)
    where
      held : v ≤ 4 → Holds false (shape response v) s n st → Body v → h ≡ lookup node (pos v) s
      held k d b =
          told d.x
          (subst (λ (m : ℕ). All (λ r. length r ≡ m) (rows_in 1 (shape response v) d.x)) ((width_same response metadata_response_lem v k 1 (omega arith) (omega arith)).1 ∙ seven) (rows_wide (λ t. width_at response v t) 1 (shape response v) d.x (owed response metadata_response_lem v k).wide))
          (d.others 1 refl)
          (brought (leb 1 v) (leb 3 v) s (tail v) b.free (shape response v) b.is d.x n (sym (ap (more 0) d.reads ∙ ap (λ (j : ℕ). ok d.x j) (zero-add n))))

      go : Seen false response (pos v) s st n → h ≡ lookup node (pos v) s
      go d =
          let k : d.version ≡ v = (let i = d.is in cc) in
          let l : v ≤ 4 = subst (λ (j : ℕ). j ≤ 4) k d.known in
          held l (subst (λ (j : ℕ). Holds false (shape response j) s n st) k (tables_are response metadata_response_lem false (pos v) s st n d)) (body v l)

module _ (node : ℕ) (z : ℤ) (s : List ℕ) where
  -- the message is refused
  pub answer_no : (c : Refusal) → bad c ≡ metered (seen false response z s) → refused c ≡ lookup node z s
  unfolding metered
  answer_no c e = go (seen false response z s) refl e
    where
      go : (o : Res Tables) → seen false response z s ≡ o → bad c ≡ metered o → refused c ≡ lookup node z s
      go (ok st n) d e = not_ok e
      go (bad b) d e = let k : c ≡ b = cc in sym ((lookup_refuses node z s c).1 (d ∙ ap bad (sym k)))

  -- or else the first broker of the node decides
  pub answer_took : (y : List ℕ × List ℕ) (n : ℕ) → ok y n ≡ metered (seen false response z s) → (v : ℕ) → v ≡ version_of z → (h : Host) → Seeks (brokers_of (leb 1 v) (leb 3 v)) s 0 node h → h ≡ lookup node z s
  unfolding metered
  answer_took y n e v i h w = go (seen false response z s) refl e
    where
      known : (st : Tables) (k : ℕ) → seen false response z s ≡ ok st k → Seen false response z s st k → h ≡ lookup node z s
      known st k d a =
          let j : v ≡ a.version = i ∙ ap version_of a.is in
          let u = subst (λ (m : ℕ). Seeks (brokers_of (leb 1 m) (leb 3 m)) s 0 node h) j w in
          as_lookup node a.version s st k (ap (λ (x : ℤ). seen false response x s) (sym a.is) ∙ d) h u ∙ ap (λ (x : ℤ). lookup node x s) (sym a.is)

      go : (o : Res Tables) → seen false response z s ≡ o → ok y n ≡ metered o → h ≡ lookup node z s
      go (ok st k) d e = known st k d (seen_inv false response z s st k d)
      go (bad b) d e = not_ok (sym e)
