-- The whole reply of a call, from what its measuring and its filling walk came to: for every proper message and any number of lent tables. Room is judged table by table, in their order.
use mathlib.Core.Bool.{Bool, cond, false, true}
use mathlib.Core.List.{List, [], ◌++◌, ◌∷◌, map}
use mathlib.Core.Option.{none, some}
use mathlib.Core.Path.{◌∙◌, ◌≡◌, ap, refl, subst, sym}
use Prim.Native.Nat.{◌*◌, ◌+◌, ◌/◌, ◌<◌, ◌≤◌, suc, zero, ℕ}
use native.Mathlib.Nat.{add-zero, div-mul-le_self, div-one, le_of_eq, le_trans, mul-le-mul_right, zero-add}
use native.Mathlib.Omega.{arith}
use lib.Dec.{eqb, leb}
use lib.IntN.{pos}
use lib.ListN.{drop, get_or, length, replicate}
use lib.Seq.{sets, sets-eq}
use borrow.Author.Tests.{ne_eqb}
use Rattle.layout.specs.Reading.{Refusal, Res, bad, because, no_room, ok}
use Rattle.layout.specs.Tables.{Tables, append, from, read_rows, row_width}
use Rattle.layout.specs.Answers as Answers
use Rattle.layout.specs.Answers.{Message, accepted, judged, laid, most, needed, prefix_read, read_answer, refused, seen, shape, widths}
use Rattle.body_reading.specs.Meter.{lengths, short}
use Rattle.body_reading.specs.Store.{State, own}
use Rattle.body_reading.specs.Walk.{on, walk}
use Rattle.layout.proofs.Calls.{Seen, need_is, read_refused, seen_inv, tables_of, too_long_lem}
use Rattle.layout.proofs.Contents.{joined_length, rows_wide, rows_in}
use Rattle.layout.proofs.Proper.{owed, proper, width_same, width_at}
use Rattle.layout.proofs.Tests.{le-false, le-true, lt-false, lt-true, of_le}
use Rattle.primitives.proofs.Versions.{up_to}
use Rattle.body_reading.proofs.Bound.{lean, slim, slim_at}
use Rattle.body_reading.proofs.Close.{Ended, ended, ended_no, filled, marks, none_yet_lem, runs_so, slices, slices_tabs, tabs}

-- ---- rows for rows

pub needed_is : (ws : List ℕ) (st room : Tables) → needed ws st room ≡ short ws (lengths st) (lengths room)
unfolding needed short
needed_is [] st room = refl
needed_is (w ∷ ws) [] room = refl
needed_is (w ∷ ws) (cs ∷ st) [] = ap (λ o. cond (eqb (length cs / w) 0) o (some (length cs / w))) (needed_is ws st [])
needed_is (w ∷ ws) (cs ∷ st) (old ∷ room) = ap (λ o. cond (leb (length cs / w) (length old / w)) o (some (length cs / w))) (needed_is ws st room)

-- no row is cut
abbrev Uncut : List ℕ → Tables → Type 0
Uncut ws [] = Unit {0}
Uncut [] (cs ∷ st) = ⊥
Uncut (w ∷ ws) (cs ∷ st) = (length cs ≡ length cs / w * w) × Uncut ws st

fits_in : (w : ℕ) (cs old : List ℕ) → length cs ≡ length cs / w * w → leb (length cs / w) (length old / w) ≡ true → length cs ≤ length old
fits_in w cs old e h = le_trans (le_of_eq e) (le_trans (mul-le-mul_right w (of_le _ _ h)) (div-mul-le_self (length old) w))

sets_laid : (l cs : List ℕ) → length cs ≤ length l → sets l 0 cs ≡ cs ++ drop (length cs) l
sets_laid l cs h = sets-eq cs l 0 (rw zero-add h) ∙ ap (λ (k : ℕ). cs ++ drop k l) (zero-add (length cs))

-- where all has room, what was stored is what the definition lays
filled_laid : (ws : List ℕ) (olds st : Tables) → length st ≡ length olds → Uncut ws st → needed ws st olds ≡ none → filled olds st ≡ laid st olds
unfolding needed laid
filled_laid ws [] [] e u h = refl
filled_laid ws [] (cs ∷ st) e u h = absurd (omega (arith, e))
filled_laid ws (l ∷ olds) [] e u h = absurd (omega (arith, e))
filled_laid [] (l ∷ olds) (cs ∷ st) e u h = absurd u
filled_laid (w ∷ ws) (l ∷ olds) (cs ∷ st) e u h =
    go (leb (length cs / w) (length l / w)) refl h (λ g. filled_laid ws olds st (let k : length st ≡ length olds = omega (arith, e) in k) u.1 g)
  where
    go : (b : Bool) → leb (length cs / w) (length l / w) ≡ b → cond b (needed ws st olds) (some (length cs / w)) ≡ none → (needed ws st olds ≡ none → filled olds st ≡ laid st olds) → sets l 0 cs ∷ filled olds st ≡ (cs ++ drop (length cs) l) ∷ laid st olds
    go true d g rec = λ i. sets_laid l cs (fits_in w cs l u.0 d) i ∷ rec g i
    go false d g rec = absurd (let z : ◌≡◌ {A = ℕ} 0 1 = cc in omega arith)

-- ---- the tables of a message

pub none_same : (olds : Tables) (n : ℕ) → length olds ≡ n → none_yet_lem olds ≡ replicate n []
none_same [] zero e = refl
none_same [] (suc n) e = absurd (omega (arith, e))
none_same (l ∷ olds) zero e = absurd (omega (arith, e))
none_same (l ∷ olds) (suc n) e = ap (λ y. [] ∷ y) (none_same olds n (let k : length olds ≡ n = omega (arith, e) in k))

uncut_from : (g : ℕ → ℕ) (n t : ℕ) (st : Tables) → length st ≡ n → ((i : ℕ) → i < n → length (get_or st i []) ≡ length (get_or st i []) / g (t + i) * g (t + i)) → Uncut (map g (from t n)) st
unfolding from
uncut_from g zero t [] e h = tt
uncut_from g zero t (cs ∷ st) e h = absurd (omega (arith, e))
uncut_from g (suc n) t [] e h = absurd (omega (arith, e))
uncut_from g (suc n) t (cs ∷ st) e h = (
  subst (λ (k : ℕ). length cs ≡ length cs / g k * g k) (add-zero t) (h 0 (omega arith)),
  uncut_from g n (suc t) st (let k : length st ≡ n = omega (arith, e) in k)
      (λ i l. subst (λ (k : ℕ). length (get_or st i []) ≡ length (get_or st i []) / g k * g k) (let k : t + suc i ≡ suc t + i = omega arith in k) (h (suc i) (omega arith))),
)

module _ (m : Message) (h : proper m ≡ true) (w : Bool) (v : ℕ) (known : v ≤ m.last) (s : List ℕ) where
  rows_even : (st : Tables) (q t : ℕ) → read_rows w append (shape m v) 0 (replicate (suc m.tables) []) 0 s ≡ ok st q → 1 ≤ t → t ≤ m.tables → length (get_or st t []) ≡ length (get_or st t []) / width_at m 0 t * width_at m 0 t
  unfolding width_at
  rows_even st q t d a b =
      let e = tables_of m h w v s st q known d in
      let c = width_same m h v known t a b in
      let rs = rows_in t (shape m v) e.x in
      let f = need_is m h w v s st q t e known a b in
      ap length (e.others t (ne_eqb t 0 (λ z. omega arith)))
      ∙ joined_length (width_at m v t) rs (rows_wide (λ t. width_at m v t) t (shape m v) e.x (owed m h v known).wide)
      ∙ (λ i. sym f i * c.1 i)

  pub uncut : (row : List ℕ) (st : Tables) (q : ℕ) → length st ≡ m.tables → read_rows w append (shape m v) 0 (replicate (suc m.tables) []) 0 s ≡ ok (row ∷ st) q → Uncut (widths m) st
  unfolding widths width_at
  uncut row st q e d =
      uncut_from (λ t. width_at m 0 t) m.tables 1 st e
      (λ i l. subst (λ (k : ℕ). length (get_or st i []) ≡ length (get_or st i []) / width_at m 0 k * width_at m 0 k) (let k : suc i ≡ 1 + i = omega arith in k) (rows_even (row ∷ st) q (suc i) d (omega arith) (omega arith)))

-- room is judged by the rows alone, whatever the own row and the bytes used are
module _ (m : Message) (olds : Tables) (row : List ℕ) (st : Tables) (q : ℕ) where
  -- the first table too small
  pub judged_needs : (k : ℕ) → short (widths m) (lengths st) (lengths olds) ≡ some k → judged m olds (ok (row ∷ st) q) ≡ (refused (no_room k), olds)
  judged_needs k e = rw (needed_is (widths m) st olds ∙ e)

  -- all has room
  pub judged_fits : length st ≡ length olds → Uncut (widths m) st → short (widths m) (lengths st) (lengths olds) ≡ none → judged m olds (ok (row ∷ st) q) ≡ (accepted row q, filled olds st)
  judged_fits l u e =
      let n = needed_is (widths m) st olds ∙ e in
      rw n (ap (λ y. (accepted row q, y)) (sym (filled_laid (widths m) olds st l u n)))

module _ (m : Message) (h : proper m ≡ true) (w : Bool) (v : ℕ) (s : List ℕ) where
  seen_uncut : (row : List ℕ) (st : Tables) (q : ℕ) → length st ≡ m.tables → Seen w m (pos v) s (row ∷ st) q → Uncut (widths m) st
  seen_uncut row st q e d = uncut m h w d.version d.known s row st q e d.reads

  module _ (olds : Tables) (many : length olds ≡ m.tables) where
    at_start : read_rows w append (shape m v) 0 ([] ∷ none_yet_lem olds) 0 s ≡ read_rows w append (shape m v) 0 (replicate (suc m.tables) []) 0 s
    at_start = ap (λ y. read_rows w append (shape m v) 0 ([] ∷ y) 0 s) (none_same olds m.tables many)

    -- the bytes are refused
    pub seen_bad : v ≤ m.last → length s ≤ most → (c : Refusal) → read_rows w append (shape m v) 0 ([] ∷ none_yet_lem olds) 0 s ≡ bad c → seen w m (pos v) s ≡ bad c
    unfolding seen
    seen_bad a b c e = rw (le-true v m.last a, le-true (length s) most b, sym at_start ∙ e) (left w)
      where
        left : (w : Bool) → Answers.ended {A = Tables} w (length s) (bad c) ≡ bad c
        left true = refl
        left false = refl

    module _ (row : List ℕ) (st : Tables) (q : ℕ) (d : seen w m (pos v) s ≡ ok (row ∷ st) q) where
      -- the first table too small
      pub reply_needs : (k : ℕ) → short (widths m) (lengths st) (lengths olds) ≡ some k → read_answer w m (pos v) olds s ≡ (refused (no_room k), olds)
      unfolding read_answer
      reply_needs k e = ap (judged m olds) d ∙ judged_needs m olds row st q k e

      -- all has room
      pub reply_fits : length st ≡ length olds → short (widths m) (lengths st) (lengths olds) ≡ none → read_answer w m (pos v) olds s ≡ (accepted row q, filled olds st)
      unfolding read_answer
      reply_fits l e = ap (judged m olds) d ∙ judged_fits m olds row st q l (seen_uncut row st q (l ∙ many) (seen_inv w m (pos v) s (row ∷ st) q d)) e

-- ---- 2, before the bytes are looked at

module _ (m : Message) (w : Bool) (v : ℕ) (s : List ℕ) (olds : Tables) (c : Refusal) where
  pub answers_long : c ≡ because 2 0 → v ≤ m.last → most < length s → (refused c, olds) ≡ read_answer w m (pos v) olds s
  answers_long e h l = sym (read_refused m (pos v) s olds w c (too_long_lem w m v s h l ∙ ap bad (sym e)))

-- ---- versions

-- what holds of 0 to 4, one by one
pub up_to_four : (P : ℕ → Type 0) → P 0 → P 1 → P 2 → P 3 → P 4 → (v : ℕ) → v ≤ 4 → P v
up_to_four P a b c d e = up_to 4 P (a, (b, (c, (d, e))))

-- two of one layout read alike
pub one_layout : (m : Message) (a b : ℕ) → a ≤ m.last → b ≤ m.last → shape m a ≡ shape m b → (olds : Tables) (s : List ℕ) → prefix_read m (pos a) olds s ≡ prefix_read m (pos b) olds s
unfolding prefix_read read_answer seen
one_layout m a b h k e olds s = rw (le-true a m.last h, le-true b m.last k, e)

-- ---- one walk, run twice: over scratch to measure, and over the lent tables to fill

module _ (m : Message) (h : proper m ≡ true) (few : slim m ≡ true) (w : Bool) (v : ℕ) (known : v ≤ m.last) (s : List ℕ) (size : length s ≤ most)
    (olds scratch : Tables) (many : length olds ≡ m.tables) (also : length scratch ≡ m.tables) where
  abbrev pub run : Tables → Res State
  run ts = on (walk w (shape m v) 0 (own [] ∷ tabs ts [])) s 0

  thin : (lean (shape m v) ≡ true) × (row_width (shape m v) ≤ 1000)
  thin = slim_at m few v known

  -- the bytes are refused
  pub answers_no : (c : Refusal) → bad c ≡ run scratch → (refused c, olds) ≡ read_answer w m (pos v) olds s
  answers_no c e = sym (read_refused m (pos v) s olds w c (seen_bad m h w v s scratch also known size c (ended_no w (shape m v) thin.0 thin.1 s (omega (arith, size)) scratch e)))

  module _ (cs : List ℕ) (u : State) (q : ℕ) (first : ok (own cs ∷ u) q ≡ run scratch) where
    measured : Ended w (shape m v) s scratch cs u q
    measured = ended w (shape m v) thin.0 thin.1 s (omega (arith, size)) scratch first

    of_message : (st : Tables) → read_rows w append (shape m v) 0 ([] ∷ none_yet_lem scratch) 0 s ≡ ok st q → read_rows w append (shape m v) 0 (replicate (suc m.tables) []) 0 s ≡ ok st q
    of_message st e = ap (λ y. read_rows w append (shape m v) 0 ([] ∷ y) 0 s) (sym (none_same scratch m.tables also)) ∙ e

    -- 9: a whole read that leaves bytes
    pub answers_left : w ≡ true → q < length s → (refused (because 9 q), olds) ≡ read_answer w m (pos v) olds s
    unfolding seen
    answers_left i l = go measured
      where
        go : Ended w (shape m v) s scratch cs u q → (refused (because 9 q), olds) ≡ read_answer w m (pos v) olds s
        go d = sym (read_refused m (pos v) s olds w (because 9 q) (rw (le-true v m.last known, le-true (length s) most size, of_message _ d.is, i, lt-true q (length s) l)))

    module _ (to_end : w ≡ true → length s ≤ q) where
      has_seen : (st : Tables) → read_rows w append (shape m v) 0 ([] ∷ none_yet_lem scratch) 0 s ≡ ok st q → seen w m (pos v) s ≡ ok st q
      unfolding seen
      has_seen st e = rw (le-true v m.last known, le-true (length s) most size, of_message st e) (left w refl)
        where
          left : (b : Bool) → w ≡ b → Answers.ended {A = Tables} b (length s) (ok st q) ≡ ok st q
          left true i = rw (lt-false q (length s) (to_end i))
          left false i = refl

      -- 10: the first table too small
      pub answers_needs : (k : ℕ) → short (widths m) (marks u) (lengths olds) ≡ some k → (refused (no_room k), olds) ≡ read_answer w m (pos v) olds s
      answers_needs k e = sym (reply_needs m h w v s olds many cs measured.rows q (has_seen (cs ∷ measured.rows) measured.is) k (ap (λ ms. short (widths m) ms (lengths olds)) (sym measured.marks_are) ∙ e))

      -- all has room: the second run's answer is the first's, whether it is looked at or not
      pub answers_fits : short (widths m) (marks u) (lengths olds) ≡ none → (z : Res State) → z ≡ run olds → (news : Tables) → ((x : State) (n : ℕ) → z ≡ ok x n → slices x ≡ news) → (accepted cs q, news) ≡ read_answer w m (pos v) olds s
      answers_fits e z d news f =
          let a = measured in
          let b = ap (λ y. read_rows w append (shape m v) 0 ([] ∷ y) 0 s) (none_same olds m.tables many ∙ sym (none_same scratch m.tables also)) ∙ a.is in
          let g = f _ _ (d ∙ runs_so w (shape m v) thin.0 thin.1 s (omega (arith, size)) olds cs a.rows q b) in
          ap (λ y. (accepted cs q, y)) (sym g ∙ slices_tabs (filled olds a.rows) (lengths a.rows))
          ∙ sym (reply_fits m h w v s olds many cs a.rows q (has_seen (cs ∷ a.rows) a.is) (a.long ∙ also ∙ sym many) (ap (λ ms. short (widths m) ms (lengths olds)) (sym a.marks_are) ∙ e))

-- rows of width w: k cells that there will be, and n lent
module _ (w : ℕ) (ws : List ℕ) (k : ℕ) (ks : List ℕ) (n : ℕ) (ns : List ℕ) where
  pub short_here : n / w < k / w → short (w ∷ ws) (k ∷ ks) (n ∷ ns) ≡ some (k / w)
  unfolding short
  short_here h = rw (le-false (k / w) (n / w) h)

  pub short_next : k / w ≤ n / w → short (w ∷ ws) (k ∷ ks) (n ∷ ns) ≡ short ws ks ns
  unfolding short
  short_next h = rw (le-true (k / w) (n / w) h)

-- rows of one cell
module _ (ws : List ℕ) (k : ℕ) (ks : List ℕ) (n : ℕ) (ns : List ℕ) where
  pub cells_here : n < k → short (1 ∷ ws) (k ∷ ks) (n ∷ ns) ≡ some k
  cells_here h = short_here 1 ws k ks n ns (rw (div-one k, div-one n) h) ∙ ap some (div-one k)

  pub cells_next : k ≤ n → short (1 ∷ ws) (k ∷ ks) (n ∷ ns) ≡ short ws ks ns
  cells_next h = short_next 1 ws k ks n ns (rw (div-one k, div-one n) h)

pub short_none : (ks ns : List ℕ) → short [] ks ns ≡ none
unfolding short
short_none ks ns = refl
