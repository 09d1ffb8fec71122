-- From a walk of code to the answer of a call: for every message and any number of lent tables. Two ways of keeping rows that agree store by store agree on every body.
use mathlib.Core.Bool.{Bool, true}
use mathlib.Core.List.{List, [], ◌++◌, ◌∷◌, append_assoc, append-nil}
use mathlib.Core.Path.{◌∙◌, ◌≡◌, ap, refl, subst, sym}
use Prim.Native.Nat.{◌*◌, ◌+◌, ◌<◌, ◌≤◌, suc, zero, ℕ}
use native.Mathlib.Nat.{add-zero, zero-add}
use native.Mathlib.Numerals.{add-one}
use native.Mathlib.Omega.{arith}
use lib.ListN.{get_or, length, length-append, length-set, set}
use lib.Seq.{sets}
use borrow.Author.Tests.{lt-ltb}
use Rattle.layout.specs.Reading.{Refusal, Res, bad, more, ok}
use Rattle.layout.specs.Primitives.{keeps}
use Rattle.layout.specs.Rows.{Shape, Value, absent, array, end, field, lacking}
use Rattle.layout.specs.Read.{by_place, read}
use Rattle.layout.specs.Tables.{Span, Tables, absent_cells, absent_count, append, cells, read_rows, row_width}
use Rattle.layout.specs.Answers.{most}
use Rattle.body_reading.specs.Meter.{lengths}
use Rattle.body_reading.specs.Store.{State, add, limit, own, put, step, store, tab}
use Rattle.body_reading.specs.Walk.{on, walk}
use Rattle.layout.proofs.Every.{list_of}
use Rattle.layout.proofs.Link.{fold, items_cell, keep, link, over}
use Rattle.layout.proofs.Calls.{local_rows}
use Rattle.layout.proofs.Local.{not_ok}
use Rattle.body_reading.proofs.Bound.{few, lean, tally}
use Rattle.body_reading.proofs.Stores.{store_append}

-- the same refusal, or the same bytes used and what stands in R
pub data Alike {S U : Type 0} (R : S → U → Type 0) : Res S → Res U → Type 0 where
  both : (x : S) (y : U) (n : ℕ) → R x y → Alike R (ok x n) (ok y n)
  neither : (e : Refusal) → Alike R (bad e) (bad e)

module _ {S U : Type 0} (R : S → U → Type 0) where
  fold_alike : {A : Type 0} (f : A → S → S) (g : A → U → U) → ((a : A) (x : S) (y : U) → R x y → R (f a x) (g a y)) → (vs : List A) (x : S) (y : U) → R x y → R (fold f vs x) (fold g vs y)
  fold_alike f g h [] x y c = c
  fold_alike f g h (a ∷ vs) x y c = fold_alike f g h vs (f a x) (g a y) (h a x y c)

  module _ (f : ℕ → List ℕ → S → S) (g : ℕ → List ℕ → U → U) (step : (t : ℕ) (cs : List ℕ) (x : S) (y : U) → R x y → R (f t cs x) (g t cs y)) where
    pub keep_alike : (l : Shape) (o : ℕ) (v : Value Span l) (x : S) (y : U) → R x y → R (keep f l o v x) (keep g l o v y)
    unfolding keep
    keep_alike end o v x y c = c
    keep_alike (field k r) o v x y c = keep_alike r o v.1 _ _ (step o (cells k v.0) x y c)
    keep_alike (absent k r) o v x y c = keep_alike r o v _ _ (step o (absent_cells k) x y c)
    keep_alike (array z t i r) o v x y c =
        keep_alike r o v.1 _ _
        (fold_alike (keep f i t) (keep g i t) (λ a x' y' d. keep_alike i t a x' y' d) (list_of (keeps z) v.0) _ _ (step o (items_cell (Value Span i) (keeps z) v.0 ∷ []) x y c))
    keep_alike (lacking z t i r) o v x y c = keep_alike r o v _ _ (step o (absent_count z ∷ []) x y c)

    over_alike : {A : Type 0} (h : A → S) (k : A → U) → ((a : A) → R (h a) (k a)) → (o : Res A) → Alike R (over h o) (over k o)
    over_alike h k c (ok a n) = both (h a) (k a) n (c a)
    over_alike h k c (bad e) = neither e

    move : {a b : Res S} {c d : Res U} → a ≡ b → c ≡ d → Alike R a c → Alike R b d
    move {a} {b} {c} {d} e g h = subst (λ y. Alike R b y) g (subst (λ y. Alike R y c) e h)

    pub alike : (w : Bool) (l : Shape) (o : ℕ) (x : S) (y : U) (p : ℕ) (s : List ℕ) → R x y → Alike R (read_rows w f l o x p s) (read_rows w g l o y p s)
    alike w l o x y p s c =
        move (sym ((link w f l o x).law p s tt)) (sym ((link w g l o y).law p s tt))
        (over_alike (λ v. keep f l o v x) (λ v. keep g l o v y) (λ v. keep_alike l o v x y c) (read (by_place w) l p s))

-- ---- the lists of the definition, stored into tables

abbrev pub stored : State → Tables → State
stored [] st = []
stored (b ∷ bs) [] = b ∷ stored bs []
stored (b ∷ bs) (cs ∷ st) = store b cs ∷ stored bs st

pub record Stored (bs : State) (st : Tables) (u : State) : Type 0 where
  pub long : length st ≡ length bs
  pub are : u ≡ stored bs st

stored_add : (bs : State) (st : Tables) (t : ℕ) (cs : List ℕ) → length st ≡ length bs → add t cs (stored bs st) ≡ stored bs (append t cs st)
unfolding add append
stored_add [] [] t cs e = refl
stored_add [] (y ∷ st) t cs e = absurd (omega (arith, e))
stored_add (b ∷ bs) [] t cs e = absurd (omega (arith, e))
stored_add (b ∷ bs) (y ∷ st) zero cs e = ap (λ z. z ∷ stored bs st) (store_append b y cs)
stored_add (b ∷ bs) (y ∷ st) (suc t) cs e = ap (λ z. store b y ∷ z) (stored_add bs st t cs (let h : length st ≡ length bs = omega (arith, e) in h))

stored_step : (bs : State) (t : ℕ) (cs : List ℕ) (st : Tables) (u : State) → Stored bs st u → Stored bs (append t cs st) (add t cs u)
unfolding append
stored_step bs t cs st u h =
    record { long = length-set st t (get_or st t [] ++ cs) ∙ h.long; are = ap (add t cs) h.are ∙ stored_add bs st t cs h.long }

-- what code runs and what the definition says
pub walk_is : (bs : State) (w : Bool) (l : Shape) (o : ℕ) (st : Tables) (u : State) (p : ℕ) (s : List ℕ) → Stored bs st u → Alike (Stored bs) (read_rows w append l o st p s) (walk w l o u p s)
walk_is bs w l o st u p s h = alike (Stored bs) append add (stored_step bs) w l o st u p s h

-- ---- the cells of all tables

abbrev pub total : Tables → ℕ
total [] = 0
total (cs ∷ st) = length cs + total st

total_append : (t : ℕ) (cs : List ℕ) (st : Tables) → total (append t cs st) ≤ total st + length cs
unfolding append
total_append t cs [] = omega arith
total_append zero cs (y ∷ st) = omega (arith, length-append y cs)
total_append (suc t) cs (y ∷ st) = let h = total_append t cs st in omega arith

record Counted (st : Tables) (k : ℕ) : Type 0 where
  most_are : total st ≤ k

counted_step : (t : ℕ) (cs : List ℕ) (st : Tables) (k : ℕ) → Counted st k → Counted (append t cs st) (tally t cs k)
counted_step t cs st k h = record { most_are = omega (arith, h.most_are, total_append t cs st) }

-- sixteen cells a byte, and the body's own row
pub total_few : (w : Bool) (l : Shape) → lean l ≡ true → (o : ℕ) (st : Tables) (p : ℕ) (s : List ℕ) (st' : Tables) (n : ℕ) → read_rows w append l o st p s ≡ ok st' n → total st' ≤ total st + 16 * length s + row_width l
total_few w l h o st p s st' n e =
    go _ _ refl e (alike Counted append tally counted_step w l o st (total st) p s (record { most_are = omega arith }))
  where
    go : (a : Res Tables) (b : Res ℕ) → b ≡ read_rows w tally l o (total st) p s → a ≡ ok st' n → Alike Counted a b → total st' ≤ total st + 16 * length s + row_width l
    go _ _ d g (both x y m c) =
        let i : x ≡ st' = cc in
        let f = few w l h o (total st) p s y m (sym d) in
        let q = ((local_rows w tally l o (total st)).law p s y m (sym d)).fits in
        subst (λ z. total z ≤ total st + 16 * length s + row_width l) i (omega (arith, c.most_are))
    go _ _ d g (neither c) = not_ok g

-- ---- marks that do not stop

put_behind : (cs : List ℕ) (l : List ℕ) (k : ℕ) → k + length cs ≤ limit → store (tab l k) cs ≡ tab (sets l k cs) (k + length cs)
unfolding store put step
put_behind [] l k h = ap (tab l) (sym (add-zero k))
put_behind (c ∷ cs) l k h =
    let e : k < limit = omega arith in
    rw (lt-ltb k limit e, add-one) (put_behind cs (set l k c) (suc k) (omega arith) ∙ ap (tab (sets (set l k c) (suc k) cs)) (omega arith))

pub store_own : (cs ds : List ℕ) → store (own ds) cs ≡ own (ds ++ cs)
unfolding store put
store_own [] ds = ap own (sym (append-nil ds))
store_own (c ∷ cs) ds = store_own cs (ds ++ (c ∷ [])) ∙ ap own (append_assoc ds (c ∷ []) cs)

-- ---- all tables, from their start on

abbrev pub tabs : Tables → List ℕ → State
tabs [] ms = []
tabs (l ∷ ls) [] = tab l 0 ∷ tabs ls []
tabs (l ∷ ls) (m ∷ ms) = tab l m ∷ tabs ls ms

abbrev pub none_yet_lem : Tables → Tables
none_yet_lem [] = []
none_yet_lem (l ∷ ls) = [] ∷ none_yet_lem ls

abbrev pub filled : Tables → Tables → Tables
filled [] st = []
filled (l ∷ ls) [] = l ∷ filled ls []
filled (l ∷ ls) (cs ∷ st) = sets l 0 cs ∷ filled ls st

stored_tabs : (ls st : Tables) → length st ≡ length ls → total st ≤ limit → stored (tabs ls []) st ≡ tabs (filled ls st) (lengths st)
stored_tabs [] [] e h = refl
stored_tabs [] (t ∷ ts) e h = absurd (omega (arith, e))
stored_tabs (l ∷ ls) [] e h = absurd (omega (arith, e))
stored_tabs (l ∷ ls) (t ∷ ts) e h =
    let a : length ts ≡ length ls = omega (arith, e) in
    let b = stored_tabs ls ts a (omega arith) in
    let c : store (tab l 0) t ≡ tab (sets l 0 t) (length t) = put_behind t l 0 (omega arith) ∙ ap (tab (sets l 0 t)) (zero-add (length t)) in
    λ i. c i ∷ b i

none_stored : (ls : Tables) → tabs ls [] ≡ stored (tabs ls []) (none_yet_lem ls)
unfolding store
none_stored [] = refl
none_stored (l ∷ ls) = ap (λ y. tab l 0 ∷ y) (none_stored ls)

none_long : (ls : Tables) → length (none_yet_lem ls) ≡ length (tabs ls [])
none_long [] = refl
none_long (l ∷ ls) = ap suc (none_long ls)

tabs_long : (ls : Tables) → length (tabs ls []) ≡ length ls
tabs_long [] = refl
tabs_long (l ∷ ls) = ap suc (tabs_long ls)

total_none : (ls : Tables) → total (none_yet_lem ls) ≡ 0
total_none [] = refl
total_none (l ∷ ls) = zero-add (total (none_yet_lem ls)) ∙ total_none ls

-- ---- what a walk over a whole body comes to

abbrev pub marks : State → List ℕ
marks [] = []
marks (tab l k ∷ u) = k ∷ marks u
marks (own cs ∷ u) = marks u

abbrev pub slices : State → Tables
slices [] = []
slices (tab l k ∷ u) = l ∷ slices u
slices (own cs ∷ u) = slices u

abbrev row_of : State → List ℕ
row_of [] = []
row_of (tab l k ∷ u) = []
row_of (own cs ∷ u) = cs

abbrev behind : State → State
behind [] = []
behind (x ∷ u) = u

marks_tabs : (ls ts : Tables) → length ts ≡ length ls → marks (tabs (filled ls ts) (lengths ts)) ≡ lengths ts
marks_tabs [] [] e = refl
marks_tabs [] (t ∷ ts) e = absurd (omega (arith, e))
marks_tabs (l ∷ ls) [] e = absurd (omega (arith, e))
marks_tabs (l ∷ ls) (t ∷ ts) e = ap (λ y. length t ∷ y) (marks_tabs ls ts (let k : length ts ≡ length ls = omega (arith, e) in k))

pub slices_tabs : (ls : Tables) (ms : List ℕ) → slices (tabs ls ms) ≡ ls
slices_tabs [] ms = refl
slices_tabs (l ∷ ls) [] = ap (λ y. l ∷ y) (slices_tabs ls [])
slices_tabs (l ∷ ls) (m ∷ ms) = ap (λ y. l ∷ y) (slices_tabs ls ms)

-- the marks are the lengths of the definition's tables, and the slices hold them as far as there is room
pub record Ended (w : Bool) (l : Shape) (s : List ℕ) (olds : Tables) (cs : List ℕ) (u : State) (q : ℕ) : Type 0 where
  pub rows : Tables
  pub is : read_rows w append l 0 ([] ∷ none_yet_lem olds) 0 s ≡ ok (cs ∷ rows) q
  pub long : length rows ≡ length olds
  pub marks_are : marks u ≡ lengths rows
  pub slices_are : slices u ≡ filled olds rows

on_start : {A : Type 0} (o : Res A) → more 0 o ≡ o
on_start (ok x n) = ap (λ (k : ℕ). ok x k) (zero-add n)
on_start (bad e) = refl

module _ (w : Bool) (l : Shape) (h : lean l ≡ true) (narrow : row_width l ≤ 1000) (s : List ℕ) (size : length s ≤ most + 4) (olds : Tables) where
  start : Stored (own [] ∷ tabs olds []) ([] ∷ none_yet_lem olds) (own [] ∷ tabs olds [])
  unfolding store
  start = record { long = ap suc (none_long olds); are = ap (λ y. own [] ∷ y) (none_stored olds) }

  like : Alike (Stored (own [] ∷ tabs olds [])) (read_rows w append l 0 ([] ∷ none_yet_lem olds) 0 s) (on (walk w l 0 (own [] ∷ tabs olds [])) s 0)
  unfolding on
  like = subst (λ y. Alike (Stored (own [] ∷ tabs olds [])) (read_rows w append l 0 ([] ∷ none_yet_lem olds) 0 s) y) (sym (on_start (walk w l 0 (own [] ∷ tabs olds []) 0 s)))
      (walk_is (own [] ∷ tabs olds []) w l 0 ([] ∷ none_yet_lem olds) (own [] ∷ tabs olds []) 0 s start)

  pub ended : {cs : List ℕ} {u : State} {q : ℕ} → ok (own cs ∷ u) q ≡ on (walk w l 0 (own [] ∷ tabs olds [])) s 0 → Ended w l s olds cs u q
  ended {cs} {u} {q} e = go _ _ refl e like
    where
      made : (st : Tables) → read_rows w append l 0 ([] ∷ none_yet_lem olds) 0 s ≡ ok st q → Stored (own [] ∷ tabs olds []) st (own cs ∷ u) → Ended w l s olds cs u q
      made [] d c = absurd (omega (arith, c.long))
      made (x ∷ ts) d c =
          let g : length ts ≡ length olds = omega (arith, c.long, tabs_long olds) in
          let b = total_few w l h 0 ([] ∷ none_yet_lem olds) 0 s (x ∷ ts) q d in
          let f : own cs ∷ u ≡ own x ∷ tabs (filled olds ts) (lengths ts) = c.are ∙ (λ i. store_own x [] i ∷ stored_tabs olds ts g (omega (arith, total_none olds)) i) in
          let r : x ≡ cs = sym (ap row_of f) in
          record {
            rows = ts;
            is = d ∙ ap (λ y. ok (y ∷ ts) q) r;
            long = g;
            marks_are = ap (λ y. marks (behind y)) f ∙ marks_tabs olds ts g;
            slices_are = ap (λ y. slices (behind y)) f ∙ slices_tabs (filled olds ts) (lengths ts);
          }

      go : (a : Res Tables) (b : Res State) → read_rows w append l 0 ([] ∷ none_yet_lem olds) 0 s ≡ a → ok (own cs ∷ u) q ≡ b → Alike (Stored (own [] ∷ tabs olds [])) a b → Ended w l s olds cs u q
      go _ _ d g (both st y n c) =
          let k : y ≡ own cs ∷ u = cc in
          let m : n ≡ q = cc in
          made st (d ∙ ap (λ j. ok st j) m) (subst (Stored (own [] ∷ tabs olds []) st) k c)
      go _ _ d g (neither c) = not_ok (sym g)

  -- there is a table for each, and one for the body's own row
  pub read_long : (st : Tables) (q : ℕ) → read_rows w append l 0 ([] ∷ none_yet_lem olds) 0 s ≡ ok st q → length st ≡ suc (length olds)
  read_long st q e = go _ _ e like
    where
      go : (a : Res Tables) (b : Res State) → a ≡ ok st q → Alike (Stored (own [] ∷ tabs olds [])) a b → length st ≡ suc (length olds)
      go _ _ d (both x y n c) = let k : x ≡ st = cc in ap length (sym k) ∙ c.long ∙ ap suc (tabs_long olds)
      go _ _ d (neither c) = not_ok d

  pub ended_no : {c : Refusal} → bad c ≡ on (walk w l 0 (own [] ∷ tabs olds [])) s 0 → read_rows w append l 0 ([] ∷ none_yet_lem olds) 0 s ≡ bad c
  ended_no {c} e = go _ _ refl e like
    where
      go : (a : Res Tables) (b : Res State) → read_rows w append l 0 ([] ∷ none_yet_lem olds) 0 s ≡ a → bad c ≡ b → Alike (Stored (own [] ∷ tabs olds [])) a b → read_rows w append l 0 ([] ∷ none_yet_lem olds) 0 s ≡ bad c
      go _ _ d g (both st y n i) = not_ok g
      go _ _ d g (neither c') = let k : c' ≡ c = cc in d ∙ ap bad k

  -- and the other way: the definition's rows tell what the walk leaves
  pub runs_so : (cs : List ℕ) (st : Tables) (q : ℕ) → read_rows w append l 0 ([] ∷ none_yet_lem olds) 0 s ≡ ok (cs ∷ st) q → on (walk w l 0 (own [] ∷ tabs olds [])) s 0 ≡ ok (own cs ∷ tabs (filled olds st) (lengths st)) q
  runs_so cs st q e = go _ _ refl e like
    where
      go : (a : Res Tables) (b : Res State) → on (walk w l 0 (own [] ∷ tabs olds [])) s 0 ≡ b → a ≡ ok (cs ∷ st) q → Alike (Stored (own [] ∷ tabs olds [])) a b → on (walk w l 0 (own [] ∷ tabs olds [])) s 0 ≡ ok (own cs ∷ tabs (filled olds st) (lengths st)) q
      go _ _ d g (both x y n c) =
          let k : x ≡ cs ∷ st = cc in
          let m : n ≡ q = cc in
          let f = subst (λ z. Stored (own [] ∷ tabs olds []) z y) k c in
          let i : length st ≡ length olds = omega (arith, f.long, tabs_long olds) in
          let b = total_few w l h 0 ([] ∷ none_yet_lem olds) 0 s (cs ∷ st) q e in
          d ∙ (λ j. ok ((f.are ∙ (λ t. store_own cs [] t ∷ stored_tabs olds st i (omega (arith, total_none olds)) t)) j) (m j))
      go _ _ d g (neither c) = not_ok g
