-- Stores one after the other, and the functions that store.
use mathlib.Core.Bool.{Bool, cond, false, true}
use mathlib.Core.List.{List, [], ◌++◌, ◌∷◌}
use mathlib.Core.Path.{◌∙◌, ◌≡◌, ap, refl, sym}
use Prim.Native.Nat.{◌+◌, ◌<◌, ◌≤◌, suc, zero, ℕ}
use native.Mathlib.Nat.{add-zero}
use native.Mathlib.Omega.{arith}
use lib.Dec.{ltb}
use lib.ListN.{get_or, length, set, take}
use lib.Seq.{set_out, take-suc}
use borrow.Author.Tests.{le-ltb, lt-ltb}
use Rattle.body_reading.specs.Store.{State, Tab, add, limit, put, step, store, tab}

pub store_append : (x : Tab) (cs ds : List ℕ) → store (store x cs) ds ≡ store x (cs ++ ds)
unfolding store
store_append x [] ds = refl
store_append x (c ∷ cs) ds = store_append (put x c) cs ds

-- what is added twice to a table is added at once
pub add_two : (o : ℕ) (cs ds : List ℕ) (st : State) → add o ds (add o cs st) ≡ add o (cs ++ ds) st
unfolding add
add_two o cs ds [] = refl
add_two zero cs ds (x ∷ st) = ap (λ y. y ∷ st) (store_append x cs ds)
add_two (suc o) cs ds (x ∷ st) = ap (λ y. x ∷ y) (add_two o cs ds st)

pub step_up : (k : ℕ) → k < limit → k + 1 ≡ step k
unfolding step
step_up k h = rw (lt-ltb k limit h)

pub step_not : (k : ℕ) → limit ≤ k → k ≡ step k
unfolding step
step_not k h = rw (le-ltb k limit h)

-- with room, and without
pub store_in : (l : List ℕ) (k c n : ℕ) → n ≡ step k → tab (set l k c) n ≡ store (tab l k) (c ∷ [])
unfolding store put
store_in l k c n e = ap (tab (set l k c)) e

pub store_out : (l : List ℕ) (k c n : ℕ) → n ≡ step k → length l ≤ k → tab l n ≡ store (tab l k) (c ∷ [])
unfolding store put
store_out l k c n e h = λ i. tab (sym (set_out l k c h) i) (e i)

-- four marks on
next_mark : (n m k : ℕ) → m ≡ n + 1 → n < limit → n ≡ k → m ≡ step k
next_mark n m k i h e = i ∙ step_up n h ∙ ap step e

pub step_4 : (k : ℕ) → k + 3 < limit → k + 4 ≡ step (step (step (step k)))
step_4 k h =
    next_mark (k + 3) (k + 4) _ (omega arith) (omega arith)
    (next_mark (k + 2) (k + 3) _ (omega arith) (omega arith) (next_mark (k + 1) (k + 2) _ (omega arith) (omega arith) (step_up k (omega arith))))

step_on : (n k : ℕ) → n ≤ k → n ≤ step k
unfolding step
step_on n k h = go (ltb k limit)
  where
    go : (b : Bool) → n ≤ cond b (k + 1) k
    go true = omega arith
    go false = h

store_skip : (l : List ℕ) (k c : ℕ) (cs : List ℕ) → length l ≤ k → store (tab l k) (c ∷ cs) ≡ store (tab l (step k)) cs
unfolding store put
store_skip l k c cs h = ap (λ m. store (tab m (step k)) cs) (set_out l k c h)

-- a row of cells, passed over where there is room for none and the mark does not stop
pub store_past : (l : List ℕ) (cs : List ℕ) (k : ℕ) → length l ≤ k → k + length cs ≤ limit → tab l (k + length cs) ≡ store (tab l k) cs
unfolding store
store_past l [] k h b = ap (tab l) (add-zero k)
store_past l (c ∷ cs) k h b =
    let n : k + suc (length cs) ≡ (k + 1) + length cs = omega arith in
    ap (tab l) n ∙ store_past l cs (k + 1) (omega arith) (omega arith) ∙ ap (λ m. store (tab l m) cs) (step_up k (omega arith)) ∙ sym (store_skip l k c cs h)

-- a row of four cells, passed over where there is room for none
module _ (l : List ℕ) (k a b c d : ℕ) where
  pub four_out : (n : ℕ) → n ≡ step (step (step (step k))) → length l ≤ k → tab l n ≡ store (tab l k) (a ∷ b ∷ c ∷ d ∷ [])
  unfolding store
  four_out n e h =
      let f = step_on (length l) k h in
      let g = step_on (length l) _ f in
      ap (tab l) e ∙ sym (store_skip l k a (b ∷ c ∷ d ∷ []) h ∙ store_skip l _ b (c ∷ d ∷ []) f ∙ store_skip l _ c (d ∷ []) g ∙ store_skip l _ d [] (step_on (length l) _ g))

-- some cells, and then others; a cell, and then others
pub store_both : (x y z : Tab) (cs ds : List ℕ) → y ≡ store x cs → z ≡ store y ds → z ≡ store x (cs ++ ds)
store_both x y z cs ds e g = g ∙ ap (λ t. store t ds) e ∙ store_append x cs ds

pub store_next : (x y z : Tab) (c : ℕ) (cs : List ℕ) → y ≡ store x (c ∷ []) → z ≡ store y cs → z ≡ store x (c ∷ cs)
store_next x y z c cs e g = store_both x y z (c ∷ []) cs e g

-- with room the cell is set, and the mark moves on
pub store_set : (l : List ℕ) (k c : ℕ) → k < limit → tab (set l k c) (k + 1) ≡ store (tab l k) (c ∷ [])
store_set l k c h = store_in l k c (k + 1) (step_up k h)

-- the first i cells of a row are stored, and the next one is
module _ (x : Tab) (cs : List ℕ) (i : ℕ) (h : i < length cs) where
  pub store_more : (y z : Tab) → y ≡ store x (take i cs) → z ≡ store y (get_or cs i 0 ∷ []) → z ≡ store x (take (i + 1) cs)
  store_more y z e g =
      let n : suc i ≡ i + 1 = omega arith in
      store_both x y z (take i cs) (get_or cs i 0 ∷ []) e g ∙ ap (store x) (sym (take-suc cs i 0 h) ∙ ap (λ (k : ℕ). take k cs) n)

  -- from mark m on, with room
  pub store_on : (l : List ℕ) (m : ℕ) → m + i < limit → tab l (m + i) ≡ store x (take i cs) → tab (set l (m + i) (get_or cs i 0)) (m + (i + 1)) ≡ store x (take (i + 1) cs)
  store_on l m k e = let n : m + (i + 1) ≡ m + i + 1 = omega arith in store_more (tab l (m + i)) _ e (ap (tab (set l (m + i) (get_or cs i 0))) n ∙ store_set l (m + i) (get_or cs i 0) k)

-- no cell
pub store_none : (l : List ℕ) (k : ℕ) → tab l (k + 0) ≡ store (tab l k) []
unfolding store
store_none l k = ap (tab l) (add-zero k)

pub store_nothing : (l : List ℕ) (k : ℕ) → tab l k ≡ store (tab l k) []
unfolding store
store_nothing l k = refl
