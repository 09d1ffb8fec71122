-- The rows that a read lays behind one another are the rows that a write takes from the front: for every shape.
use mathlib.Core.List.{List, [], ◌++◌, ◌∷◌, append_assoc, append-nil}
use mathlib.Core.Path.{◌∙◌, ◌≡◌, ap, refl, sym}
use Prim.Native.Nat.{suc, zero, ℕ}
use native.Mathlib.Nat.{suc_inj, suc-ne-zero}
use lib.ListN.{get_or, length, length-replicate, length-set, replicate, set}
use Rattle.layout.specs.Primitives.{keeps}
use Rattle.layout.specs.Rows.{Shape, Value, absent, array, end, field, lacking}
use Rattle.layout.specs.Tables.{Span, Tables, absent_cells, absent_count, append, cells}
use Rattle.layout.proofs.Every.{list_of}
use Rattle.layout.proofs.Link.{fold, items_cell, keep}

-- ---- the rows of a value, in front of what the tables hold

unfoldable pub push : ℕ → List ℕ → Tables → Tables
push t cs st = set st t (cs ++ get_or st t [])

abbrev pub lay_all : {A : Type 0} → (A → Tables → Tables) → List A → Tables → Tables
lay_all g [] st = st
lay_all g (x ∷ xs) st = g x (lay_all g xs st)

unfoldable pub lay : (l : Shape) → ℕ → Value Span l → Tables → Tables
lay end o x st = st
lay (field k r) o x st = push o (cells k x.0) (lay r o x.1 st)
lay (absent k r) o x st = push o (absent_cells k) (lay r o x st)
lay (array z t i r) o x st = push o (items_cell (Value Span i) (keeps z) x.0 ∷ []) (lay_all (lay i t) (list_of (keeps z) x.0) (lay r o x.1 st))
lay (lacking z t i r) o x st = push o (absent_count z ∷ []) (lay r o x st)

-- ---- two rows of tables, one behind the other

pub length_push : (t : ℕ) (cs : List ℕ) (st : Tables) → length (push t cs st) ≡ length st
unfolding push
length_push t cs st = length-set st t (cs ++ get_or st t [])

abbrev join : Tables → Tables → Tables
join [] ys = []
join (x ∷ xs) [] = x ∷ xs
join (x ∷ xs) (y ∷ ys) = (x ++ y) ∷ join xs ys

join_append : (o : ℕ) (cs : List ℕ) (st su : Tables) → length st ≡ length su → join (append o cs st) su ≡ join st (push o cs su)
unfolding append push
join_append o cs [] su h = refl
join_append o cs (x ∷ xs) [] h = absurd (suc-ne-zero (length xs) h)
join_append zero cs (x ∷ xs) (y ∷ ys) h = ap (λ (z : List ℕ). z ∷ join xs ys) (append_assoc x cs y)
join_append (suc o) cs (x ∷ xs) (y ∷ ys) h = ap (λ (z : Tables). (x ++ y) ∷ z) (join_append o cs xs ys (suc_inj h))

-- what is added behind st by f is what is put before su by g
pub record Moves (N : ℕ) (f g : Tables → Tables) : Type 0 where
  pub law : (st su : Tables) → length st ≡ N → length su ≡ N → join (f st) su ≡ join st (g su)
  pub left : (st : Tables) → length st ≡ N → length (f st) ≡ N
  pub right : (su : Tables) → length su ≡ N → length (g su) ≡ N

moves_none : (N : ℕ) → Moves N (λ st. st) (λ st. st)
moves_none N = record { law = λ st su h k. refl; left = λ st h. h; right = λ su h. h }

moves_append : (N o : ℕ) (cs : List ℕ) → Moves N (λ st. append o cs st) (λ su. push o cs su)
unfolding append
moves_append N o cs = record { law = λ st su h k. join_append o cs st su (h ∙ sym k); left = λ st h. length-set st o (get_or st o [] ++ cs) ∙ h; right = λ su h. length_push o cs su ∙ h }

-- first f, then f': before g''s comes g's
moves_then : (N : ℕ) (f g f' g' : Tables → Tables) → Moves N f g → Moves N f' g' → Moves N (λ st. f' (f st)) (λ su. g (g' su))
moves_then N f g f' g' a b = record {
  law = λ st su h k. b.law (f st) su (a.left st h) k ∙ a.law st (g' su) h (b.right su k);
  left = λ st h. b.left (f st) (a.left st h);
  right = λ su h. a.right (g' su) (b.right su h);
}

module _ (N : ℕ) where
  moves_all : {A : Type 0} (f g : A → Tables → Tables) → ((x : A) → Moves N (f x) (g x)) → (xs : List A) → Moves N (fold f xs) (lay_all g xs)
  moves_all f g h [] = moves_none N
  moves_all f g h (x ∷ xs) = moves_then N _ _ _ _ (h x) (moves_all f g h xs)

  pub moves : (l : Shape) (o : ℕ) (x : Value Span l) → Moves N (keep append l o x) (lay l o x)
  unfolding keep lay
  moves end o x = moves_none N
  moves (field k r) o x = moves_then N _ _ _ _ (moves_append N o (cells k x.0)) (moves r o x.1)
  moves (absent k r) o x = moves_then N _ _ _ _ (moves_append N o (absent_cells k)) (moves r o x)
  moves (array z t i r) o x =
      moves_then N _ _ _ _ (moves_then N _ _ _ _ (moves_append N o (items_cell (Value Span i) (keeps z) x.0 ∷ [])) (moves_all _ _ (moves i t) (list_of (keeps z) x.0))) (moves r o x.1)
  moves (lacking z t i r) o x = moves_then N _ _ _ _ (moves_append N o (absent_count z ∷ [])) (moves r o x)

  join_left : (n : ℕ) (su : Tables) → length su ≡ n → join (replicate n []) su ≡ su
  join_left zero [] h = refl
  join_left zero (y ∷ su) h = absurd (suc-ne-zero (length su) h)
  join_left (suc n) [] h = absurd (suc-ne-zero n (sym h))
  join_left (suc n) (y ∷ su) h = ap (λ (z : Tables). y ∷ z) (join_left n su (suc_inj h))

  join_right : (n : ℕ) (st : Tables) → length st ≡ n → join st (replicate n []) ≡ st
  join_right n [] h = refl
  join_right zero (x ∷ st) h = refl
  join_right (suc n) (x ∷ st) h = λ i. append-nil x i ∷ join_right n st (suc_inj h) i

  -- the theorem: from N empty tables
  pub same_tables : (l : Shape) (o : ℕ) (x : Value Span l) → keep append l o x (replicate N []) ≡ lay l o x (replicate N [])
  same_tables l o x =
      let m = moves l o x in
      let e = length-replicate N [] in
      sym (join_right N _ (m.left _ e)) ∙ m.law (replicate N []) (replicate N []) e e ∙ join_left N _ (m.right _ e)
