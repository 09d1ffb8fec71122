-- A primitive on the rest of a message is the primitive at the place where the rest starts. One of k bytes answers on just these as on all that is left, and with fewer the bytes end.
use mathlib.Core.Bool.{Bool, false, true}
use mathlib.Core.List.{List, []}
use mathlib.Core.Path.{◌∙◌, ◌≡◌, ap, refl, sym}
use Prim.Native.Nat.{◌*◌, ◌+◌, ◌-◌, ◌<◌, ◌^◌, ◌≤◌, ℕ}
use native.Mathlib.Nat.{add-zero, le_refl}
use native.Mathlib.Omega.{arith}
use lib.ListN.{drop, get_or, length, length-drop, take}
use lib.Dec.{ltb}
use lib.Seq.{get_or-drop, length-take-le, take_all, take-take}
use Rattle.layout.specs.Reading.{Reader, Refusal, Res, bad, because, fail, give, more, next, ok, pick, placed, primitive, single, then}
use Rattle.layout.specs.Primitives.{Null, Size, Width, admits, be, cell, cell_of, checked, fixed, flag, int, length_of, refusal, signed, size, unsigned}
use Rattle.layout.specs.Rows.{items}
use Rattle.primitives.specs.Parts.{counted}
use Rattle.body_reading.specs.Walk.{item_count, on}
use Rattle.body_reading.specs.Moved.{Fits, array_items, from_place, front_at}
use Rattle.layout.proofs.Kept.{kept_cell, kept_length}
use Rattle.layout.proofs.Local.{Local, local_checked, local_flag, local_give, local_then, local_unsigned, locals, not_ok}
use Rattle.layout.proofs.Steps.{int_bad, int_ok, primitive_place}
use Rattle.layout.proofs.Tests.{lt-false, lt-true, of_ge, of_lt}
use Rattle.primitives.proofs.Cells.{cell_is}
use Rattle.primitives.proofs.Varint.{ended, start}
use Rattle.body_reading.proofs.Chains.{cell_place, flag_place, unsigned_place}
use Rattle.body_reading.proofs.Moves.{Moves, at_fits, at_no, at_took, moves_cell, moves_checked, moves_flag, moves_items, moves_unsigned, still}

-- what a primitive owes to be read so: it does not look where it stands, takes no more than is there, and refuses at its own start
pub record Portable {A : Type 0} (r : Reader A) (g : ℕ → A → A) : Type 0 where
  pub moves : Moves r g
  pub local : Local r
  pub at_start : (s : List ℕ) (e : Refusal) → r 0 s ≡ bad e → e ≡ because e.number 0

pub portable_cell : (w : Width) → Portable (cell w) still
portable_cell w = record { moves = moves_cell w; local = kept_cell locals w; at_start = λ s e h. cell_place w 0 s e h }

pub portable_unsigned : Portable unsigned still
portable_unsigned = record { moves = moves_unsigned; local = local_unsigned; at_start = λ s e h. unsigned_place 0 s e h }

pub portable_flag : Portable flag still
portable_flag = record { moves = moves_flag; local = local_flag; at_start = λ s e h. flag_place 0 s e h }

checked_start : (a : Bool) (n : ℕ) (z : Size) (s : List ℕ) (e : Refusal) → checked a n (length_of unsigned z) 0 s ≡ bad e → e ≡ because e.number 0
unfolding checked
checked_start a n z s e h = primitive_place _ 0 s e h

-- a count with its null
pub portable_counted : (z : Size) → Portable (counted z) still
unfolding counted
portable_counted z = record {
  moves = moves_checked true 4 z;
  local = local_checked _ _ _ (kept_length locals unsigned unsigned local_unsigned z);
  at_start = λ s e h. checked_start true 4 z s e h;
}

items_start : (w : Bool) (z : Size) (s : List ℕ) (e : Refusal) → item_count w z 0 s ≡ bad e → e ≡ because e.number 0
unfolding item_count then give
items_start w z s e h = go (checked (admits w z) (refusal z) (length_of unsigned z) 0 s) refl h
  where
    go : (o : Res ℕ) → checked (admits w z) (refusal z) (length_of unsigned z) 0 s ≡ o → next o (λ n. give (n - 1)) 0 s ≡ bad e → e ≡ because e.number 0
    go (ok n m) d g = not_ok (sym g)
    go (bad c) d g = checked_start (admits w z) (refusal z) z s e (d ∙ g)

portable_count : (w : Bool) (z : Size) → Portable (item_count w z) still
unfolding item_count
portable_count w z = record {
  moves = moves_items w z;
  local = local_then _ _ (local_checked _ _ _ (kept_length locals unsigned unsigned local_unsigned z)) (λ n. local_give (n - 1));
  at_start = items_start w z;
}

pub portable_items : (f w : Bool) → Portable (array_items f w) still
unfolding array_items
portable_items f w = portable_count w (items f)

module _ {A : Type 0} (r : Reader A) (g : ℕ → A → A) (h : Portable r g) (s left : List ℕ) (p : ℕ) (i : left ≡ drop p s) where
  pub at_place : (o z : Res A) → o ≡ r 0 left → z ≡ from_place g p o → z ≡ on r s p
  at_place (ok x n) z e d = d ∙ at_took r g h.moves s left p i x n e
  at_place (bad c) z e d = d ∙ at_no r g h.moves s left p i _ c e (ap (λ (y : Refusal). y.place) (h.at_start left c (sym e))) refl

  -- the same, of what was taken
  pub took_at : (x : A) (n : ℕ) → ok x n ≡ r 0 left → ok (g p x) (p + n) ≡ on r s p
  took_at x n e = at_place (ok x n) _ e refl

  pub fits : p < 2 ^ 64 → length s < 2 ^ 64 → (o : Res A) → o ≡ r 0 left → Fits p o
  fits a b o e = record { law = λ x n d. at_fits r g h.moves s left p i h.local x n (sym d ∙ e) (2 ^ 64) a b }

pub record Front {A : Type 0} (k : ℕ) (r : Reader A) : Type 0 where
  pub part : (p : ℕ) (s : List ℕ) → k ≤ length s → r p (take k s) ≡ r p s
  pub short : (p : ℕ) (s : List ℕ) → length s < k → r p s ≡ bad (because 3 p)

-- a reader that takes no byte
record Blind {A : Type 0} (r : Reader A) : Type 0 where
  law : (p : ℕ) (s t : List ℕ) → r p s ≡ r p t

blind_give : {A : Type 0} (x : A) → Blind (give x)
unfolding give
blind_give x = record { law = λ p s t. refl }

blind_fail : {A : Type 0} (e : ℕ) → Blind (fail {A = A} e)
unfolding fail
blind_fail e = record { law = λ p s t. refl }

blind_pick : {A : Type 0} (b : Bool) (r q : Reader A) → Blind r → Blind q → Blind (pick b r q)
unfolding pick
blind_pick true r q h g = h
blind_pick false r q h g = g

front_int : (k : ℕ) → Front k (int k)
front_int k = record {
  part = λ p s h. int_ok k p (take k s) (omega (arith, length-take-le k s h)) ∙ ap (λ (l : List ℕ). ok (be 0 l) k) (take-take k k s (le_refl k)) ∙ sym (int_ok k p s h);
  short = λ p s h. int_bad k p s h;
}

front_then : {A B : Type 0} (k : ℕ) (r : Reader A) (f : A → Reader B) → Front k r → ((x : A) → Blind (f x)) → Front k (then r f)
unfolding then
front_then {A} k r f h b = record {
  part = λ p s l. ap (λ o. next o f p (take k s)) (h.part p s l) ∙ go p s (r p s);
  short = λ p s l. ap (λ o. next o f p s) (h.short p s l);
}
  where
    go : (p : ℕ) (s : List ℕ) (o : Res A) → next o f p (take k s) ≡ next o f p s
    go p s (ok x n) = ap (more n) ((b x).law (p + n) (drop n (take k s)) (drop n s))
    go p s (bad e) = refl

front_primitive : {A : Type 0} (k : ℕ) (r : Reader A) → Front k r → Front k (primitive r)
unfolding single
front_primitive k r h = record { part = λ p s l. ap (placed false p) (h.part p s l); short = λ p s l. ap (placed false p) (h.short p s l) }

pub front_cell : (w : Width) → Front (size w) (cell w)
unfolding cell
front_cell w = front_then (size w) (int (size w)) _ (front_int (size w)) (λ n. blind_give _)

-- a count with its null, of so many bytes
pub front_counted : (w : Width) (m : Null) → Front (size w) (counted (fixed w m))
unfolding counted checked length_of
front_counted w m =
    front_primitive (size w) _
    (front_then (size w) _ _ (front_then (size w) (int (size w)) _ (front_int (size w)) (λ n. blind_pick _ _ _ (blind_give _) (blind_pick _ _ _ (blind_give _) (blind_fail _))))
    (λ n. blind_pick _ _ _ (blind_pick true _ _ (blind_give _) (blind_fail _)) (blind_give _)))

-- just these bytes of a message, as code cuts them out, or none
module _ (s : List ℕ) (p m : ℕ) where
  cut : p + m + 1 - p ≡ m + 1
  cut = omega arith

  pub front_there : p < length s - m → take (p + m + 1 - p) (drop p s) ≡ front_at p m s
  unfolding front_at
  front_there h = rw (lt-true p (length s - m) h) (ap (λ (k : ℕ). take k (drop p s)) cut)

  pub front_none : length s - m ≤ p → [] ≡ front_at p m s
  unfolding front_at
  front_none h = rw (lt-false p (length s - m) h)

  -- read on these, or on none, it answers as on all that is left
  module _ {A : Type 0} (r : Reader A) (f : Front (m + 1) r) where
    on_all : p < length s - m → r 0 (front_at p m s) ≡ r 0 (drop p s)
    on_all h = ap (r 0) (sym (front_there h) ∙ ap (λ (k : ℕ). take k (drop p s)) cut) ∙ f.part 0 (drop p s) (omega (arith, length-drop p s))

    on_none : length s - m ≤ p → r 0 (front_at p m s) ≡ r 0 (drop p s)
    on_none h = ap (r 0) (sym (front_none h)) ∙ f.short 0 [] (omega arith) ∙ sym (f.short 0 (drop p s) (omega (arith, length-drop p s)))

    pub on_front : (left : List ℕ) → left ≡ front_at p m s → (o : Res A) → o ≡ r 0 left → o ≡ r 0 (drop p s)
    on_front left i o d = d ∙ ap (r 0) i ∙ go (ltb p (length s - m)) refl
      where
        go : (b : Bool) → ltb p (length s - m) ≡ b → r 0 (front_at p m s) ≡ r 0 (drop p s)
        go true e = on_all (of_lt _ _ e)
        go false e = on_none (of_ge _ _ e)

-- a number whose bytes are there is read
pub cell_at : (w : Width) (s : List ℕ) (p : ℕ) → p + size w ≤ length s → ok (cell_of (signed w (be 0 (take (size w) (drop p s))))) (p + size w) ≡ on (cell w) s p
cell_at w s p h = took_at (cell w) still (portable_cell w) s (drop p s) p refl _ (size w) (cell_is w (drop p s) _ (omega (arith, length-drop p s)) refl)

-- a varint of one byte: at its place, and on the rest as code cuts it out
pub byte_at : (s : List ℕ) (p b : ℕ) → b ≡ get_or s p 0 → p < length s → b < 128 → ok b (p + 1) ≡ on unsigned s p
byte_at s p b e h l =
    let d : b ≡ get_or (drop p s) 0 0 = e ∙ sym (get_or-drop p s 0 0 ∙ ap (λ (n : ℕ). get_or s n 0) (add-zero p)) in
    let v : b ≡ 0 + b * 1 = omega arith in
    took_at unsigned still portable_unsigned s (drop p s) p refl b 1 (ap (λ (n : ℕ). ok n 1) v ∙ ended (drop p s) 1 0 0 b d (omega (arith, length-drop p s)) 9 (omega arith) (start (drop p s)) l)

pub byte_cut : (s : List ℕ) (p b : ℕ) → b ≡ get_or (take (length s - p) (drop p s)) 0 0 → p < length s → b < 128 → ok b (p + 1) ≡ on unsigned s p
byte_cut s p b e h l =
    byte_at s p b (e ∙ ap (λ (t : List ℕ). get_or t 0 0) (take_all (length s - p) (drop p s) (omega (arith, length-drop p s))) ∙ get_or-drop p s 0 0 ∙ ap (λ (n : ℕ). get_or s n 0) (add-zero p)) h l
