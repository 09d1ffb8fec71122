-- Readers one behind the other at a place of a message: what code that reads step by step owes. A number that refuses at its own start, a field as a step of a walk; and a loop over the items of an array, whatever tables it fills.
use mathlib.Core.List.{List}
use mathlib.Core.Path.{◌∙◌, ◌≡◌, ap, refl, sym}
use mathlib.Core.Bool.{Bool, cond, false, true}
use Prim.Native.Nat.{◌+◌, ◌-◌, ◌<◌, ◌≤◌, suc, zero, ℕ}
use native.Mathlib.Nat.{add-zero}
use native.Mathlib.Omega.{arith}
use lib.ListN.{drop, length, take}
use lib.Seq.{drop-drop}
use lib.Dec.{leb}
use Rattle.layout.specs.Reading.{Reader, Refusal, Res, bad, because, give, loop, more, next, ok, pair, raw, then}
use Rattle.layout.specs.Primitives.{Width, cell, flag, int, unsigned}
use Rattle.layout.specs.Rows.{Basic, BasicValue, Shape, end, field}
use Rattle.layout.specs.Read.{by_place, read, read_basic}
use Rattle.layout.specs.Tables.{Span, cells, read_rows}
use Rattle.body_reading.specs.Walk.{Runs, on, walk}
use Rattle.body_reading.specs.Store.{State, add}
use Rattle.layout.proofs.Local.{not_ok}
use Rattle.layout.proofs.Link.{more_more}
use Rattle.layout.proofs.Every.{EveryBasic}
use Rattle.layout.proofs.Parts.{shown}
use Rattle.layout.proofs.Steps.{primitive_place}

module _ {A B : Type 0} (r : Reader A) (f : A → Reader B) (s : List ℕ) (p : ℕ) where
  on_next : (o : Res A) → r p (drop p s) ≡ o → {x : A} {q : ℕ} → ok x q ≡ more p o → on (then r f) s p ≡ on (f x) s q
  unfolding on then
  on_next (ok y n) d {x} {q} e =
      let g : y ≡ x = cc in
      let h : p + n ≡ q = cc in
      ap (λ o. more p (next o f p (drop p s))) d
      ∙ more_more p n (f y (p + n) (drop n (drop p s)))
      ∙ ap (λ l. more (p + n) (f y (p + n) l)) (drop-drop n p s)
      ∙ ap (λ k. more k (f y k (drop k s))) h
      ∙ ap (λ z. more q (f z q (drop q s))) g
  on_next (bad c) d e = absurd (let z : ◌≡◌ {A = ℕ} 0 1 = cc in omega arith)

  on_stop : (o : Res A) → r p (drop p s) ≡ o → {c : Refusal} → bad c ≡ more p o → bad c ≡ on (then r f) s p
  unfolding on then
  on_stop (ok y n) d e = absurd (let z : ◌≡◌ {A = ℕ} 0 1 = cc in omega arith)
  on_stop (bad c') d {c} e =
      let g : c ≡ c' = cc in
      ap bad g ∙ sym (ap (λ o. more p (next o f p (drop p s))) d)

  pub then_took : {x : A} {q : ℕ} {z : Res B} → ok x q ≡ on r s p → z ≡ on (f x) s q → z ≡ on (then r f) s p
  unfolding on
  then_took e g = g ∙ sym (on_next (r p (drop p s)) refl e)

  pub then_no : {c : Refusal} → bad c ≡ on r s p → bad c ≡ on (then r f) s p
  unfolding on
  then_no e = on_stop (r p (drop p s)) refl e

pub give_took : {A : Type 0} (x : A) (s : List ℕ) (p : ℕ) → ok x p ≡ on (give x) s p
unfolding on give
give_took x s p = ap (λ (k : ℕ). ok x k) (sym (add-zero p))

-- ---- what a chain of two readers gave, each gave

module _ {A B : Type 0} (r : Reader A) (f : A → Reader B) (s : List ℕ) (p : ℕ) where
  pub record Both (z : B) (q : ℕ) : Type 0 where
    pub x : A
    pub u : ℕ
    pub first : ok x u ≡ on r s p
    pub second : ok z q ≡ on (f x) s u

  pub both : (z : B) (q : ℕ) → ok z q ≡ on (then r f) s p → Both z q
  both z q e = go (on r s p) refl
    where
      go : (o : Res A) → on r s p ≡ o → Both z q
      go (ok x u) d = record { x = x; u = u; first = sym d; second = e ∙ sym (then_took r f s p {x = x} {q = u} (sym d) refl) }
      go (bad c) d = not_ok (then_no r f s p {c = c} (sym d) ∙ sym e)

-- a value and its end are told apart
pub same_value : {A : Type 0} {x y : A} {n m : ℕ} → ◌≡◌ {A = Res A} (ok x n) (ok y m) → x ≡ y
same_value e = cc

pub same_end : {A : Type 0} {x y : A} {n m : ℕ} → ◌≡◌ {A = Res A} (ok x n) (ok y m) → n ≡ m
same_end e = cc

pub same_refusal : {A : Type 0} {c d : Refusal} → ◌≡◌ {A = Res A} (bad c) (bad d) → c ≡ d
same_refusal e = cc

-- ---- a loop: what is left from here is what was asked at the start

module _ {S : Type 0} (r : S → Reader S) (s : List ℕ) where
  pub loop_done : (n p : ℕ) (st : S) {z : Res S} → n ≤ 0 → z ≡ on (loop n r st) s p → ok st p ≡ z
  unfolding loop
  loop_done zero p st h e = give_took st s p ∙ sym e
  loop_done (suc n) p st h e = absurd (omega arith)

  pub loop_no : (n p : ℕ) (st : S) {z : Res S} → 0 < n → z ≡ on (loop n r st) s p → {c : Refusal} → bad c ≡ on (r st) s p → bad c ≡ z
  unfolding loop
  loop_no zero p st h e d = absurd (omega arith)
  loop_no (suc n) p st h e d = then_no (r st) _ s p d ∙ sym e

  pub loop_next : (n p : ℕ) (st : S) {z : Res S} → 0 < n → z ≡ on (loop n r st) s p → {st' : S} {q : ℕ} → ok st' q ≡ on (r st) s p → z ≡ on (loop (n - 1) r st') s q
  unfolding loop
  loop_next zero p st h e d = absurd (omega arith)
  loop_next (suc n) p st h e {st'} {q} d =
      let m : n ≡ suc n - 1 = omega arith in
      e ∙ sym (then_took (r st) _ s p d refl) ∙ ap (λ k. on (loop k r st') s q) m

-- ---- a number refuses at its own start

raw_place : (n p : ℕ) (s : List ℕ) (e : Refusal) → raw n p s ≡ bad e → e ≡ because e.number p
unfolding raw
raw_place n p s e h = go (leb n (length s)) h
  where
    go : (b : Bool) → cond b (ok (take n s) n) (bad (because 3 p)) ≡ bad e → e ≡ because e.number p
    go true d = not_ok (sym d)
    go false d = let x : because 3 p ≡ e = cc in sym x ∙ ap (λ (c : Refusal). because c.number p) x

given_place : {A B : Type 0} (r : Reader A) (f : A → B) (p : ℕ) (s : List ℕ) (e : Refusal) → ((c : Refusal) → r p s ≡ bad c → c ≡ because c.number p) → then r (λ x. give (f x)) p s ≡ bad e → e ≡ because e.number p
unfolding then give
given_place {A} r f p s e h d = go (r p s) refl d
  where
    go : (o : Res A) → r p s ≡ o → next o (λ x. give (f x)) p s ≡ bad e → e ≡ because e.number p
    go (ok x n) i j = not_ok (sym j)
    go (bad c) i j = let x : c ≡ e = cc in h e (i ∙ ap bad x)

int_place : (k p : ℕ) (s : List ℕ) (e : Refusal) → int k p s ≡ bad e → e ≡ because e.number p
unfolding int
int_place k p s e h = given_place (raw k) _ p s e (raw_place k p s) h

pub cell_place : (w : Width) (p : ℕ) (s : List ℕ) (e : Refusal) → cell w p s ≡ bad e → e ≡ because e.number p
unfolding cell
cell_place w p s e h = given_place (int _) _ p s e (int_place _ p s) h

-- a Boolean, and an unsigned varint
pub flag_place : (p : ℕ) (s : List ℕ) (e : Refusal) → flag p s ≡ bad e → e ≡ because e.number p
unfolding flag
flag_place p s e h = given_place (int 1) _ p s e (int_place 1 p s) h

pub unsigned_place : (p : ℕ) (s : List ℕ) (e : Refusal) → unsigned p s ≡ bad e → e ≡ because e.number p
unfolding unsigned
unsigned_place p s e h = primitive_place _ p s e h

-- a part that it shows is inside
module _ (w : Bool) (k : Basic) (left : List ℕ) (x : BasicValue Span k) (n : ℕ) (h : ok x n ≡ read_basic (by_place w) k 0 left) where
  alone : read (by_place w) (field k end) 0 left ≡ ok (x, tt) n
  unfolding read pair then give
  alone = ap (λ o. next o (λ y. then (give tt) (λ z. give (y, z))) 0 left) (sym h) ∙ ap (λ (j : ℕ). ok (x, tt) j) (add-zero n)

  pub part_inside : EveryBasic (suc (length left)) (λ (t : Span). t.0 + t.1 ≤ length left) k x
  part_inside = (shown (suc (length left)) w (field k end) left (x, tt) n (omega arith) tt alone).inside_it.0

-- ---- as a step of a walk

module _ (w : Bool) (k : Basic) (r : Shape) (o : ℕ) (st : State) (s : List ℕ) (p : ℕ) where
  pub field_no : (c : Refusal) → bad c ≡ on (read_basic (by_place w) k) s p → bad c ≡ on (walk w (field k r) o st) s p
  unfolding read_rows
  field_no c e = then_no (read_basic (by_place w) k) _ s p e

  pub field_took : (x : BasicValue Span k) (q : ℕ) (z : Res State) → ok x q ≡ on (read_basic (by_place w) k) s p → z ≡ on (walk w r o (add o (cells k x) st)) s q → z ≡ on (walk w (field k r) o st) s p
  unfolding read_rows
  field_took x q z e d = then_took (read_basic (by_place w) k) _ s p e d

module _ {E : Type 0} (x : E → State → Reader State) (s : List ℕ) (count at : ℕ) (b₀ : E → State) where
  -- n are left to read from p on: that is what was asked at the start
  pub record Going (n p : ℕ) (b : E → State) : Type 0 where
    pub same : (e : E) → on (loop count (x e) (b₀ e)) s at ≡ on (loop n (x e) (b e)) s p

  pub going_start : Going count at b₀
  going_start = record { same = λ e. refl }

  module _ (n p : ℕ) (b : E → State) (w : Going n p b) where
    pub going_done : n ≤ 0 → Runs (λ e. loop count (x e)) s at b₀ (λ e. ok (b e) p)
    going_done l = record { law = λ e. loop_done (x e) s n p (b e) l (w.same e) }

    module _ (l : 0 < n) (f : E → Res State) (c : Runs x s p b f) where
      pub going_no : {d : Refusal} → ((e : E) → f e ≡ bad d) → Runs (λ e. loop count (x e)) s at b₀ (λ e. bad d)
      going_no g = record { law = λ e. loop_no (x e) s n p (b e) l (w.same e) (sym (g e) ∙ c.law e) }

      pub going_next : {q : ℕ} (b' : E → State) → ((e : E) → f e ≡ ok (b' e) q) → Going (n - 1) q b'
      going_next b' g = record { same = λ e. loop_next (x e) s n p (b e) l (w.same e) (sym (g e) ∙ c.law e) }

    -- one turn that told r: f says what an answer means, and r' is the form that code saw it in
    module _ (l : 0 < n) {R : Type 0} (f : R → E → Res State) (r r' : R) (c : Runs x s p b (f r)) (d : r ≡ r') where
      pub turn_no : {a : Refusal} → ((e : E) → f r' e ≡ bad a) → Runs (λ e. loop count (x e)) s at b₀ (λ e. bad a)
      turn_no g = going_no l (f r) c (λ e. ap (λ y. f y e) d ∙ g e)

      pub turn_next : {q : ℕ} (b' : E → State) → ((e : E) → f r' e ≡ ok (b' e) q) → Going (n - 1) q b'
      turn_next b' g = going_next l (f r) c b' (λ e. ap (λ y. f y e) d ∙ g e)
