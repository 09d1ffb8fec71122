-- The field in which the place of a refusal lies is the field that refused: for every shape, prefix and whole. A reader that marks each refusal with the row and
-- the field at hand refuses as the one reader of all layouts does, and what `seek` finds at that place is the mark.
use mathlib.Core.Bool.{Bool, ◌&&◌, cond, false, true}
use mathlib.Core.List.{List, ◌∷◌, []}
use mathlib.Core.Logic.{◌⊎◌, inl, inr}
use mathlib.Core.Path.{◌∙◌, ◌≡◌, ap, refl, subst, sym}
use Prim.Native.Nat.{◌+◌, ◌-◌, ◌<◌, ◌≤◌, suc, zero, ℕ}
use native.Mathlib.Omega.{arith}
use lib.Dec.{eqb, ltb}
use lib.ListN.{drop, get_or}
use Rattle.layout.specs.Reading.{Reader, Refusal, Res, bad, because, fail, give, loop, more, naming, ok, pick, placed, single, then}
use Rattle.layout.specs.Primitives.{Size, admits, checked, compact, empty, fixed, keeps, kept, length_of, never, plain, refusal, sized, unsigned}
use Rattle.layout.specs.Rows.{Basic, Shape, absent, array, blob, boolean, end, field, lacking, level, natural, number, optional, text}
use Rattle.layout.specs.Read.{by_place, read_basic, read_blob, read_text}
use Rattle.layout.specs.Tables.{absent_cells, absent_count, cells, count_cell, read_rows}
use Rattle.layout.specs.Names.{begun, found, halted, seek, stop}
use Rattle.layout.proofs.Parts.{Hungry, hungry_basic, hungry_checked}
use Rattle.layout.proofs.Refusals.{Tells, tells_basic, tells_checked}
use Rattle.layout.proofs.Steps.{by_result, not_ok, split, then_bad, then_ok}
use Rattle.layout.proofs.Tests.{by_test, lt-false, lt-true}

-- ---- the reader that marks its refusals

abbrev pub marked : {A : Type 0} → ℕ → ℕ → Res A → Res A
marked row f (ok x n) = ok x n
marked row f (bad e) = bad (naming 0 row f e)

unfoldable pub mark : {A : Type 0} → ℕ → ℕ → Reader A → Reader A
mark row f r p s = marked row f (r p s)

-- w: a whole read. Rows are counted as `seek` counts them
module _ (w : Bool) where
  unfoldable pub reading : Shape → ℕ → ℕ → List ℕ → Reader (List ℕ)
  reading end row f c = give c
  reading (field k r) row f c = then (mark row f (read_basic (by_place w) k)) (λ x. reading r row (suc f) c)
  reading (absent k r) row f c = reading r row f c
  reading (array z t i r) row f c =
      then (mark row f (checked (admits w z) (refusal z) (length_of unsigned z))) (λ n.
      then (loop (n - 1) (λ d. reading i (get_or d t 0) 0 (begun t d)) c) (λ d. reading r row (suc f) d))
  reading (lacking z t i r) row f c = reading r row f c

-- ---- a field of a whole read reads as the same field of a prefix read, or is refused at its start: a null

record Stricter {A : Type 0} (r g : Reader A) : Type 0 where
  law : (p : ℕ) (s : List ℕ) → (r p s ≡ g p s) ⊎ ((e : ℕ) × (r p s ≡ bad (because e p)))

stricter_same : {A : Type 0} (r : Reader A) → Stricter r r
stricter_same r = record { law = λ p s. inl refl }

stricter_then : {A B : Type 0} (r g : Reader A) (f : A → Reader B) → Stricter r g → Stricter (then r f) (then g f)
unfolding then
stricter_then {A} {B} r g f h = record { law = λ p s. go p s (h.law p s) }
  where
    go : (p : ℕ) (s : List ℕ) → (r p s ≡ g p s) ⊎ ((e : ℕ) × (r p s ≡ bad (because e p))) → (then r f p s ≡ then g f p s) ⊎ ((e : ℕ) × (then r f p s ≡ bad (because e p)))
    go p s (inl e) = inl (rw e)
    go p s (inr (e, d)) = inr (e, then_bad r f p s (because e p) d)

stricter_single : {A : Type 0} (t : Bool) (r g : Reader A) → Stricter r g → Stricter (single t r) (single t g)
unfolding single
stricter_single {A} t r g h = record { law = λ p s. go p s (h.law p s) }
  where
    at_start : (e p : ℕ) (b : Bool) → ◌≡◌ {A = Res A} (bad (cond b (because e p) (because e p))) (bad (because e p))
    at_start e p true = refl
    at_start e p false = refl

    go : (p : ℕ) (s : List ℕ) → (r p s ≡ g p s) ⊎ ((e : ℕ) × (r p s ≡ bad (because e p))) → (single t r p s ≡ single t g p s) ⊎ ((e : ℕ) × (single t r p s ≡ bad (because e p)))
    go p s (inl e) = inl (ap (placed t p) e)
    go p s (inr (e, d)) = inr (e, ap (placed t p) d ∙ at_start e p (t && eqb e 7))

-- null, refused or taken
stricter_null : (e : ℕ) (len : Reader ℕ) → Stricter (checked false e len) (checked true e len)
unfolding checked single then pick give fail
stricter_null e len = record {
  law = λ p s. by_result (len p s) (λ n m d. by_test (eqb n 0) (λ z. inr (e, rw (d, z))) (λ z. inl (rw (d, z)))) (λ c d. inl (rw d));
}

stricter_checked : (w : Bool) (z : Size) → Stricter (checked (admits w z) (refusal z) (length_of unsigned z)) (checked (admits false z) (refusal z) (length_of unsigned z))
stricter_checked false z = stricter_same _
stricter_checked true (fixed b never) = stricter_same _
stricter_checked true (fixed b kept) = stricter_same _
stricter_checked true (fixed b empty) = stricter_null _ _
stricter_checked true (compact never) = stricter_same _
stricter_checked true (compact kept) = stricter_same _
stricter_checked true (compact empty) = stricter_null _ _
stricter_checked true plain = stricter_same _

stricter_sized : {A : Type 0} (b w : Bool) (z : Size) (r : ℕ → Reader A) → Stricter (sized b (admits w z) (refusal z) (length_of unsigned z) r) (sized b (admits false z) (refusal z) (length_of unsigned z) r)
unfolding sized
stricter_sized true w z r = stricter_same _
stricter_sized false w z r = stricter_then _ _ _ (stricter_checked w z)

stricter_basic : (w : Bool) (k : Basic) → Stricter (read_basic (by_place w) k) (read_basic (by_place false) k)
unfolding read_basic read_text read_blob
stricter_basic w (number b) = stricter_same _
stricter_basic w boolean = stricter_same _
stricter_basic w level = stricter_same _
stricter_basic w natural = stricter_same _
stricter_basic w (text z) = stricter_single _ _ _ (stricter_sized (keeps z) w z _)
stricter_basic w (blob z) = stricter_single _ _ _ (stricter_sized (keeps z) w z _)
stricter_basic w (optional d k) = stricter_basic w k

-- ---- rs reads rows, r marks, and g q seeks the place q: what rs takes r takes, and g passes where q is after it; where rs refuses r marks, and g finds the mark

record Passes {S A : Type 0} (R : S → A → Type 0) (r : Reader A) (g : ℕ → Reader A) (p : ℕ) (s : List ℕ) (st : S) (n : ℕ) : Type 0 where
  x : A
  such : R st x
  reads : r p s ≡ ok x n
  passes : (q : ℕ) → p + n ≤ q → g q p s ≡ ok x n

pub record Stops {A : Type 0} (r : Reader A) (g : ℕ → Reader A) (p : ℕ) (s : List ℕ) (e : Refusal) : Type 0 where
  pub row : ℕ
  pub field : ℕ
  pub marks : r p s ≡ bad (naming 0 row field e)
  pub after : p ≤ e.place
  pub finds : g e.place p s ≡ bad (found row field)

record Finds {S A : Type 0} (R : S → A → Type 0) (rs : Reader S) (r : Reader A) (g : ℕ → Reader A) : Type 0 where
  takes : (p : ℕ) (s : List ℕ) (st : S) (n : ℕ) → rs p s ≡ ok st n → Passes R r g p s st n
  stops : (p : ℕ) (s : List ℕ) (e : Refusal) → rs p s ≡ bad e → Stops r g p s e

abbrev Any : {S A : Type 0} → S → A → Type 0
Any st x = Unit {0}

finds_give : {S A : Type 0} (st : S) (x : A) → Finds Any (give st) (give x) (λ q. give x)
unfolding give
finds_give st x = record {
  takes = λ p s y n e. let i : 0 ≡ n = cc in record { x = x; such = tt; reads = ap (λ (k : ℕ). ok x k) i; passes = λ q h. ap (λ (k : ℕ). ok x k) i };
  stops = λ p s e d. not_ok (sym d);
}

-- one field
finds_mark : {A : Type 0} (row f : ℕ) (r g : Reader A) → Tells r → Stricter r g → Hungry g → Finds (λ x y. x ≡ y) r (mark row f r) (λ q. stop q row f g)
unfolding mark stop
finds_mark {A} row f r g t h some = record {
  takes = λ p s x n e. record { x = x; such = refl; reads = rw e; passes = λ q l. rw (same p s x n e (h.law p s), lt-false q (p + n) l) };
  stops = λ p s e d. record { row = row; field = f; marks = rw d; after = (t.law p s e d).behind; finds = lies p s e d (h.law p s) };
}
  where
    same : (p : ℕ) (s : List ℕ) (x : A) (n : ℕ) → r p s ≡ ok x n → (r p s ≡ g p s) ⊎ ((e : ℕ) × (r p s ≡ bad (because e p))) → g p s ≡ ok x n
    same p s x n e (inl d) = sym d ∙ e
    same p s x n e (inr (c, d)) = not_ok (sym d ∙ e)

    lies : (p : ℕ) (s : List ℕ) (e : Refusal) → r p s ≡ bad e → (r p s ≡ g p s) ⊎ ((c : ℕ) × (r p s ≡ bad (because c p))) → halted e.place row f p (g p s) ≡ bad (found row f)
    lies p s e d (inl i) = rw (sym i ∙ d)
    lies p s e d (inr (c, i)) =
        let j : bad (because c p) ≡ bad e = sym i ∙ d in
        let k : because c p ≡ e = cc in
        let at : p ≡ e.place = ap (λ (u : Refusal). u.place) k in
        by_result (g p s) (λ x n l. let o = some.law p s x n l in rw (l, lt-true e.place (p + n) (omega arith))) (λ b l. rw l)

finds_then : {S T A B : Type 0} (R : S → A → Type 0) (rs : Reader S) (fs : S → Reader T) (r : Reader A) (f : A → Reader B) (g : ℕ → Reader A) (h : ℕ → A → Reader B) → Finds R rs r g → ((st : S) (x : A) → R st x → Finds Any (fs st) (f x) (λ q. h q x)) → Finds Any (then rs fs) (then r f) (λ q. then (g q) (h q))
finds_then {S} {T} {A} {B} R rs fs r f g h one two = record { takes = took; stops = λ p s e d. by_result (rs p s) (λ st n i. refused_later p s e st n i d) (λ c i. refused_first p s e (i ∙ same_bad (sym (then_bad rs fs p s c i) ∙ d))) }
  where
    same_bad : {X Y : Type 0} {c e : Refusal} → ◌≡◌ {A = Res X} (bad c) (bad e) → ◌≡◌ {A = Res Y} (bad c) (bad e)
    same_bad {X} {Y} {c} {e} h = let x : c ≡ e = cc in ap bad x

    both : (k : Reader A) (l : A → Reader B) (p : ℕ) (s : List ℕ) (x : A) (y : B) (n j m : ℕ) → m ≡ n + j → k p s ≡ ok x n → l x (p + n) (drop n s) ≡ ok y j → then k l p s ≡ ok y m
    both k l p s x y n j m i a b = then_ok k l p s x n a ∙ ap (more n) b ∙ ap (λ (u : ℕ). ok y u) (sym i)

    took : (p : ℕ) (s : List ℕ) (y : T) (m : ℕ) → then rs fs p s ≡ ok y m → Passes Any (then r f) (λ q. then (g q) (h q)) p s y m
    took p s y m e =
        let d = split rs fs p s y m e in
        let a = one.takes p s d.x d.n d.first in
        let b = (two d.x a.x a.such).takes (p + d.n) (drop d.n s) y d.k d.second in
        record {
          x = b.x;
          such = tt;
          reads = both r f p s a.x b.x d.n d.k m d.sum a.reads b.reads;
          passes = λ q l. both (g q) (h q) p s a.x b.x d.n d.k m d.sum (a.passes q (omega (arith, d.sum))) (b.passes q (omega (arith, d.sum)));
        }

    refused_first : (p : ℕ) (s : List ℕ) (e : Refusal) → rs p s ≡ bad e → Stops (then r f) (λ q. then (g q) (h q)) p s e
    refused_first p s e d =
        let a = one.stops p s e d in
        record { row = a.row; field = a.field; marks = then_bad r f p s _ a.marks; after = a.after; finds = then_bad (g e.place) _ p s _ a.finds }

    refused_later : (p : ℕ) (s : List ℕ) (e : Refusal) (st : S) (n : ℕ) → rs p s ≡ ok st n → then rs fs p s ≡ bad e → Stops (then r f) (λ q. then (g q) (h q)) p s e
    refused_later p s e st n i d =
        by_result (fs st (p + n) (drop n s)) (λ y k j. not_ok (sym d ∙ then_ok rs fs p s st n i ∙ ap (more n) j))
        (λ c j.
        let a = one.takes p s st n i in
        let v : ◌≡◌ {A = Res T} (bad c) (bad e) = sym (then_ok rs fs p s st n i ∙ ap (more n) j) ∙ d in
        let b = (two st a.x a.such).stops (p + n) (drop n s) e (j ∙ v) in
        let l = b.after in
        record {
          row = b.row;
          field = b.field;
          marks = then_ok r f p s a.x n a.reads ∙ ap (more n) b.marks;
          after = omega arith;
          finds = then_ok (g e.place) _ p s a.x n (a.passes e.place l) ∙ ap (more n) b.finds;
        })

finds_loop : {S A : Type 0} (rs : S → Reader S) (r : A → Reader A) (g : ℕ → A → Reader A) → ((st : S) (x : A) → Finds Any (rs st) (r x) (λ q. g q x)) → (n : ℕ) (st : S) (x : A) → Finds Any (loop n rs st) (loop n r x) (λ q. loop n (g q) x)
unfolding loop
finds_loop rs r g h zero st x = finds_give st x
finds_loop rs r g h (suc n) st x = finds_then Any (rs st) _ (r x) _ (λ q. g q x) (λ q d. loop n (g q) d) (h st x) (λ u y w. finds_loop rs r g h n u y)

module _ (w : Bool) {S : Type 0} (add : ℕ → List ℕ → S → S) where
  finds_rows : (l : Shape) (o : ℕ) (st : S) (row f : ℕ) (c : List ℕ) → Finds Any (read_rows w add l o st) (reading w l row f c) (λ q. seek q l row f c)
  unfolding read_rows reading seek
  finds_rows end o st row f c = finds_give st c
  finds_rows (field k r) o st row f c =
      finds_then (λ x y. x ≡ y) _ _ _ _ (λ q. stop q row f (read_basic (by_place false) k)) (λ q x. seek q r row (suc f) c)
      (finds_mark row f _ _ (tells_basic w k) (stricter_basic w k) (hungry_basic false k)) (λ x y e. finds_rows r o (add o (cells k x) st) row (suc f) c)
  finds_rows (absent k r) o st row f c = finds_rows r o (add o (absent_cells k) st) row f c
  finds_rows (array z t i r) o st row f c =
      finds_then (λ x y. x ≡ y) _ _ _ items (λ q. stop q row f (checked (admits false z) (refusal z) (length_of unsigned z))) (λ q. sought q)
      (finds_mark row f _ _ (tells_checked (admits w z) z) (stricter_checked w z) (hungry_checked (admits false z) (refusal z) z))
      (λ n m e.
      subst (λ (j : ℕ). Finds Any (then (loop (n - 1) (read_rows w add i t) (add o (count_cell (keeps z) n ∷ []) st)) (λ u. read_rows w add r o u)) (items j) (λ q. sought q j)) e
      (finds_then Any _ _ _ _ (λ q. loop (n - 1) (λ d. seek q i (get_or d t 0) 0 (begun t d)) c) (λ q d. seek q r row (suc f) d)
      (finds_loop _ _ (λ q d. seek q i (get_or d t 0) 0 (begun t d)) (λ u d. finds_rows i t u (get_or d t 0) 0 (begun t d)) (n - 1) _ c) (λ u d y. finds_rows r o u row (suc f) d)))
    where
      items : ℕ → Reader (List ℕ)
      items n = then (loop (n - 1) (λ d. reading w i (get_or d t 0) 0 (begun t d)) c) (λ d. reading w r row (suc f) d)

      sought : ℕ → ℕ → Reader (List ℕ)
      sought q n = then (loop (n - 1) (λ d. seek q i (get_or d t 0) 0 (begun t d)) c) (λ d. seek q r row (suc f) d)
  finds_rows (lacking z t i r) o st row f c = finds_rows r o (add o (absent_count z ∷ []) st) row f c

  -- what the reader refuses is marked with a row and a field, and these are found at its place
  pub right : (l : Shape) (o : ℕ) (st : S) (row f : ℕ) (c : List ℕ) (p : ℕ) (s : List ℕ) (e : Refusal) → read_rows w add l o st p s ≡ bad e → Stops (reading w l row f c) (λ q. seek q l row f c) p s e
  right l o st row f c p s e d = (finds_rows l o st row f c).stops p s e d
