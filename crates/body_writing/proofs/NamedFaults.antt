-- The name of a writer's refusal, from what its walk came to; and what is known of the number of a refusal.
use mathlib.Core.Bool.{false, true}
use mathlib.Core.List.{List, []}
use mathlib.Core.Logic.{◌≢◌}
use mathlib.Core.Path.{◌∙◌, ◌≡◌, ap, refl, sym}
use Prim.Native.Nat.{◌<◌, ◌≤◌, suc, zero, ℕ}
use native.Mathlib.Omega.{arith}
use lib.Dec.{leb}
use lib.IntN.{ℤ}
use lib.ListN.{length}
use Rattle.layout.specs.Answers.{Answer, Message, accepted, meant, most, named_fault, none_yet, refused, shape, write_alone}
use Rattle.layout.specs.Names.{blame, blamed, fieldless, name_fault}
use Rattle.layout.specs.Reading.{Refusal, because, naming, no_room, nowhere}
use Rattle.layout.specs.Rows.{Shape, Value}
use Rattle.layout.specs.Tables.{Tables, good}
use Rattle.layout.proofs.Tests.{by_test}
use Rattle.primitives.specs.Answers.{of_refusal, version_of}
use Rattle.primitives.proofs.Versions.{known}
use Rattle.primitives.specs.declared.Refusal as Code
use Rattle.std.specs.Prelude.{Ok, Err}
use Rattle.primitives_put.specs.Answers.{Written, replied}
use Rattle.names.specs.declared.Found.{Found}
use Rattle.body_writing.specs.Blames.{Blamed, Cause, blame_at, of_blamed}
use Rattle.body_writing.specs.Writes.{refusal_of}

-- ---- the name

module _ (m : ℕ) (e r : Refusal) (x : Blamed) where
  pub by_found : (a : Found) → x ≡ Err a → r ≡ naming m a.row a.field e → r ≡ blamed m e (of_blamed [] x)
  by_found a d g = g ∙ sym (ap (λ (y : Blamed). blamed m e (of_blamed [] y)) d)

  pub by_past : (u : Unit {0}) → x ≡ Ok u → r ≡ naming m nowhere nowhere e → r ≡ blamed m e (of_blamed [] x)
  by_past u d g = g ∙ sym (ap (λ (y : Blamed). blamed m e (of_blamed [] y)) d)

module _ (m : ℕ) (l : Shape) (k : List ℕ) (x : Value (List ℕ) l) (e : Refusal) where
  pub no_field : fieldless e.number ≡ true → naming m nowhere nowhere e ≡ name_fault m l k x e
  unfolding name_fault
  no_field h = rw h

  -- what the walk leaves of its counts has no part in the name
  pub by_blame : fieldless e.number ≡ false → (c : List ℕ) (o : Blamed) → of_blamed c o ≡ blame e.number l nowhere 0 k x → blamed m e (of_blamed [] o) ≡ name_fault m l k x e
  unfolding name_fault
  by_blame h c o d = go o ∙ ap (blamed m e) d ∙ sym (rw h)
    where
      go : (o : Blamed) → blamed m e (of_blamed [] o) ≡ blamed m e (of_blamed c o)
      go (Err a) = refl
      go (Ok u) = refl

-- two values that are blamed alike
pub same_name : (m : ℕ) (k : List ℕ) (e : Refusal) (l l' : Shape) (x : Value (List ℕ) l) (y : Value (List ℕ) l') → (fieldless e.number ≡ false → blame e.number l nowhere 0 k x ≡ blame e.number l' nowhere 0 k y) → name_fault m l k x e ≡ name_fault m l' k y e
unfolding name_fault
same_name m k e l l' x y g = by_test (fieldless e.number) (λ t. rw t) (λ t. rw t (ap (blamed m e) (g t)))

-- the name that a call gives at a version that the message has, from the name of a value that is blamed alike
module _ (m : Message) (z : ℤ) (v : ℕ) (i : v ≡ version_of z) (h : v ≤ m.last) (j : m.last < 65536) (lent : List ℕ) (st : Tables) (e : Refusal) (l : Shape) (x : Value (List ℕ) l) where
  pub called_name : (r : Refusal) → r ≡ name_fault m.number l none_yet x e → (fieldless e.number ≡ false → blame e.number l nowhere 0 none_yet x ≡ blame_at lent e.number (shape m v) 0 st nowhere 0 none_yet) → r ≡ named_fault m z lent st e
  unfolding named_fault blame_at meant
  called_name r w g = w ∙ same_name m.number none_yet e l (shape m v) x (meant lent st (shape m v)) g ∙ ap (λ (y : ℤ). named_fault m y lent st e) (known m z v i h j)

-- ---- the number

listed : (fieldless 2 ≡ true) × (fieldless 10 ≡ true) × (fieldless 13 ≡ true)
unfolding fieldless
listed = (refl, refl, refl)

-- the number of an answer that refuses
abbrev number_of : Answer → ℕ
number_of (accepted r n) = 0
number_of (refused e) = e.number

-- a refusal with the number k, which is of no field
not_field : (a : Refusal) (x : Answer) (k e : ℕ) → fieldless k ≡ true → refused a ≡ x → number_of x ≡ k → k ≢ 0 → Cause a.number e
not_field a x k e h g i j =
    let same : a.number ≡ k = ap number_of g ∙ i in
    record { some = λ d. j (sym same ∙ d); field = λ f. absurd (let t : true ≡ false = sym h ∙ ap fieldless (sym same) ∙ f in let z : ◌≡◌ {A = ℕ} 0 1 = cc in omega arith) }

cause : (a : Refusal) (e : ℕ) (bs out : List ℕ) → refused a ≡ (write_alone e bs out).0 → Cause a.number e
unfolding write_alone
cause a (suc e) bs out g = let same : a.number ≡ suc e = ap number_of g in record { some = λ d. omega arith; field = λ f. same }
cause a zero bs out g =
    by_test (leb (length bs) most)
    (λ t.
    by_test (leb (length bs) (length out)) (λ u. absurd (let x : refused a ≡ accepted [] (length bs) = rw (t, u) at g in let z : ◌≡◌ {A = ℕ} 0 1 = cc in omega arith))
    (λ u. not_field a (refused (no_room (length bs))) 10 0 listed.1 (rw (t, u) at g) refl (λ d. omega arith)))
    (λ t. not_field a (refused (because 2 0)) 2 0 listed.0 (rw t at g) refl (λ d. omega arith))

-- from what a writer answers
pub refusal_cause : (r : Written) (d : List ℕ) (e : ℕ) (bs out : List ℕ) → replied r d ≡ write_alone e bs out → (c : Code.Refusal) → r ≡ Err c → Cause c.number e
refusal_cause r d e bs out w c h = cause (of_refusal c) e bs out (ap (λ (a : Answer × List ℕ). a.0) (sym (ap (λ (q : Written). replied q d) h) ∙ w))

-- a number that is of a field is a fault of good tables
module _ (lent : List ℕ) (n : ℕ) (a l : Shape) (st : Tables) (number : ℕ) (t : Cause number (refusal_of lent n a l st)) (h : fieldless number ≡ false) where
  pub cause_good : good (length lent) n a st ≡ true
  unfolding refusal_of
  cause_good =
      by_test (good (length lent) n a st) (λ g. g)
      (λ g. absurd (let x : number ≡ 13 = t.field h ∙ rw g in let y : true ≡ false = sym listed.2 ∙ ap fieldless (sym x) ∙ h in let z : ◌≡◌ {A = ℕ} 0 1 = cc in omega arith))
