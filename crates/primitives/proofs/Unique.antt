-- The promise of a call that answers with a number determines its reply: what an enum says in the definition's words gives the enum back. One law for all calls that answer with it.
use mathlib.Core.Bool.{Bool}
use mathlib.Core.Path.{◌∙◌, ◌≡◌, ap, refl, sym}
use Prim.Native.Nat.{ℕ}
use lib.IntN.{ℤ}
use Rattle.std.specs.Prelude.{Ok, Err}
use Rattle.layout.specs.Reading.{Res, bad, ok}
use Rattle.layout.specs.Reading as Reading
use Rattle.primitives.specs.Answers.{Read, of_flag, of_integer, of_number, of_read, taken}
use Rattle.primitives.specs.declared.Refusal.{Refusal}

-- any two replies that a promise `of r ≡ o` allows are equal, where `back` gives the reply again
pub unique : {R A : Type 0} (of : R → A) (back : A → R) → ((r : R) → back (of r) ≡ r) → (o : A) (r s : R) → of r ≡ o → of s ≡ o → r ≡ s
unique of back left o r s h k = sym (left r) ∙ ap back (h ∙ sym k) ∙ left s

abbrev pub refusal_of : Reading.Refusal → Refusal
refusal_of e = record { number = e.number; place = e.place; need = e.need }

-- what is read is shown by f, and `back` gives it again
module _ {A B : Type 0} (f : A → B) (back : B → A) where
  abbrev pub read_back : Res B → Read A
  read_back (ok v n) = taken (back v) n
  read_back (bad e) = Err (refusal_of e)

  pub same_reads : ((v : A) → back (f v) ≡ v) → (o : Res B) (r s : Read A) → of_read f r ≡ o → of_read f s ≡ o → r ≡ s
  same_reads left = unique (of_read f) read_back same
    where
      same : (r : Read A) → read_back (of_read f r) ≡ r
      same (Ok t) = ap (λ (v : A). taken v t.next) (left t.value)
      same (Err e) = refl

pub number_unique : (o : Res ℕ) (r s : Read ℕ) → of_number r ≡ o → of_number s ≡ o → r ≡ s
number_unique = same_reads (λ v. v) (λ v. v) (λ v. refl)

pub integer_unique : (o : Res ℤ) (r s : Read ℤ) → of_integer r ≡ o → of_integer s ≡ o → r ≡ s
integer_unique = same_reads (λ v. v) (λ v. v) (λ v. refl)

pub flag_unique : (o : Res Bool) (r s : Read Bool) → of_flag r ≡ o → of_flag s ≡ o → r ≡ s
flag_unique = same_reads (λ v. v) (λ v. v) (λ v. refl)
