-- A refusal with what its walk came to has the definition's name: for a number that is of no field, for a place in front of the fields, and for every other.
use Rattle.std.proofs.Common.{◌≡◌, ℕ, ◌<◌, ◌≤◌, Bool, true, false, cond, ◌||◌, ltb, List, [], drop, sym, refl, ap, ◌∙◌}
use mathlib.Core.Option.{Option}
use Rattle.layout.specs.Reading.{Refusal, Res, bad, more, naming, nowhere, ok}
use Rattle.layout.specs.Rows.{Shape}
use Rattle.layout.specs.Names.{fieldless, name_at, name_by, seek}
use Rattle.layout.proofs.Tests.{lt-false, lt-true}
use Rattle.body_reading.specs.Walk.{on}
use Rattle.std.specs.Prelude.{Ok, Err}
use Rattle.names.specs.Walks.{Sought, lies, named_by, of_sought}
use Rattle.names.specs.declared.Found.{Found}

module _ (m : ℕ) (l : Shape) (k : List ℕ) (p : ℕ) (s : List ℕ) (e : Refusal) where
  by_tests : (t : Bool) → (fieldless e.number || ltb e.place p) ≡ t → cond t (naming m nowhere nowhere e) (name_by m e (seek e.place l nowhere 0 k p (drop p s))) ≡ name_at m l k p (drop p s) e
  unfolding name_at
  by_tests t d = rw d

  pub no_field : fieldless e.number ≡ true → naming m nowhere nowhere e ≡ name_at m l k p (drop p s) e
  no_field h = by_tests true (rw h)

  module _ (h : fieldless e.number ≡ false) where
    pub before_fields : e.place < p → naming m nowhere nowhere e ≡ name_at m l k p (drop p s) e
    before_fields g = by_tests true (rw (h, lt-true e.place p g))

    as_found : (o : Res (List ℕ)) → named_by m e (lies (more p o)) ≡ name_by m e o
    as_found (ok y n) = refl
    as_found (bad c) = refl

    in_fields : p ≤ e.place → (x : Option (ℕ × ℕ)) → x ≡ lies (on (seek e.place l nowhere 0 k) s p) → named_by m e x ≡ name_at m l k p (drop p s) e
    unfolding on
    in_fields g x d = ap (named_by m e) d ∙ as_found (seek e.place l nowhere 0 k p (drop p s)) ∙ by_tests false (rw (h, lt-false e.place p g))

    -- what the walk leaves of its counts has no part in the name
    pub by_walk : p ≤ e.place → (c : List ℕ) (o : Sought) → of_sought c o ≡ on (seek e.place l nowhere 0 k) s p → named_by m e (lies (of_sought [] o)) ≡ name_at m l k p (drop p s) e
    by_walk g c (Err x) d = in_fields g (lies (of_sought c (Err x))) (ap lies d)
    by_walk g c (Ok n) d = in_fields g (lies (of_sought c (Ok n))) (ap lies d)

module _ (m : ℕ) (e r : Refusal) (x : Sought) where
  pub by_found : (a : Found) → x ≡ Err a → r ≡ naming m a.row a.field e → r ≡ named_by m e (lies (of_sought [] x))
  by_found a d g = g ∙ sym (ap (λ (y : Sought). named_by m e (lies (of_sought [] y))) d)

  pub by_past : (n : ℕ) → x ≡ Ok n → r ≡ naming m nowhere nowhere e → r ≡ named_by m e (lies (of_sought [] x))
  by_past n d g = g ∙ sym (ap (λ (y : Sought). named_by m e (lies (of_sought [] y))) d)
