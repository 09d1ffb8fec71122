-- What a call answers: of a body at a version that is known, and of a primitive by itself.
use mathlib.Core.List.{List, [], ◌++◌}
use mathlib.Core.Logic.{◌≢◌}
use mathlib.Core.Path.{◌∙◌, ◌≡◌, ap, refl, sym}
use mathlib.Core.Bool.{Bool, cond, false, true}
use Prim.Native.Nat.{◌<◌, ◌≤◌, suc, zero, ℕ}
use lib.Dec.{leb}
use lib.ListN.{drop, length}
use Rattle.layout.specs.Answers.{Answer, accepted, refused, write_alone}
use Rattle.layout.specs.Reading.{Refusal, because, no_room}
use Rattle.layout.specs.Write.{unless}
use Rattle.primitives_put.specs.Put.{Put}
use Rattle.primitives_put.specs.Answers.{Written, of_written, replied, told}
use Rattle.layout.proofs.Tests.{le-false, le-true}

pub refused_alone : (e : ℕ) (bs out : List ℕ) (r : Refusal) → r ≡ because e 0 → e ≢ 0 → {f : ℕ} → e ≡ f → ◌≡◌ {A = Answer × List ℕ} (refused r, out) (write_alone f bs out)
unfolding write_alone
refused_alone zero bs out r i h j = absurd (h refl)
refused_alone (suc e) bs out r i h j = (λ t. (refused (i t), out)) ∙ ap (λ (f : ℕ). write_alone f bs out) j

pub answered_alone : {e f : ℕ} (bs out : List ℕ) (o : Answer × List ℕ) → e ≡ f → e ≡ 0 → o ≡ write_alone 0 bs out → o ≡ write_alone f bs out
answered_alone bs out o i h k = k ∙ ap (λ (f : ℕ). write_alone f bs out) (sym h ∙ i)

pub told_all : (room n : ℕ) → n ≤ room → accepted [] n ≡ told room n
unfolding told
told_all room n h = sym (rw (le-true n room h))

pub told_none : (room n : ℕ) (e : Refusal) → e ≡ no_room n → room < n → refused e ≡ told room n
unfolding told
told_none room n e i h = ap refused i ∙ sym (rw (le-false n room h))

both : {A B : Type 0} (b : Bool) (x y : A) (u v : B) → ◌≡◌ {A = A × B} (cond b x y, cond b u v) (cond b (x, u) (y, v))
both true x y u v = refl
both false x y u v = refl

-- no primitive of these is over the limit
pub answered : (bs d d' : List ℕ) (n : ℕ) (r : Written) → length bs ≤ 1048576 → Put bs d n d' → of_written r ≡ told (length d) n → replied r d' ≡ write_alone 0 bs d
unfolding write_alone told
answered bs d d' n r h p e =
    (λ i. ((e ∙ ap (told (length d)) p.count) i, p.left i))
    ∙ both (leb (length bs) (length d)) (accepted [] (length bs)) (refused (no_room (length bs))) (bs ++ drop (length bs) d) d
    ∙ sym (rw (le-true (length bs) 1048576 h))

module _ (b : Bool) (bs d : List ℕ) where
  pub no_fault : (o : Answer × List ℕ) → b ≡ true → o ≡ write_alone 0 bs d → o ≡ write_alone (unless b 11) bs d
  unfolding unless
  no_fault o h e = e ∙ sym (rw h)

  pub too_wide : (e : Refusal) → e ≡ because 11 0 → b ≡ false → ◌≡◌ {A = Answer × List ℕ} (refused e, d) (write_alone (unless b 11) bs d)
  unfolding unless write_alone
  too_wide e i h = (λ t. (refused (i t), d)) ∙ sym (rw h)
