-- From what a library's call promises to the numbers that an entry point hands back, with the tables or the output.
use mathlib.Core.Bool.{Bool, false, true}
use mathlib.Core.List.{List, ◌∷◌}
use mathlib.Core.Path.{◌∙◌, ◌≡◌, ap, ap₂, refl, sym}
use Prim.Native.Nat.{suc, zero, ℕ}
use lib.IntN.{ℤ}
use mir.Facts.{to_z-of_z}
use mir.Syntax.{w64}
use mir.Val.{SFits, of_z, to_z}
use Rattle.layout.specs.Tables.{Tables}
use Rattle.layout.specs.Answers.{Answer, Message, prefix_read, read_answer, whole_read, write_answer}
use Rattle.primitives.specs.Answers.{is_set}
use Rattle.gateway.specs.Replies.{told}

unset : (n : ℕ) → n ≡ 0 → is_set n ≡ false
unfolding is_set
unset n e = ap is_set e

set : (n : ℕ) → (n ≡ 0 → ⊥) → is_set n ≡ true
unfolding is_set
set zero h = absurd (h refl)
set (suc n) h = refl

module _ {N : Type 0} (f : Answer → N) (r : N) (a : Answer) (e : r ≡ f a) where
  pub told_by : {A : Type 0} (x : A) (o : Answer × A) → (a, x) ≡ o → (r, x) ≡ told f o
  unfolding told
  told_by {A} x o h = (λ i. (e i, x)) ∙ ap {A = Answer × A} {B = N × A} (told f) h

  -- a version that passed an argument
  module _ (m : Message) (z : ℤ) (g : SFits w64 z) where
    pub prefix_told : (x olds : Tables) (s : List ℕ) → (a, x) ≡ prefix_read m (to_z w64 (of_z w64 z)) olds s → (r, x) ≡ told f (prefix_read m z olds s)
    prefix_told x olds s h = told_by x _ (h ∙ ap (λ (y : ℤ). prefix_read m y olds s) (to_z-of_z g))

    module _ (n : ℕ) (x olds : Tables) (s : List ℕ) where
      pub not_whole : n ≡ 0 → (a, x) ≡ prefix_read m (to_z w64 (of_z w64 z)) olds s → (r, x) ≡ told f (read_answer (is_set n) m z olds s)
      unfolding prefix_read
      not_whole u h = told_by x _ (h ∙ ap₂ (λ (b : Bool) (y : ℤ). read_answer b m y olds s) (sym (unset n u)) (to_z-of_z g))

      pub is_whole : (n ≡ 0 → ⊥) → (a, x) ≡ whole_read m (to_z w64 (of_z w64 z)) olds s → (r, x) ≡ told f (read_answer (is_set n) m z olds s)
      unfolding whole_read
      is_whole u h = told_by x _ (h ∙ ap₂ (λ (b : Bool) (y : ℤ). read_answer b m y olds s) (sym (set n u)) (to_z-of_z g))

    -- and the own row as it was lent
    pub write_told : (lent : List ℕ) (own row : List ℕ) (st : Tables) (out x : List ℕ) → own ≡ row → (a, x) ≡ write_answer m (to_z w64 (of_z w64 z)) lent (own ∷ st) out → (r, x) ≡ told f (write_answer m z lent (row ∷ st) out)
    write_told lent own row st out x d h = told_by x _ (h ∙ ap₂ (λ (y : ℤ) (cs : List ℕ). write_answer m y lent (cs ∷ st) out) (to_z-of_z g) d)
