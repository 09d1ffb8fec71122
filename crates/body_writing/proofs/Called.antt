-- The answer of a call at a version that the message has, from what is answered of its value: for any message.
use mathlib.Core.Bool.{Bool, cond, false, true}
use mathlib.Core.List.{List}
use mathlib.Core.Path.{◌∙◌, ◌≡◌, ap, refl, sym}
use Prim.Native.Nat.{◌<◌, ◌≤◌, ℕ}
use lib.IntN.{ℤ, pos}
use lib.ListN.{length}
use Rattle.layout.specs.Answers.{Answer, Message, body, made, meant, offered, shape, stored, write_alone, write_answer}
use Rattle.layout.specs.Reading.{bad, because}
use Rattle.layout.specs.Tables.{Tables, good}
use Rattle.layout.proofs.Tests.{le-true}
use Rattle.body_writing.specs.Writes.{bytes_at, fault_at, refusal_of}
use Rattle.primitives.specs.Answers.{version_of}
use Rattle.primitives.proofs.Versions.{known}

offered_good : (g : Bool) (e : ℕ) (bs : List ℕ) → cond g (offered e bs) (bad (because 13 0)) ≡ offered (cond g e 13) bs
offered_good true e bs = refl
offered_good false e bs = refl

module _ (m : Message) (z : ℤ) (v : ℕ) (i : v ≡ version_of z) (h : v ≤ m.last) (k : m.last < 65536) (lent : List ℕ) (st : Tables) (out : List ℕ) where
  at_known : write_answer m (pos v) lent st out ≡ write_alone (refusal_of lent m.tables (shape m 0) (shape m v) st) (bytes_at lent (shape m v) 0 st) out
  unfolding write_answer made write_alone refusal_of bytes_at fault_at meant body
  at_known = rw (le-true v m.last h) (ap (stored out) (offered_good (good (length lent) m.tables (shape m 0) st) _ _))

  bad_tables : good (length lent) m.tables (shape m 0) st ≡ false → refusal_of lent m.tables (shape m 0) (shape m v) st ≡ 13
  unfolding refusal_of
  bad_tables g = rw g

  -- the bytes matter where the tables are good
  pub called : (r : Answer × List ℕ) (e : ℕ) (bs : List ℕ) → r ≡ write_alone e bs out → refusal_of lent m.tables (shape m 0) (shape m v) st ≡ e → (good (length lent) m.tables (shape m 0) st ≡ true → bytes_at lent (shape m v) 0 st ≡ bs) → r ≡ write_answer m z lent st out
  unfolding write_alone
  called r e bs w f b = w ∙ sym (at_known ∙ go (good (length lent) m.tables (shape m 0) st) refl) ∙ ap (λ (y : ℤ). write_answer m y lent st out) (known m z v i h k)
    where
      go : (g : Bool) → good (length lent) m.tables (shape m 0) st ≡ g → write_alone (refusal_of lent m.tables (shape m 0) (shape m v) st) (bytes_at lent (shape m v) 0 st) out ≡ write_alone e bs out
      go true j = λ t. write_alone (f t) (b j t) out
      go false j = ap (λ (y : ℕ). write_alone y (bytes_at lent (shape m v) 0 st) out) (bad_tables j) ∙ sym (ap (λ (y : ℕ). write_alone y bs out) (sym f ∙ bad_tables j))
