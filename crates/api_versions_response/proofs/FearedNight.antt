-- The calls themselves: whatever replies their promises allow, of the three ApiVersions response layouts (version 0; 1 and 2; 3) at most one accepts a body read whole,
-- and nothing behind the bytes that an accepted prefix read used has a part in its answer.
use mathlib.Core.List.{List, [], ◌++◌, ◌∷◌}
use mathlib.Core.Logic.{◌≢◌}
use mathlib.Core.Path.{◌∙◌, ◌≡◌, ap, refl, sym}
use Prim.Native.Nat.{◌+◌, ◌≤◌, ℕ}
use native.Mathlib.Omega.{arith}
use lib.IntN.{pos, ℤ}
use lib.ListN.{length, take}
use Rattle.std.specs.Prelude.{Ok, Err}
use Rattle.layout.specs.Tables.{Tables}
use Rattle.layout.specs.Answers.{Answer, accepted, most, prefix_read, whole_read}
use Rattle.layout.specs.Messages.ApiVersions as Api
use Rattle.layout.proofs.Calls.{local_reply}
use Rattle.layout.proofs.Demand3.{at_most_one, era}
use Rattle.primitives.specs.Answers.{Read}
use Rattle.api_versions_response.specs.Answers.{accepting, of_response_reply}
use Rattle.api_versions_response.specs.declared.ResponseBody.{ResponseBody}
use Rattle.api_versions_response.proofs.Unique.{Told, response_unique, said}

-- a reply, and the tables behind it, that `read_whole` may give where it is lent the tables of items and tags; what `read_answer` promises is the same
abbrev pub WholeRead : List ℕ → ℤ → List ℕ × List ℕ → Told → Type 0
WholeRead msg v lent x = said x ≡ whole_read Api.response v (lent.0 ∷ lent.1 ∷ []) msg

abbrev pub PrefixRead : List ℕ → ℤ → List ℕ × List ℕ → Told → Type 0
PrefixRead msg v lent x = said x ≡ prefix_read Api.response v (lent.0 ∷ lent.1 ∷ []) msg

-- the reply accepts, with n bytes used
abbrev pub Accepts : Told → ℕ → Type 0
Accepts x n = (r : List ℕ) × (of_response_reply x.0 ≡ accepted r n)

whole_answer : (x : Told) (r : List ℕ) (n : ℕ) (o : Answer × Tables) → said x ≡ o → of_response_reply x.0 ≡ accepted r n → o ≡ (accepted r n, x.1.0 ∷ x.1.1 ∷ [])
whole_answer x r n o e a = sym e ∙ ap (λ (y : Answer). (y, x.1.0 ∷ x.1.1 ∷ [])) a

-- at most one of the layouts accepts the body, whatever tables are lent
pub one_layout : (msg : List ℕ) (v w : ℤ) (lent lent' : List ℕ × List ℕ) (x y : Told) (n k : ℕ) →
    WholeRead msg v lent x → WholeRead msg w lent' y → Accepts x n → Accepts y k → era v ≡ era w
one_layout msg v w lent lent' x y n k p q a b =
    at_most_one v w msg _ _ a.0 b.0 n k _ _ (whole_answer x a.0 n _ p a.1) (whole_answer y b.0 k _ q b.1)

-- of whole reads at 0, 1 and 3, one for each layout, at most one accepts
module _ (msg : List ℕ) (l₀ l₁ l₃ t₀ t₁ t₃ : List ℕ × List ℕ) where
  apart : (v w : ℤ) → era v ≢ era w → (lent lent' behind behind' : List ℕ × List ℕ) (r q : Read ResponseBody) → WholeRead msg v lent (r, behind) → WholeRead msg w lent' (q, behind') → accepting r + accepting q ≤ 1
  apart v w d lent lent' behind behind' (Ok b) (Ok c) p q =
      absurd (d (one_layout msg v w lent lent' (Ok b, behind) (Ok c, behind') b.next c.next p q (_, refl) (_, refl)))
  apart v w d lent lent' behind behind' (Ok b) (Err e) p q = omega arith
  apart v w d lent lent' behind behind' (Err e) (Ok c) p q = omega arith
  apart v w d lent lent' behind behind' (Err e) (Err c) p q = omega arith

  one_accepts : (a b c : Read ResponseBody) → WholeRead msg (pos 0) l₀ (a, t₀) → WholeRead msg (pos 1) l₁ (b, t₁) → WholeRead msg (pos 3) l₃ (c, t₃) → accepting a + accepting b + accepting c ≤ 1
  one_accepts a b c p q r =
      let x = apart (pos 0) (pos 1) (λ e. let z : ◌≡◌ {A = ℕ} 0 1 = cc in omega arith) l₀ l₁ t₀ t₁ a b p q in
      let y = apart (pos 0) (pos 3) (λ e. let z : ◌≡◌ {A = ℕ} 0 1 = cc in omega arith) l₀ l₃ t₀ t₃ a c p r in
      let z = apart (pos 1) (pos 3) (λ e. let z : ◌≡◌ {A = ℕ} 0 1 = cc in omega arith) l₁ l₃ t₁ t₃ b c q r in
      omega arith

  pub counted_once : (a b c : Read ResponseBody) (x y z : ℕ) → x ≡ accepting a → y ≡ accepting b → z ≡ accepting c → WholeRead msg (pos 0) l₀ (a, t₀) → WholeRead msg (pos 1) l₁ (b, t₁) → WholeRead msg (pos 3) l₃ (c, t₃) → x + y + z ≤ 1
  counted_once a b c x y z e f g p q r = omega (arith, e, f, g, one_accepts a b c p q r)

-- ---- with other bytes behind the used ones the reply and the tables are the same

-- `read`
pub response_local : (msg behind : List ℕ) (v : ℤ) (lent : List ℕ × List ℕ) (x y : Told) (n : ℕ) →
    PrefixRead msg v lent x → Accepts x n → length (take n msg ++ behind) ≤ most → PrefixRead (take n msg ++ behind) v lent y → y ≡ x
response_local msg behind v lent x y n p a h q =
    local_reply said response_unique Api.response msg behind v _ x y a.0 n (x.1.0 ∷ x.1.1 ∷ []) p (ap (λ (z : Answer). (z, x.1.0 ∷ x.1.1 ∷ [])) a.1) h q
