-- The calls themselves, whatever replies their promises allow: nothing behind the bytes that an accepted read used has a part in its answer,
-- and versions 1, 2 and 3, which have one layout, are read alike.
use mathlib.Core.List.{List, ◌++◌}
use mathlib.Core.Path.{◌∙◌, ◌≡◌, ap, refl, sym}
use Prim.Native.Nat.{◌≤◌, ℕ}
use native.Mathlib.Omega.{arith}
use lib.IntN.{pos, ℤ}
use lib.ListN.{length, take}
use Rattle.layout.specs.Rows.{at, standing, stands}
use Rattle.layout.specs.Answers.{Answer, accepted, most, prefix_read, shape}
use Rattle.layout.specs.Messages.Fetch as Fetch
use Rattle.layout.proofs.Calls.{local_reply}
use Rattle.primitives.proofs.Versions.{between}
use Rattle.body_reading.proofs.Reply.{one_layout}
use Rattle.fetch_response.specs.Answers.{of_response_reply}
use Rattle.fetch_response.proofs.Unique.{Three, Told, listed, response_unique, said}

-- a reply, and the tables behind it, that `read` may give where it is lent these tables
abbrev pub PrefixRead : List ℕ → ℤ → Three → Told → Type 0
PrefixRead msg v lent x = said x ≡ prefix_read Fetch.response v (listed lent) msg

-- the reply accepts, with n bytes used
abbrev pub Accepts : Told → ℕ → Type 0
Accepts x n = (r : List ℕ) × (of_response_reply x.0 ≡ accepted r n)

-- with other bytes behind the used ones the reply and the tables are the same
pub response_local : (msg behind : List ℕ) (v : ℤ) (lent : Three) (x y : Told) (n : ℕ) →
    PrefixRead msg v lent x → Accepts x n → length (take n msg ++ behind) ≤ most → PrefixRead (take n msg ++ behind) v lent y → y ≡ x
response_local msg behind v lent x y n p a h q =
    local_reply said response_unique Fetch.response msg behind v (listed lent) x y a.0 n (listed x.1) p (ap (λ (z : Answer). (z, listed x.1)) a.1) h q

one_shape : (v : ℕ) → 1 ≤ v → v ≤ 3 → shape Fetch.response v ≡ shape Fetch.response 1
unfolding shape at stands standing Fetch.aborted_rows Fetch.partition_rows Fetch.topic_rows Fetch.response_rows
one_shape = between 1 2 (λ v. shape Fetch.response v ≡ shape Fetch.response 1) (refl, (refl, refl))

-- a body is read alike at 1, at 2 and at 3
pub one_to_three : (a b : ℕ) → 1 ≤ a → a ≤ 3 → 1 ≤ b → b ≤ 3 → (msg : List ℕ) (lent : Three) (x y : Told) → PrefixRead msg (pos a) lent x → PrefixRead msg (pos b) lent y → x ≡ y
one_to_three a b h k i j msg lent x y p q =
    response_unique _ x y p (q ∙ sym (one_layout Fetch.response a b (omega arith) (omega arith) (one_shape a h k ∙ sym (one_shape b i j)) (listed lent) msg))
