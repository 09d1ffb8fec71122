-- The calls themselves, whatever replies their promises allow: nothing behind the bytes that an accepted read used has a part in its answer,
-- and versions 3 and 4, which have one layout, are read alike.
use mathlib.Core.List.{List, ◌++◌}
use mathlib.Core.Path.{◌∙◌, ◌≡◌, ap, refl, sym}
use Prim.Native.Nat.{◌≤◌, ℕ}
use native.Mathlib.Omega.{arith}
use lib.IntN.{pos, ℤ}
use lib.ListN.{length, take}
use Rattle.layout.specs.Rows.{at, standing, stands}
use Rattle.layout.specs.Answers.{Answer, accepted, most, prefix_read, shape}
use Rattle.layout.specs.Messages.Metadata as Meta
use Rattle.layout.proofs.Calls.{local_reply}
use Rattle.body_reading.proofs.Reply.{one_layout}
use Rattle.metadata_response.specs.Answers.{of_response_reply}
use Rattle.metadata_response.proofs.Unique.{Five, Told, listed, response_unique, said}

-- a reply, and the tables behind it, that `read` may give where it is lent these tables
abbrev pub PrefixRead : List ℕ → ℤ → Five → Told → Type 0
PrefixRead msg v lent x = said x ≡ prefix_read Meta.response v (listed lent) msg

-- the reply accepts, with n bytes used
abbrev pub Accepts : Told → ℕ → Type 0
Accepts x n = (r : List ℕ) × (of_response_reply x.0 ≡ accepted r n)

-- with other bytes behind the used ones the reply and the tables are the same
pub response_local : (msg behind : List ℕ) (v : ℤ) (lent : Five) (x y : Told) (n : ℕ) →
    PrefixRead msg v lent x → Accepts x n → length (take n msg ++ behind) ≤ most → PrefixRead (take n msg ++ behind) v lent y → y ≡ x
response_local msg behind v lent x y n p a h q =
    local_reply said response_unique Meta.response msg behind v (listed lent) x y a.0 n (listed x.1) p (ap (λ (z : Answer). (z, listed x.1)) a.1) h q

one_shape : shape Meta.response 3 ≡ shape Meta.response 4
unfolding shape at stands standing Meta.node_rows Meta.partition_rows Meta.topic_rows Meta.broker_rows Meta.response_rows
one_shape = refl

-- a body is read alike at 3 and at 4
pub three_as_four : (msg : List ℕ) (lent : Five) (x y : Told) → PrefixRead msg (pos 3) lent x → PrefixRead msg (pos 4) lent y → x ≡ y
three_as_four msg lent x y p q = response_unique _ x y p (q ∙ sym (one_layout Meta.response 3 4 (omega arith) (omega arith) one_shape (listed lent) msg))
