-- The call's promise determines its reply, and nothing behind the bytes that an accepted message used has a part in it.
use mathlib.Core.Bool.{false}
use mathlib.Core.List.{List, ◌++◌}
use mathlib.Core.Path.{◌∙◌, ◌≡◌, refl, sym}
use Prim.Native.Nat.{◌≤◌, ℕ}
use lib.IntN.{ℤ}
use lib.ListN.{length, take}
use Rattle.layout.specs.Reading.{ok}
use Rattle.layout.specs.Tables.{Tables}
use Rattle.layout.specs.Answers.{most, seen}
use Rattle.layout.specs.Lookup as Lookup
use Rattle.layout.specs.Lookup.{lookup}
use Rattle.layout.specs.Messages.Metadata.{response}
use Rattle.layout.proofs.Calls.{seen_local}
use Rattle.layout.proofs.Looked.{lookup_rows}
use Rattle.primitives.proofs.Unique.{refusal_of, unique}
use Rattle.metadata_lookup.specs.Hosts.{Host, of_host}
use Rattle.std.specs.Prelude.{Ok, Err, Some, None}

abbrev host_back : Lookup.Host → Host
host_back (Lookup.refused e) = Err (refusal_of e)
host_back Lookup.unknown = Ok None
host_back (Lookup.found a k) = Ok (Some (record { start = a; len = k }))

host_back_lem : (x : Host) → host_back (of_host x) ≡ x
host_back_lem (Ok (Some a)) = refl
host_back_lem (Ok None) = refl
host_back_lem (Err e) = refl

pub host_unique : (o : Lookup.Host) (x y : Host) → of_host x ≡ o → of_host y ≡ o → x ≡ y
host_unique = unique of_host host_back host_back_lem

-- a reply that the call may give
abbrev pub Tells : List ℕ → ℤ → ℕ → Host → Type 0
Tells msg v node x = of_host x ≡ lookup node v msg

-- with other bytes behind those used, n of them, the reply is the same
pub host_local : (msg behind : List ℕ) (v : ℤ) (node : ℕ) (x y : Host) (st : Tables) (n : ℕ) →
    seen false response v msg ≡ ok st n → length (take n msg ++ behind) ≤ most → Tells msg v node x → Tells (take n msg ++ behind) v node y → y ≡ x
host_local msg behind v node x y st n e h p q =
    host_unique _ y x q (p ∙ lookup_rows node v msg st n e ∙ sym (lookup_rows node v (take n msg ++ behind) st n (seen_local response v msg st n behind e h)))
