-- The promises of the calls that read determine the replies and the tables.
use mathlib.Core.List.{List, [], ◌++◌, ◌∷◌}
use mathlib.Core.Path.{◌≡◌, refl}
use Prim.Native.Nat.{ℕ}
use lib.ListN.{get_or}
use Rattle.layout.specs.Tables.{Tables}
use Rattle.layout.specs.Answers.{Answer, accepted, refused}
use Rattle.primitives.proofs.Unique.{refusal_of, unique}
use Rattle.body_reading.proofs.Unique.{versioned_of}
use Rattle.body_reading.specs.Cells.{versioned_cells}
use Rattle.std.specs.Prelude.{Option, Some, None, Ok, Err}
use Rattle.primitives.specs.Answers.{Read, taken}
use Rattle.api_versions_response.specs.Answers.{of_response_reply}
use Rattle.api_versions_response.specs.declared.ResponseBody.{ResponseBody}

abbrev body_of : List ℕ → ResponseBody
body_of cs = record { error = get_or cs 0 0; items = get_or cs 1 0; throttle = versioned_of (get_or cs 2 0) (get_or cs 3 0); tags = get_or cs 4 0 }

body_back_lem : (e k : ℕ) (t : Option ℕ) (g : ℕ) → body_of (e ∷ k ∷ (versioned_cells t ++ (g ∷ []))) ≡ record { error = e; items = k; throttle = t; tags = g }
body_back_lem e k None g = refl
body_back_lem e k (Some n) g = refl

abbrev reply_of : Answer → Read ResponseBody
reply_of (accepted cs n) = taken (body_of cs) n
reply_of (refused e) = Err (refusal_of e)

-- a reply, and the tables of items and of tags behind it
abbrev pub Told : Type 0
Told = Read ResponseBody × (List ℕ × List ℕ)

abbrev pub said : Told → Answer × Tables
said x = (of_response_reply x.0, x.1.0 ∷ x.1.1 ∷ [])

said_back : (x : Told) → (reply_of (said x).0, (get_or (said x).1 0 [], get_or (said x).1 1 [])) ≡ x
said_back (Ok t, ts) = λ i. (taken (body_back_lem t.value.error t.value.items t.value.throttle t.value.tags i) t.next, ts)
said_back (Err e, ts) = refl

pub response_unique : (o : Answer × Tables) (x y : Told) → said x ≡ o → said y ≡ o → x ≡ y
response_unique = unique said (λ (o : Answer × Tables). (reply_of o.0, (get_or o.1 0 [], get_or o.1 1 []))) said_back
