-- Nothing behind the bytes that an accepted read used has a part in its answer: with other bytes there the reply and the table are the same.
use mathlib.Core.List.{List, [], ◌++◌, ◌∷◌}
use mathlib.Core.Path.{◌≡◌, ap}
use Prim.Native.Nat.{◌≤◌, ℕ}
use lib.IntN.{ℤ}
use lib.ListN.{length, take}
use Rattle.layout.specs.Answers.{Answer, accepted, most, prefix_read}
use Rattle.layout.specs.Messages.ApiVersions as Api
use Rattle.layout.proofs.Calls.{local_reply}
use Rattle.api_versions_request.specs.Answers.{of_request_reply}
use Rattle.primitives.specs.Answers.{Read}
use Rattle.api_versions_request.specs.declared.RequestBody.{RequestBody}
use Rattle.api_versions_request.proofs.Unique.{request_unique, said}

-- `read`
pub request_local : (msg behind : List ℕ) (v : ℤ) (lent : List ℕ) (x y : Read RequestBody × List ℕ) (r : List ℕ) (n : ℕ) →
    said x ≡ prefix_read Api.request v (lent ∷ []) msg → of_request_reply x.0 ≡ accepted r n → length (take n msg ++ behind) ≤ most →
    said y ≡ prefix_read Api.request v (lent ∷ []) (take n msg ++ behind) → y ≡ x
request_local msg behind v lent x y r n p a h q =
    local_reply said request_unique Api.request msg behind v _ x y r n (x.1 ∷ []) p (ap (λ (z : Answer). (z, x.1 ∷ [])) a) h q
