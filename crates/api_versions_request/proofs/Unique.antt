-- The promises of `read` and `write` determine the reply, with the table or the output.
use mathlib.Core.List.{List, [], ◌++◌, ◌∷◌}
use mathlib.Core.Path.{◌≡◌, ap, refl}
use lib.IntN.{ℤ}
use Prim.Native.Nat.{suc, zero, ℕ}
use lib.ListN.{get_or}
use Rattle.layout.specs.Tables.{Tables}
use Rattle.layout.specs.Answers.{Answer, accepted, refused, write_answer}
use Rattle.layout.specs.Messages.ApiVersions as Api
use Rattle.primitives_put.specs.Answers.{replied}
use Rattle.std.specs.Prelude.{Result, Some, None, Ok, Err}
use Rattle.primitives.specs.Answers.{Read, taken}
use Rattle.primitives.specs.declared.Refusal.{Refusal}
use Rattle.primitives_put.proofs.Unique.{written_unique}
use Rattle.primitives.proofs.Unique.{refusal_of, unique}
use Rattle.api_versions_request.specs.Answers.{Text, of_request, of_request_reply, of_text}
use Rattle.api_versions_request.specs.declared.RequestBody.{RequestBody}

-- kind, start, length
abbrev text_of : ℕ → ℕ → ℕ → Text
text_of zero a k = None
text_of (suc n) a k = Some (record { start = a; len = k })

abbrev request_of : List ℕ → RequestBody
request_of cs = record { name = text_of (get_or cs 0 0) (get_or cs 1 0) (get_or cs 2 0); version = text_of (get_or cs 3 0) (get_or cs 4 0) (get_or cs 5 0); tags = get_or cs 6 0 }

by_texts : (x y : Text) (t : ℕ) → request_of (of_text x ++ (of_text y ++ (t ∷ []))) ≡ record { name = x; version = y; tags = t }
by_texts None None t = refl
by_texts None (Some b) t = refl
by_texts (Some a) None t = refl
by_texts (Some a) (Some b) t = refl

request_back : (x : RequestBody) → request_of (of_request x) ≡ x
request_back x = by_texts x.name x.version x.tags

abbrev reply_of : Answer → Read RequestBody
reply_of (accepted cs n) = taken (request_of cs) n
reply_of (refused e) = Err (refusal_of e)

abbrev pub said : Read RequestBody × List ℕ → Answer × Tables
said x = (of_request_reply x.0, x.1 ∷ [])

said_back : (x : Read RequestBody × List ℕ) → (reply_of (said x).0, get_or (said x).1 0 []) ≡ x
said_back (Ok t, d) = ap (λ (y : RequestBody). (taken y t.next, d)) (request_back t.value)
said_back (Err e, d) = refl

pub request_unique : (o : Answer × Tables) (x y : Read RequestBody × List ℕ) → said x ≡ o → said y ≡ o → x ≡ y
request_unique = unique said (λ (o : Answer × Tables). (reply_of o.0, get_or o.1 0 [])) said_back

-- the call that writes: reply and output
pub written_request_unique : (version : ℤ) (lent tags out : List ℕ) (x y : Result ℕ Refusal × List ℕ) (body : RequestBody) →
    replied x.0 x.1 ≡ write_answer Api.request version lent (of_request body ∷ tags ∷ []) out →
    replied y.0 y.1 ≡ write_answer Api.request version lent (of_request body ∷ tags ∷ []) out → x ≡ y
written_request_unique version lent tags out x y body = written_unique (write_answer Api.request version lent (of_request body ∷ tags ∷ []) out) x y
