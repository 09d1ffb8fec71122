-- The promises of the calls determine the reply, with the table or the output.
use mathlib.Core.List.{List, [], ◌∷◌}
use mathlib.Core.Path.{◌≡◌, ap, refl}
use lib.IntN.{ℤ}
use Prim.Native.Nat.{ℕ}
use lib.ListN.{get_or}
use Rattle.layout.specs.Tables.{Tables}
use Rattle.layout.specs.Answers.{Answer, accepted, refused}
use Rattle.layout.specs.Frames.{frame_written}
use Rattle.layout.specs.Messages.Headers as Headers
use Rattle.primitives.specs.declared.Field.{Field}
use Rattle.std.specs.Prelude.{Err, Ok}
use Rattle.primitives.specs.Answers.{taken}
use Rattle.primitives_put.specs.Answers.{Written, replied}
use Rattle.primitives.proofs.Unique.{refusal_of, unique}
use Rattle.primitives_put.proofs.Unique.{written_unique}
use Rattle.body_reading.proofs.Unique.{field_of}
use Rattle.frame.specs.Answers.{RequestFrame, ResponseFrame, of_request, of_request_frame, of_response, of_response_frame}
use Rattle.frame.specs.declared.RequestHeader.{RequestHeader}
use Rattle.frame.specs.declared.ResponseHeader.{ResponseHeader}

-- ---- read

abbrev request_of : Answer → RequestFrame
request_of (accepted cs n) =
    taken
    (record { header = record { request_api_key = get_or cs 0 0; request_api_version = get_or cs 1 0; correlation_id = get_or cs 2 0; client_id = field_of (get_or cs 3 0) (get_or cs 4 0) (get_or cs 5 0); tags = get_or cs 6 0 }; body = record { start = get_or cs 7 0; len = get_or cs 8 0 } })
    n
request_of (refused e) = Err (refusal_of e)

abbrev response_of : Answer → ResponseFrame
response_of (accepted cs n) = taken (record { header = record { correlation_id = get_or cs 0 0; tags = get_or cs 1 0 }; body = record { start = get_or cs 2 0; len = get_or cs 3 0 } }) n
response_of (refused e) = Err (refusal_of e)

-- a request's frame with the client name f
abbrev with_client : (k v c t a n u : ℕ) → Field → RequestFrame
with_client k v c t a n u f = taken (record { header = record { request_api_key = k; request_api_version = v; correlation_id = c; client_id = f; tags = t }; body = record { start = a; len = n } }) u

-- one client name after the other
by_client : (k v c t a n u : ℕ) (f : Field) → request_of (of_request_frame (with_client k v c t a n u f)) ≡ with_client k v c t a n u f
by_client k v c t a n u Field.Absent = refl
by_client k v c t a n u Field.Null = refl
by_client k v c t a n u (Field.Present x) = refl

abbrev pub request_said : RequestFrame × List ℕ → Answer × Tables
request_said x = (of_request_frame x.0, x.1 ∷ [])

abbrev pub response_said : ResponseFrame × List ℕ → Answer × Tables
response_said x = (of_response_frame x.0, x.1 ∷ [])

request_back : (x : RequestFrame × List ℕ) → (request_of (request_said x).0, get_or (request_said x).1 0 []) ≡ x
request_back (Ok t, d) = let h = t.value.header in ap (λ (y : RequestFrame). (y, d)) (by_client h.request_api_key h.request_api_version h.correlation_id h.tags t.value.body.start t.value.body.len t.next h.client_id)
request_back (Err e, d) = refl

response_back : (x : ResponseFrame × List ℕ) → (response_of (response_said x).0, get_or (response_said x).1 0 []) ≡ x
response_back (Ok t, d) = refl
response_back (Err e, d) = refl

pub request_unique : (o : Answer × Tables) (x y : RequestFrame × List ℕ) → request_said x ≡ o → request_said y ≡ o → x ≡ y
request_unique = unique request_said (λ (o : Answer × Tables). (request_of o.0, get_or o.1 0 [])) request_back

pub response_unique : (o : Answer × Tables) (x y : ResponseFrame × List ℕ) → response_said x ≡ o → response_said y ≡ o → x ≡ y
response_unique = unique response_said (λ (o : Answer × Tables). (response_of o.0, get_or o.1 0 [])) response_back

-- ---- written

module _ (number : ℤ) (lent tags body out : List ℕ) (x y : Written × List ℕ) where
  pub written_request_unique : (header : RequestHeader) →
      replied x.0 x.1 ≡ frame_written Headers.request number lent (of_request header ∷ tags ∷ []) body out →
      replied y.0 y.1 ≡ frame_written Headers.request number lent (of_request header ∷ tags ∷ []) body out → x ≡ y
  written_request_unique header = written_unique (frame_written Headers.request number lent (of_request header ∷ tags ∷ []) body out) x y

  pub written_response_unique : (header : ResponseHeader) →
      replied x.0 x.1 ≡ frame_written Headers.response number lent (of_response header ∷ tags ∷ []) body out →
      replied y.0 y.1 ≡ frame_written Headers.response number lent (of_response header ∷ tags ∷ []) body out → x ≡ y
  written_response_unique header = written_unique (frame_written Headers.response number lent (of_response header ∷ tags ∷ []) body out) x y
