-- The rows that code keeps are the layouts of the definition, at every version of each message: computed.
-- Four levels are enough for all: the Metadata response has topics, these have partitions, and these have nodes.
use mathlib.Core.List.{List, [], ◌∷◌}
use mathlib.Core.Path.{◌≡◌, ap, refl}
use Prim.Native.Nat.{◌≤◌, suc, zero, ℕ}
use native.Mathlib.Omega.{arith}
use lib.Dec.{leb}
use lib.ListN.{drop, get_or}
use Rattle.layout.specs.Rows.{Shape, at, end, standing, stands, tag_rows}
use Rattle.layout.specs.Tables.{width}
use Rattle.layout.specs.Answers.{shape}
use Rattle.layout.specs.Messages.ApiVersions as ApiVersions
use Rattle.layout.specs.Messages.Metadata as Metadata
use Rattle.layout.specs.Messages.Fetch as Fetch
use Rattle.layout.specs.Messages.Headers as Headers
use Rattle.layout_rows.specs.Rows.{api_versions_request, api_versions_response, fetch_request, fetch_response, metadata_request, metadata_response, request_header, response_header, table}
use Rattle.layout_rows.specs.Shapes.{listed, shape_of}

-- the shapes at versions 0 to n
abbrev versions : (ℕ → Shape) → ℕ → List Shape
versions f zero = f 0 ∷ []
versions f (suc n) = f 0 ∷ versions (λ v. f (suc v)) n

-- where the two lists are equal, the shapes are equal at each version
each : (f g : ℕ → Shape) (n : ℕ) → versions f n ≡ versions g n → (v : ℕ) → v ≤ n → f v ≡ g v
each f g zero e zero h = ap (λ l. get_or l 0 end) e
each f g zero e (suc v) h = absurd (omega arith)
each f g (suc n) e zero h = ap (λ l. get_or l 0 end) e
each f g (suc n) e (suc v) h = each (λ v. f (suc v)) (λ v. g (suc v)) n (ap (drop 1) e) v (omega arith)

pub api_versions_request_is : (v : ℕ) → v ≤ (ApiVersions.request).last → shape ApiVersions.request v ≡ shape_of (leb (ApiVersions.request).flexible v) v 4 api_versions_request
unfolding shape at stands standing width tag_rows ApiVersions.request_rows table listed shape_of
api_versions_request_is = each _ _ (ApiVersions.request).last refl

pub api_versions_response_is : (v : ℕ) → v ≤ (ApiVersions.response).last → shape ApiVersions.response v ≡ shape_of (leb (ApiVersions.response).flexible v) v 4 api_versions_response
unfolding shape at stands standing width tag_rows ApiVersions.key_rows ApiVersions.response_rows table listed shape_of
api_versions_response_is = each _ _ (ApiVersions.response).last refl

pub metadata_request_is : (v : ℕ) → v ≤ (Metadata.request).last → shape Metadata.request v ≡ shape_of (leb (Metadata.request).flexible v) v 4 metadata_request
unfolding shape at stands standing width Metadata.name_rows Metadata.request_rows table listed shape_of
metadata_request_is = each _ _ (Metadata.request).last refl

pub metadata_response_is : (v : ℕ) → v ≤ (Metadata.response).last → shape Metadata.response v ≡ shape_of (leb (Metadata.response).flexible v) v 4 metadata_response
unfolding shape at stands standing width Metadata.broker_rows Metadata.node_rows Metadata.partition_rows Metadata.topic_rows Metadata.response_rows table listed shape_of
metadata_response_is = each _ _ (Metadata.response).last refl

pub fetch_request_is : (v : ℕ) → v ≤ (Fetch.request).last → shape Fetch.request v ≡ shape_of (leb (Fetch.request).flexible v) v 4 fetch_request
unfolding shape at stands standing width Fetch.ask_rows Fetch.ask_topic_rows Fetch.request_rows table listed shape_of
fetch_request_is = each _ _ (Fetch.request).last refl

pub fetch_response_is : (v : ℕ) → v ≤ (Fetch.response).last → shape Fetch.response v ≡ shape_of (leb (Fetch.response).flexible v) v 4 fetch_response
unfolding shape at stands standing width Fetch.aborted_rows Fetch.partition_rows Fetch.topic_rows Fetch.response_rows table listed shape_of
fetch_response_is = each _ _ (Fetch.response).last refl

pub request_header_is : (v : ℕ) → v ≤ (Headers.request).rows.last → shape (Headers.request).rows v ≡ shape_of (leb (Headers.request).rows.flexible v) v 4 request_header
unfolding shape at stands standing width tag_rows Headers.request_rows table listed shape_of
request_header_is = each _ _ (Headers.request).rows.last refl

pub response_header_is : (v : ℕ) → v ≤ (Headers.response).rows.last → shape (Headers.response).rows v ≡ shape_of (leb (Headers.response).rows.flexible v) v 4 response_header
unfolding shape at stands standing width tag_rows Headers.response_rows table listed shape_of
response_header_is = each _ _ (Headers.response).rows.last refl
