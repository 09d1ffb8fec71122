-- The third demand's sentence on what comes back, for requests: "A value that the writer accepted at some version .. comes back, with fields that version lacks absent and unset ones at their defaults".
-- Of the calls: whatever reply and output the promise of `write` allows. No call reads a Metadata or a Fetch request, so the definition's reader does (`seen`), a prefix read or a whole one.
use mathlib.Core.Bool.{Bool, cond, false, true}
use mathlib.Core.List.{List, [], ◌++◌, ◌∷◌}
use mathlib.Core.Path.{◌∙◌, ◌≡◌, refl, sym}
use Prim.Native.Nat.{◌≤◌, suc, zero, ℕ}
use native.Mathlib.Omega.{arith}
use lib.Dec.{eqb, leb}
use lib.IntN.{pos}
use lib.ListN.{take}
use Rattle.std.specs.Prelude.{Ok, Option, Some, None}
use Rattle.layout.specs.Primitives.{minus}
use Rattle.layout.specs.Rows.{at, standing, stands, tag_rows}
use Rattle.layout.specs.Tables.{slice, width}
use Rattle.layout.specs.Answers.{shape, write_answer}
use Rattle.layout.specs.Messages.ApiVersions as Api
use Rattle.layout.specs.Messages.Fetch as Fetch
use Rattle.layout.specs.Messages.Metadata as Metadata
use Rattle.layout.specs.Settled.{all_tables, gone, gone_count, num, request_tables, settled_cells, settled_count, settled_row, settled_span, shown_cells, shown_span}
use Rattle.layout.proofs.Proper as Proper
use Rattle.layout.proofs.Returned as Returned
use Rattle.layout.proofs.Returned.{api_request_follows, fetch_request_follows, metadata_request_follows}
use Rattle.primitives.proofs.Versions.{Each, up_to}
use Rattle.primitives_put.specs.Answers.{replied}
use Rattle.body_reading.specs.Cells.{versioned_cells}
use Rattle.api_versions_request.specs.Answers as ApiRow
use Rattle.primitives.specs.declared.Span.{Span}
use Rattle.api_versions_request.specs.declared.RequestBody as ApiBody
use Rattle.metadata_request.specs.Answers as MetadataRow
use Rattle.metadata_request.specs.declared.RequestBody as MetadataBody
use Rattle.fetch_request.specs.Answers as FetchRow
use Rattle.fetch_request.specs.declared.RequestBody as FetchBody
use Rattle.demands.specs.Returned.{tags_back}
use Rattle.demands.specs.Requests.{RequestBack, api_versions_back, creation_back, fetch_back, metadata_back, number_back, text_back}

-- ---- own rows in numbers

api_own : (lent : List ℕ) (v : ℕ) → v ≤ 3 → (x y : Option Span) (g : ℕ) → settled_row lent (shape Api.request v) (ApiRow.of_text x ++ (ApiRow.of_text y ++ (g ∷ []))) ≡
    text_back (leb 3 v) lent x ++ (text_back (leb 3 v) lent y ++ (num (tags_back v g) ∷ []))
unfolding shape at stands standing tag_rows Api.request_rows settled_row settled_cells settled_span shown_cells shown_span settled_count gone gone_count width slice
api_own lent zero h x y g = refl
api_own lent (suc zero) h x y g = refl
api_own lent (suc (suc zero)) h x y g = refl
api_own lent (suc (suc (suc zero))) h None None g = refl
api_own lent (suc (suc (suc zero))) h None (Some y) g = refl
api_own lent (suc (suc (suc zero))) h (Some x) None g = refl
api_own lent (suc (suc (suc zero))) h (Some x) (Some y) g = refl
api_own lent (suc (suc (suc (suc v)))) h x y g = absurd (omega arith)

metadata_own : (lent : List ℕ) (v : ℕ) → v ≤ 4 → (c : ℕ) (x : Option Bool) → settled_row lent (shape Metadata.request v) (c ∷ MetadataRow.of_creation x) ≡ num c ∷ creation_back (leb 4 v) x
unfolding shape at stands standing Metadata.request_rows Metadata.name_rows settled_row settled_cells shown_cells settled_count gone gone_count width
metadata_own lent zero h c x = refl
metadata_own lent (suc zero) h c x = refl
metadata_own lent (suc (suc zero)) h c x = refl
metadata_own lent (suc (suc (suc zero))) h c x = refl
metadata_own lent (suc (suc (suc (suc zero)))) h c None = refl
metadata_own lent (suc (suc (suc (suc zero)))) h c (Some true) = refl
metadata_own lent (suc (suc (suc (suc zero)))) h c (Some false) = refl
metadata_own lent (suc (suc (suc (suc (suc v))))) h c x = absurd (omega arith)

-- the cells of numbers that may be unset are two each, whatever they are
abbrev FetchOwn : List ℕ → FetchBody.RequestBody → Option ℕ → Option ℕ → ℕ → Type 0
FetchOwn lent b x y v =
    settled_row lent (shape Fetch.request v) (b.replica ∷ b.max_wait ∷ b.min_bytes ∷ (versioned_cells x ++ (versioned_cells y ++ (b.topics ∷ []))))
    ≡ num b.replica ∷ num b.max_wait ∷ num b.min_bytes ∷ (number_back (leb 3 v) 2147483647 x ++ (number_back (leb 4 v) 0 y ++ (num (cond (eqb b.topics minus) 0 b.topics) ∷ [])))

fetch_own : (lent : List ℕ) (v : ℕ) → v ≤ 4 → (b : FetchBody.RequestBody) → settled_row lent (shape Fetch.request v) (FetchRow.of_request b) ≡ fetch_back v b
unfolding shape at stands standing Fetch.request_rows Fetch.ask_topic_rows Fetch.ask_rows settled_row settled_cells shown_cells settled_count gone gone_count width
fetch_own lent v h b = up_to 4 (FetchOwn lent b b.max_bytes b.isolation) (go b.max_bytes b.isolation) v h
  where
    go : (x y : Option ℕ) → Each 4 (FetchOwn lent b x y)
    go None None = (refl, (refl, (refl, (refl, refl))))
    go None (Some j) = (refl, (refl, (refl, (refl, refl))))
    go (Some i) None = (refl, (refl, (refl, (refl, refl))))
    go (Some i) (Some j) = (refl, (refl, (refl, (refl, refl))))

-- ---- the statements

-- out, what it is afterwards, and what was lent: any
module _ (out : List ℕ) (v : ℕ) (lent : List ℕ) (n : ℕ) (after : List ℕ) (w : Bool) where
  pub api_versions_request_lem : (b : ApiBody.RequestBody) (tags : List ℕ) → replied (Ok n) after ≡ write_answer Api.request (pos v) lent (ApiRow.of_request b ∷ tags ∷ []) out →
      RequestBack Api.request request_tables v lent (ApiRow.of_request b ∷ tags ∷ []) (take n after) (api_versions_back v lent b) w
  api_versions_request_lem b tags e =
      let B = Returned.comes_back Api.request Proper.api_request request_tables api_request_follows v lent (ApiRow.of_request b ∷ tags ∷ []) out [] n after refl (sym e) w in
      record { back = B; own_row = B.rows.own_row ∙ api_own lent v B.known b.name b.version b.tags }

  pub metadata_request_lem : (b : MetadataBody.RequestBody) (topics : List ℕ) → replied (Ok n) after ≡ write_answer Metadata.request (pos v) lent (MetadataRow.of_request b ∷ topics ∷ []) out →
      RequestBack Metadata.request all_tables v lent (MetadataRow.of_request b ∷ topics ∷ []) (take n after) (metadata_back v b) w
  metadata_request_lem b topics e =
      let B = Returned.comes_back Metadata.request Proper.metadata_request_lem all_tables metadata_request_follows v lent (MetadataRow.of_request b ∷ topics ∷ []) out [] n after refl (sym e) w in
      record { back = B; own_row = B.rows.own_row ∙ metadata_own lent v B.known b.topics b.creation }

  pub fetch_request_lem : (b : FetchBody.RequestBody) (topics partitions : List ℕ) → replied (Ok n) after ≡ write_answer Fetch.request (pos v) lent (FetchRow.of_request b ∷ topics ∷ partitions ∷ []) out →
      RequestBack Fetch.request all_tables v lent (FetchRow.of_request b ∷ topics ∷ partitions ∷ []) (take n after) (fetch_back v b) w
  fetch_request_lem b topics partitions e =
      let B = Returned.comes_back Fetch.request Proper.fetch_request_lem all_tables fetch_request_follows v lent (FetchRow.of_request b ∷ topics ∷ partitions ∷ []) out [] n after refl (sym e) w in
      record { back = B; own_row = B.rows.own_row ∙ fetch_own lent v B.known b }
