-- The mission's first demand, of every call of the C interface that can refuse: "Bad input gets a number from the table and a place; a refusal leaves every lent table and output unaltered."
-- It is said once over the answers of the definitions, and then of each call, whatever reply its promise allows. That no call has a condition is seen by `tools/believed`.
use mathlib.Core.Bool.{Bool, false}
use mathlib.Core.List.{List, []}
use mathlib.Core.Logic.{inl, inr}
use mathlib.Core.Option.{Option, none, some}
use mathlib.Core.Path.{◌∙◌, ◌≡◌, refl, subst, sym}
use Prim.Native.Nat.{◌≤◌, ℕ}
use native.Mathlib.Omega.{arith}
use lib.IntN.{ℤ, pos}
use lib.ListN.{drop, length}
use Rattle.layout.specs.Reading.{Refusal, Res, bad, ok}
use Rattle.layout.specs.Tables.{Tables}
use Rattle.layout.specs.Answers.{Answer, Message, accepted, judged, needed, prefix_read, read_answer, refused, roomy, seen, tags_alone, widths, write_answer}
use Rattle.layout.specs.Lookup as Lookup
use Rattle.layout.specs.Messages.ApiVersions as Api
use Rattle.layout.specs.Messages.Fetch as Fetch
use Rattle.layout.specs.Messages.Metadata as Metadata
use Rattle.layout.proofs.Looked.{lookup_tells}
use Rattle.layout.proofs.Refusals.{Refuses, seen_refuses}
use Rattle.gateway_primitives.specs.Kinds.{read_kind, write_kind}
use Rattle.primitives.specs.Answers.{is_set}
use Rattle.gateway.specs.Replies.{numbers, told}
use Rattle.gateway_primitives.specs.Replies.{primitive_numbers, tags_numbers}
use Rattle.gateway.specs.declared.Numbers.{Numbers}
use Rattle.gateway_primitives.specs.declared.PrimitiveNumbers.{PrimitiveNumbers}
use Rattle.gateway_primitives.specs.declared.TagsNumbers.{TagsNumbers}
use Rattle.gateway_api_versions.specs.Replies.{request_numbers, response_numbers}
use Rattle.gateway_api_versions.specs.declared.RequestNumbers.{RequestNumbers}
use Rattle.gateway_api_versions.specs.declared.ResponseNumbers.{ResponseNumbers}
use Rattle.gateway_metadata.specs.Replies.{host_numbers, metadata_numbers}
use Rattle.gateway_metadata.specs.declared.HostNumbers.{HostNumbers}
use Rattle.gateway_metadata.specs.declared.MetadataNumbers.{MetadataNumbers}
use Rattle.gateway_fetch.specs.Replies.{fetch_numbers}
use Rattle.gateway_fetch.specs.declared.FetchNumbers.{FetchNumbers}
use Rattle.demands.specs.Refusals.{Answered, Fair, InNumbers}
use Rattle.demands.proofs.Alone.{read_kind_lem, write_kind_lem}
use Rattle.demands.proofs.Faults.{no_room_lem, write_answered}

-- ---- reading

pub of_seen : (top : ℕ) → top ≤ 14 → (s : List ℕ) (e : Refusal) → Refuses top s e → Fair (length s) e
of_seen top k s e h = record { least = h.least; greatest = (let g = h.greatest in omega arith); place_in = h.place_in; no_need = λ n. h.no_need }

-- what is read into tables, or refused: 10 where they have too little room
pub judged_answered : (m : Message) (room : Tables) (size : ℕ) (o : Res Tables) → ((e : Refusal) → o ≡ bad e → Fair size e) → Answered size room (judged m room o).1 (judged m room o).0
judged_answered m room size (bad e) h = (h e refl, refl)
judged_answered m room size (ok st n) h = at_room (needed (widths m) (drop 1 st) room)
  where
    at_room : (k : Option ℕ) → Answered size room (roomy st room n k).1 (roomy st room n k).0
    at_room none = tt
    at_room (some k) = (no_room_lem size k, refl)

pub read_answered : (w : Bool) (m : Message) (v : ℤ) (room : Tables) (s : List ℕ) → Answered (length s) room (read_answer w m v room s).1 (read_answer w m v room s).0
unfolding read_answer
read_answered w m v room s = judged_answered m room (length s) (seen w m v s) (λ e d. of_seen 9 (omega arith) s e (seen_refuses w m v s e d))

-- ---- in numbers

module _ {N A : Type 0} (F : Answer → N) (number place need : N → ℕ) (acceptance : (r : List ℕ) (n : ℕ) → number (F (accepted r n)) ≡ 0)
    (refusal : (e : Refusal) → (number (F (refused e)) ≡ e.number) × (place (F (refused e)) ≡ e.place) × (need (F (refused e)) ≡ e.need)) where
  of_answer : (size : ℕ) (before after : A) (a : Answer) → Answered size before after a → InNumbers size before after (number (F a)) (place (F a)) (need (F a))
  of_answer size before after (accepted r n) h = inl (acceptance r n)
  of_answer size before after (refused e) h =
      let x = refusal e in
      inr (
        record {
          least = subst (λ (k : ℕ). 1 ≤ k) (sym x.0) h.0.least;
          greatest = subst (λ (k : ℕ). k ≤ 14) (sym x.0) h.0.greatest;
          place_in = subst (λ (k : ℕ). k ≤ size) (sym x.1) h.0.place_in;
          no_need = λ n. subst (λ (k : ℕ). k ≡ 0) (sym x.2) (h.0.no_need (λ e. n (x.0 ∙ e)));
        },
        h.1,
      )

  -- a struct r, and what was lent after the call, that the promise `told F o` allows
  pub of_told : (size : ℕ) (before : A) (o : Answer × A) → Answered size before o.1 o.0 → (r : N) (after : A) → (r, after) ≡ told F o → InNumbers size before after (number r) (place r) (need r)
  unfolding told
  of_told size before o h r after p = subst (λ (y : N × A). InNumbers size before y.1 (number y.0) (place y.0) (need y.0)) (sym p) (of_answer size before o.1 o.0 h)

-- ---- each entry point of the C interface that is lent a table or an output: r is what it hands back, and what was lent is `before` and then `after`

module _ (msg : List ℕ) (v : ℤ) (before after : Tables) where
  pub read_api_versions_response : (whole : ℕ) (r : ResponseNumbers) → (r, after) ≡ told response_numbers (read_answer (is_set whole) Api.response v before msg) → InNumbers (length msg) before after r.number r.place r.need
  read_api_versions_response whole = λ r. of_told response_numbers (λ x. x.number) (λ x. x.place) (λ x. x.need) (λ c n. refl) (λ e. (refl, refl, refl)) (length msg) before _ (read_answered (is_set whole) Api.response v before msg) r after

  pub read_api_versions_request : (r : RequestNumbers) → (r, after) ≡ told request_numbers (prefix_read Api.request v before msg) → InNumbers (length msg) before after r.number r.place r.need
  unfolding prefix_read
  read_api_versions_request = λ r. of_told request_numbers (λ x. x.number) (λ x. x.place) (λ x. x.need) (λ c n. refl) (λ e. (refl, refl, refl)) (length msg) before _ (read_answered false Api.request v before msg) r after

  pub read_metadata_response : (r : MetadataNumbers) → (r, after) ≡ told metadata_numbers (prefix_read Metadata.response v before msg) → InNumbers (length msg) before after r.answer.number r.answer.place r.answer.need
  unfolding prefix_read
  read_metadata_response = λ r. of_told metadata_numbers (λ x. x.answer.number) (λ x. x.answer.place) (λ x. x.answer.need) (λ c n. refl) (λ e. (refl, refl, refl)) (length msg) before _ (read_answered false Metadata.response v before msg) r after

  pub read_fetch_response : (r : FetchNumbers) → (r, after) ≡ told fetch_numbers (prefix_read Fetch.response v before msg) → InNumbers (length msg) before after r.answer.number r.answer.place r.answer.need
  unfolding prefix_read
  read_fetch_response = λ r. of_told fetch_numbers (λ x. x.answer.number) (λ x. x.answer.place) (λ x. x.answer.need) (λ c n. refl) (λ e. (refl, refl, refl)) (length msg) before _ (read_answered false Fetch.response v before msg) r after

  pub read_tagged_fields : (r : TagsNumbers) → (r, after) ≡ told tags_numbers (prefix_read tags_alone (pos 0) before msg) → InNumbers (length msg) before after r.number r.place r.need
  unfolding prefix_read
  read_tagged_fields = λ r. of_told tags_numbers (λ x. x.number) (λ x. x.place) (λ x. x.need) (λ c n. refl) (λ e. (refl, refl, refl)) (length msg) before _ (read_answered false tags_alone (pos 0) before msg) r after

-- the five that write a body or tagged fields: m is the message, st its own row and tables
pub written : (m : Message) (v : ℤ) (lent : List ℕ) (st : Tables) (before after : List ℕ) (r : Numbers) → (r, after) ≡ told numbers (write_answer m v lent st before) → InNumbers 0 before after r.number r.place r.need
written m v lent st before after = λ r. of_told numbers (λ x. x.number) (λ x. x.place) (λ x. x.need) (λ c n. refl) (λ e. (refl, refl, refl)) 0 before _ (write_answered m v lent st before) r after

-- nothing is lent for a host
pub find_host : (msg : List ℕ) (v : ℤ) (node : ℕ) (r : HostNumbers) → r ≡ host_numbers (Lookup.lookup node v msg) → InNumbers {A = Tables} (length msg) [] [] r.number r.place r.need
find_host msg v node r p = subst (λ (y : HostNumbers). InNumbers {A = Tables} (length msg) [] [] y.number y.place y.need) (sym p) (go (Lookup.lookup node v msg) refl)
  where
    go : (o : Lookup.Host) → Lookup.lookup node v msg ≡ o → InNumbers {A = Tables} (length msg) [] [] (host_numbers o).number (host_numbers o).place (host_numbers o).need
    go (Lookup.refused e) d = let h = of_seen 9 (omega arith) msg e (lookup_tells node v msg e d) in inr (record { least = h.least; greatest = h.greatest; place_in = h.place_in; no_need = h.no_need }, refl)
    go Lookup.unknown d = inl refl
    go (Lookup.found a k) d = inl refl

-- nor for a primitive that is read
pub read_primitive : (msg : List ℕ) (kind : ℕ) (r : PrimitiveNumbers) → r ≡ primitive_numbers (read_kind kind msg) → InNumbers {A = Tables} (length msg) [] [] r.number r.place r.need
read_primitive msg kind r p = subst (λ (y : PrimitiveNumbers). InNumbers {A = Tables} (length msg) [] [] y.number y.place y.need) (sym p)
    (of_answer primitive_numbers (λ x. x.number) (λ x. x.place) (λ x. x.need) (λ c n. refl) (λ e. (refl, refl, refl)) (length msg) [] [] (read_kind kind msg) (read_kind_lem kind msg))

pub write_primitive : (kind null value : ℕ) (content before after : List ℕ) (r : Numbers) → (r, after) ≡ told numbers (write_kind kind (is_set null) value content before) → InNumbers 0 before after r.number r.place r.need
write_primitive kind null value content before after = λ r. of_told numbers (λ x. x.number) (λ x. x.place) (λ x. x.need) (λ c n. refl) (λ e. (refl, refl, refl)) 0 before _ (write_kind_lem kind (is_set null) value content before) r after
