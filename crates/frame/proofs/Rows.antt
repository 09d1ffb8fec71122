-- Headers, row by row: each way out of the walks over them.
use mathlib.Core.Bool.{false, true}
use mathlib.Core.List.{List, [], ◌++◌, ◌∷◌}
use mathlib.Core.Path.{◌∙◌, ◌≡◌, ap, refl, sym}
use Prim.Native.Nat.{◌<◌, ◌≤◌, ℕ}
use lib.Dec.{leb}
use Rattle.layout.specs.Reading.{Refusal, Res, bad, ok}
use Rattle.layout.specs.Primitives.{cell, fixed, kept, minus, w16, w32}
use Rattle.layout.specs.Rows.{Shape, at, end, field, number, standing, stands, tag_rows, text}
use Rattle.layout.specs.Read.{read_basic}
use Rattle.layout.specs.Tables.{cells}
use Rattle.layout.specs.Answers.{shape}
use Rattle.layout.specs.Messages.Headers as Headers
use Rattle.layout.specs.Messages.Headers.{request_rows, response_rows}
use Rattle.primitives.specs.Answers.{of_refusal}
use Rattle.primitives.specs.declared.Refusal as Code
use Rattle.body_reading.specs.Cells.{field_cells}
use Rattle.body_reading.specs.Store.{State, Tab, store, tab}
use Rattle.body_reading.specs.Tagged.{tags_if}
use Rattle.body_reading.specs.Walk.{Runs, on, row_from, walk}
use Rattle.body_reading.specs.Walked.{counted_at}
use Rattle.body_reading.specs.declared.walks.Counted.{Counted}
use Rattle.std.specs.Prelude.{Err, Result}
use Rattle.tagged_fields.specs.Read.{in_tables, in_tables_is}
use Rattle.frame.specs.Walks.{front_shape, of_request_walked, of_response_walked}
use Rattle.frame.specs.declared.RequestHeader.{RequestHeader}
use Rattle.frame.specs.declared.ResponseHeader.{ResponseHeader}
use Rattle.frame.specs.declared.reading.Fields.{Fields}
use Rattle.frame.specs.declared.reading.HeaderAt.{HeaderAt}
use Rattle.layout.proofs.Tests.{le-false}
use Rattle.primitives.proofs.Versions.{between, up_to}
use Rattle.tagged_fields.proofs.Replies.{tags_lacking}
use Rattle.body_reading.proofs.Chains.{field_no, field_took}
use Rattle.body_reading.proofs.Front.{Flat, onto}
use Rattle.body_reading.proofs.OneTable.{alone, alone_row}
use Rattle.body_reading.proofs.RowCells as RowCells
use Rattle.body_reading.proofs.RowCells.{cells_end, cells_if_no, cells_if_took, cells_no, cells_took}
use Rattle.body_reading.proofs.Stores.{store_append}

-- ---- what a request header has before its tags

abbrev client_text : Shape
client_text = field (text (fixed w16 kept)) end

module _ (w : List ℕ) where
  abbrev fronted : Res (List ℕ)
  fronted = on (row_from [] front_shape) w 4

  pub key_no : (c : Refusal) → bad c ≡ on (cell w16) w 4 → bad c ≡ fronted
  unfolding front_shape read_basic
  key_no c e = cells_no [] (number w16) _ w 4 c e

  module _ (k p : ℕ) (d : ok k p ≡ on (cell w16) w 4) where
    after_key : (z : Res (List ℕ)) → z ≡ on (row_from (k ∷ []) (field (number w16) (field (number w32) client_text))) w p → z ≡ fronted
    unfolding front_shape read_basic cells
    after_key z e = cells_took [] (number w16) _ w 4 k p d z e

    pub version_no : (c : Refusal) → bad c ≡ on (cell w16) w p → bad c ≡ fronted
    unfolding read_basic
    version_no c e = after_key (bad c) (cells_no (k ∷ []) (number w16) _ w p c e)

    module _ (v q : ℕ) (f : ok v q ≡ on (cell w16) w p) where
      after_version : (z : Res (List ℕ)) → z ≡ on (row_from (k ∷ v ∷ []) (field (number w32) client_text)) w q → z ≡ fronted
      unfolding read_basic cells
      after_version z e = after_key z (cells_took (k ∷ []) (number w16) _ w p v q f z e)

      pub correlation_no : (c : Refusal) → bad c ≡ on (cell w32) w q → bad c ≡ fronted
      unfolding read_basic
      correlation_no c e = after_version (bad c) (cells_no (k ∷ v ∷ []) (number w32) _ w q c e)

      module _ (i u : ℕ) (g : ok i u ≡ on (cell w32) w q) where
        after_correlation : (z : Res (List ℕ)) → z ≡ on (row_from (k ∷ v ∷ i ∷ []) client_text) w u → z ≡ fronted
        unfolding read_basic cells
        after_correlation z e = after_version z (cells_took (k ∷ v ∷ []) (number w32) _ w q i u g z e)

        pub client_no : (c : Refusal) → bad c ≡ on (row_from [] (stands true (text (fixed w16 kept)) end)) w u → bad c ≡ fronted
        unfolding stands
        client_no c e = after_correlation (bad c) (cells_if_no true (text (fixed w16 kept)) end (k ∷ v ∷ i ∷ []) w u c e)

        pub front_took : (cs : List ℕ) (n : ℕ) → ok cs n ≡ on (row_from [] (stands true (text (fixed w16 kept)) end)) w u → ok (k ∷ v ∷ i ∷ cs) n ≡ fronted
        unfolding stands
        front_took cs n e = after_correlation _ (cells_if_took true (text (fixed w16 kept)) end (k ∷ v ∷ i ∷ []) w u cs n e _ (cells_end (k ∷ v ∷ i ∷ cs) w n))

-- ---- the headers

pub request_is : (n : ℕ) → 1 ≤ n → n ≤ 2 → onto front_shape (tags_if (leb 2 n) 1) ≡ shape (Headers.request).rows n
unfolding front_shape tags_if shape at stands standing tag_rows request_rows
request_is n a b = between 1 1 (λ n. onto front_shape (tags_if (leb 2 n) 1) ≡ shape (Headers.request).rows n) (refl, refl) n a b

pub response_is : (n : ℕ) → n ≤ 1 → field (number w32) (tags_if (leb 1 n) 1) ≡ shape (Headers.response).rows n
unfolding tags_if shape at stands standing tag_rows response_rows
response_is = up_to 1 (λ n. field (number w32) (tags_if (leb 1 n) 1) ≡ shape (Headers.response).rows n) (refl, refl)

module _ (n : ℕ) (a : 1 ≤ n) (b : n ≤ 2) (w l : List ℕ) where
  -- the header's row so far, and the tags
  abbrev start : Tab → State
  start t = t ∷ tab l 0 ∷ []

  flat : Flat front_shape
  unfolding front_shape
  flat = tt

  as_request : (t : Tab) (z : Res State) → z ≡ on (walk false (onto front_shape (tags_if (leb 2 n) 1)) 0 (start t)) w 4 → z ≡ on (walk false (shape (Headers.request).rows n) 0 (start t)) w 4
  as_request t z e = e ∙ ap (λ (y : Shape). on (walk false y 0 (start t)) w 4) (request_is n a b)

  -- z is what the walk answers
  pub front_no : (c : Code.Refusal) → bad (of_refusal c) ≡ on (row_from [] front_shape) w 4 → (l' : List ℕ) (z : Result (HeaderAt RequestHeader) Code.Refusal) → z ≡ Err c →
      Runs (λ t. walk false (shape (Headers.request).rows n) 0) w 4 start (of_request_walked l' z)
  front_no c d l' z i = record { law = λ t. ap (λ u. of_request_walked l' u t) i ∙ as_request t _ (RowCells.row_no front_shape flat w 4 (tags_if (leb 2 n) 1) 0 (start t) (of_refusal c) d) }

  module _ (f : Fields) (p : ℕ) (d : ok (f.request_api_key ∷ f.request_api_version ∷ f.correlation_id ∷ field_cells f.client_id) p ≡ on (row_from [] front_shape) w 4) (l' : List ℕ) (y : Result Counted Code.Refusal)
      (g : Runs (λ e. walk e.0 (tags_if (leb 2 n) e.1.t) e.1.o) w p (in_tables l 0) (in_tables_is l' y)) where
    abbrev cells_of : List ℕ
    cells_of = f.request_api_key ∷ f.request_api_version ∷ f.correlation_id ∷ field_cells f.client_id

    after_front : (t : Tab) → in_tables_is l' y (false, alone, store t cells_of) ≡ on (walk false (shape (Headers.request).rows n) 0 (start t)) w 4
    after_front t =
        as_request t _
        (RowCells.row_took front_shape flat w 4 (tags_if (leb 2 n) 1) 0 (start t) cells_of p d _
        (g.law (false, alone, store t cells_of) ∙ ap (λ (u : State). on (walk false (tags_if (leb 2 n) 1) 0 u) w p) (sym (alone_row t (tab l 0) cells_of))))

    pub tags_no : (c : Code.Refusal) → y ≡ Err c → (z : Result (HeaderAt RequestHeader) Code.Refusal) → z ≡ Err c → Runs (λ t. walk false (shape (Headers.request).rows n) 0) w 4 start (of_request_walked l' z)
    tags_no c e z i = record { law = λ t. ap (λ u. of_request_walked l' u t) i ∙ ap (λ u. in_tables_is l' u (false, alone, store t cells_of)) (sym e) ∙ after_front t }

    pub header_took : (x q m : ℕ) → y ≡ counted_at x q m → Runs (λ t. walk false (shape (Headers.request).rows n) 0) w 4 start (λ t. ok (store t (cells_of ++ (x ∷ [])) ∷ tab l' m ∷ []) q)
    header_took x q m e = record { law = λ t. ap (λ (u : Tab). ok (u ∷ tab l' m ∷ []) q) (sym (store_append t cells_of (x ∷ []))) ∙ ap (λ u. in_tables_is l' u (false, alone, store t cells_of)) (sym e) ∙ after_front t }

-- the response's: a number before its tags
module _ (n : ℕ) (b : n ≤ 1) (w l : List ℕ) where
  abbrev begin : Tab → State
  begin t = t ∷ tab l 0 ∷ []

  as_response : (t : Tab) (z : Res State) → z ≡ on (walk false (field (number w32) (tags_if (leb 1 n) 1)) 0 (begin t)) w 4 → z ≡ on (walk false (shape (Headers.response).rows n) 0 (begin t)) w 4
  as_response t z e = e ∙ ap (λ (y : Shape). on (walk false y 0 (begin t)) w 4) (response_is n b)

  -- z is what the walk answers
  pub number_no : (c : Code.Refusal) → bad (of_refusal c) ≡ on (cell w32) w 4 → (l' : List ℕ) (z : Result (HeaderAt ResponseHeader) Code.Refusal) → z ≡ Err c →
      Runs (λ t. walk false (shape (Headers.response).rows n) 0) w 4 begin (of_response_walked l' z)
  unfolding read_basic
  number_no c e l' z i = record { law = λ t. ap (λ u. of_response_walked l' u t) i ∙ as_response t _ (field_no false (number w32) _ 0 (begin t) w 4 (of_refusal c) e) }

  module _ (i p : ℕ) (d : ok i p ≡ on (cell w32) w 4) (l' : List ℕ) (y : Result Counted Code.Refusal) (g : Runs (λ e. walk e.0 (tags_if (leb 1 n) e.1.t) e.1.o) w p (in_tables l 0) (in_tables_is l' y)) where
    after_number : (t : Tab) → in_tables_is l' y (false, alone, store t (i ∷ [])) ≡ on (walk false (shape (Headers.response).rows n) 0 (begin t)) w 4
    unfolding read_basic cells
    after_number t =
        as_response t _
        (field_took false (number w32) _ 0 (begin t) w 4 i p _ d
        (g.law (false, alone, store t (i ∷ [])) ∙ ap (λ (u : State). on (walk false (tags_if (leb 1 n) 1) 0 u) w p) (sym (alone_row t (tab l 0) (i ∷ [])))))

    pub response_tags_no : (c : Code.Refusal) → y ≡ Err c → (z : Result (HeaderAt ResponseHeader) Code.Refusal) → z ≡ Err c → Runs (λ t. walk false (shape (Headers.response).rows n) 0) w 4 begin (of_response_walked l' z)
    response_tags_no c e z j = record { law = λ t. ap (λ u. of_response_walked l' u t) j ∙ ap (λ u. in_tables_is l' u (false, alone, store t (i ∷ []))) (sym e) ∙ after_number t }

    pub response_took : (x q m : ℕ) → y ≡ counted_at x q m → Runs (λ t. walk false (shape (Headers.response).rows n) 0) w 4 begin (λ t. ok (store t (i ∷ x ∷ []) ∷ tab l' m ∷ []) q)
    response_took x q m e = record { law = λ t. ap (λ (u : Tab). ok (u ∷ tab l' m ∷ []) q) (sym (store_append t (i ∷ []) (x ∷ []))) ∙ ap (λ u. in_tables_is l' u (false, alone, store t (i ∷ []))) (sym e) ∙ after_number t }

  -- header 0 has none
  pub response_untagged : n < 1 → (i p : ℕ) → ok i p ≡ on (cell w32) w 4 → Runs (λ t. walk false (shape (Headers.response).rows n) 0) w 4 begin (λ t. ok (store t (i ∷ minus ∷ []) ∷ tab l 0 ∷ []) p)
  response_untagged h i p d = response_took i p d l (counted_at minus p 0) (tags_lacking (leb 1 n) w p l 0 (le-false 1 n h)) minus p 0 refl
