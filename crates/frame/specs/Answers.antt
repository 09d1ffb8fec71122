-- What the answers of the calls say in the definition's words: the row of a header, cell by cell, and the body's start and length after it.
use Rattle.std.specs.Prelude.{List, [], ◌++◌, ◌∷◌, ℕ, Ok, Err}
use Rattle.layout.specs.Answers.{Answer, accepted, refused}
use Rattle.primitives.specs.Answers.{Read, of_refusal}
use Rattle.body_reading.specs.Cells.{field_cells}
use Rattle.frame.specs.declared.Frame.{Frame}
use Rattle.frame.specs.declared.RequestHeader.{RequestHeader}
use Rattle.frame.specs.declared.ResponseHeader.{ResponseHeader}

abbrev pub of_request : RequestHeader → List ℕ
of_request h = h.request_api_key ∷ h.request_api_version ∷ h.correlation_id ∷ (field_cells h.client_id ++ (h.tags ∷ []))

abbrev pub of_response : ResponseHeader → List ℕ
of_response h = h.correlation_id ∷ h.tags ∷ []

-- what the readers answer
abbrev pub RequestFrame : Type 0
RequestFrame = Read (Frame RequestHeader)

abbrev pub ResponseFrame : Type 0
ResponseFrame = Read (Frame ResponseHeader)

-- a header's cells are shown by `row`
abbrev pub of_frame : {H : Type 0} → (H → List ℕ) → Read (Frame H) → Answer
of_frame row (Ok t) = accepted (row t.value.header ++ (t.value.body.start ∷ t.value.body.len ∷ [])) t.next
of_frame row (Err e) = refused (of_refusal e)

abbrev pub of_request_frame : RequestFrame → Answer
of_request_frame r = of_frame of_request r

abbrev pub of_response_frame : ResponseFrame → Answer
of_response_frame r = of_frame of_response r
