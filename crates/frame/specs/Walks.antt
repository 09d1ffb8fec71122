-- What the walks over headers say in the definition's words. Table 0 is the header's row, with the cells so far in t, and 1 the tags.
use Rattle.std.specs.Prelude.{List, [], ◌∷◌, ℕ, Result, Ok, Err}
use Rattle.layout.specs.Reading.{Res, bad, ok}
use Rattle.layout.specs.Primitives.{fixed, kept, w16, w32}
use Rattle.layout.specs.Rows.{Shape, end, field, number, text}
use Rattle.primitives.specs.Answers.{Read, of_read, of_refusal}
use Rattle.primitives.specs.declared.Refusal.{Refusal}
use Rattle.body_reading.specs.Cells.{field_cells}
use Rattle.body_reading.specs.Store.{State, Tab, store, tab}
use Rattle.frame.specs.Answers.{of_request, of_response}
use Rattle.frame.specs.declared.RequestHeader.{RequestHeader}
use Rattle.frame.specs.declared.ResponseHeader.{ResponseHeader}
use Rattle.frame.specs.declared.reading.Fields.{Fields}
use Rattle.frame.specs.declared.reading.HeaderAt.{HeaderAt}

-- what a request header has before its tags: API key, version, correlation number, client name
unfoldable pub front_shape : Shape
front_shape = field (number w16) (field (number w16) (field (number w32) (field (text (fixed w16 kept)) end)))

abbrev pub of_front : Read Fields → Res (List ℕ)
of_front r = of_read (λ f. f.request_api_key ∷ f.request_api_version ∷ f.correlation_id ∷ field_cells f.client_id) r

-- a walk over a header, whose cells are shown by `row`
abbrev pub of_walked : {H : Type 0} → (H → List ℕ) → List ℕ → Result (HeaderAt H) Refusal → Tab → Res State
of_walked row l (Ok a) t = ok (store t (row a.header) ∷ tab l a.mark ∷ []) a.next
of_walked row l (Err e) t = bad (of_refusal e)

abbrev pub of_request_walked : List ℕ → Result (HeaderAt RequestHeader) Refusal → Tab → Res State
of_request_walked l r t = of_walked of_request l r t

abbrev pub of_response_walked : List ℕ → Result (HeaderAt ResponseHeader) Refusal → Tab → Res State
of_response_walked l r t = of_walked of_response l r t
