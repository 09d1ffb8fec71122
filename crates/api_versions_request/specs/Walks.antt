-- What the walk over a request says in the definition's words. Table 0 is the own row, 1 the tags.
use Rattle.std.specs.Prelude.{List, [], ◌∷◌, ℕ, Result, Ok, Err}
use Rattle.layout.specs.Reading.{Res, bad, ok}
use Rattle.primitives.specs.Answers.{of_refusal}
use Rattle.primitives.specs.declared.Refusal.{Refusal}
use Rattle.body_reading.specs.Store.{State, own, tab}
use Rattle.api_versions_request.specs.Answers.{of_request}
use Rattle.api_versions_request.specs.declared.reading.RequestWalked.{RequestWalked}

abbrev pub of_request_walked : List ℕ → Result RequestWalked Refusal → Res State
of_request_walked l (Ok w) = ok (own (of_request w.body) ∷ tab l w.mark ∷ []) w.next
of_request_walked l (Err e) = bad (of_refusal e)
