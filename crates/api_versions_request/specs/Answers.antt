-- What the answers of the calls say in the definition's words: the own row of a request, cell by cell, and the numbers of docs/RULES.md.
use Rattle.std.specs.Prelude.{List, [], ◌++◌, ◌∷◌, ℕ, Option, Some, None, Ok, Err}
use Rattle.layout.specs.Answers.{Answer, accepted, refused}
use Rattle.primitives.specs.Answers.{Read, of_refusal}
use Rattle.primitives.specs.declared.Span.{Span}
use Rattle.api_versions_request.specs.declared.RequestBody.{RequestBody}

-- absent or unset, or a part
abbrev pub Text : Type 0
Text = Option Span

-- the kind, 0 for absent or unset and 2 for present, and start and length
abbrev pub of_text : Text → List ℕ
of_text None = 0 ∷ 0 ∷ 0 ∷ []
of_text (Some x) = 2 ∷ x.start ∷ x.len ∷ []

abbrev pub of_request : RequestBody → List ℕ
of_request x = of_text x.name ++ (of_text x.version ++ (x.tags ∷ []))

abbrev pub of_request_reply : Read RequestBody → Answer
of_request_reply (Ok t) = accepted (of_request t.value) t.next
of_request_reply (Err e) = refused (of_refusal e)
