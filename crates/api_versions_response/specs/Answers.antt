-- What the answers of the calls say in the definition's words: the own row of a body, cell by cell, and the numbers of docs/RULES.md.
use Rattle.std.specs.Prelude.{List, [], ◌++◌, ◌∷◌, ℕ, Ok, Err}
use Rattle.layout.specs.Answers.{Answer, accepted, refused}
use Rattle.primitives.specs.Answers.{Read, of_refusal}
use Rattle.body_reading.specs.Cells.{versioned_cells}
use Rattle.api_versions_response.specs.declared.ResponseBody.{ResponseBody}

-- error, number of items, throttle time (kind, number), number of tags
abbrev pub of_response : ResponseBody → List ℕ
of_response x = x.error ∷ x.items ∷ (versioned_cells x.throttle ++ (x.tags ∷ []))

abbrev pub of_response_reply : Read ResponseBody → Answer
of_response_reply (Ok t) = accepted (of_response t.value) t.next
of_response_reply (Err e) = refused (of_refusal e)

-- 1 for a reply that accepts
abbrev pub accepting : Read ResponseBody → ℕ
accepting (Ok t) = 1
accepting (Err e) = 0
