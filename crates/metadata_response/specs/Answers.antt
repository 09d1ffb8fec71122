-- What the answers of the call say in the definition's words: the own row of a body, cell by cell, and the numbers of docs/RULES.md.
use Rattle.std.specs.Prelude.{List, [], ◌++◌, ◌∷◌, ℕ, Result, Ok, Err, Some, None, Option as Maybe}
use Rattle.std.proofs.Math.Option.{Option, none, some}
use Rattle.layout.specs.Answers.{Answer, accepted, refused}
use Rattle.layout.specs.Reading.{Res, bad, ok}
use Rattle.primitives.specs.Answers.{Read, of_refusal}
use Rattle.primitives.specs.declared.Refusal.{Refusal}
use Rattle.metadata_response.specs.declared.marks.Marks.{Marks}
use Rattle.body_reading.specs.Cells.{field_cells, versioned_cells}
use Rattle.metadata_response.specs.declared.ResponseBody.{ResponseBody}
use Rattle.metadata_response.specs.declared.body.Walked.{Walked}

-- throttle time (kind, number), number of brokers, cluster (kind, start, length), controller (kind, number), number of topics
abbrev pub of_response : ResponseBody → List ℕ
of_response x = versioned_cells x.throttle ++ (x.brokers ∷ (field_cells x.cluster ++ (versioned_cells x.controller ++ (x.topics ∷ []))))

abbrev pub of_response_reply : Read ResponseBody → Answer
of_response_reply (Ok t) = accepted (of_response t.value) t.next
of_response_reply (Err e) = refused (of_refusal e)

-- the cells of each table
abbrev pub sizes : ℕ → Marks → List ℕ
sizes b m = b ∷ m.topics ∷ m.partitions ∷ m.replicas ∷ m.synced ∷ []

-- what a measure tells: the own row, and the cells of each table
abbrev pub of_measure : Result Walked Refusal → Res (List ℕ × List ℕ)
of_measure (Ok w) = ok (of_response w.body, sizes w.brokers w.marks) w.next
of_measure (Err e) = bad (of_refusal e)

-- the rows that the first table too small needs
abbrev pub of_room : Maybe ℕ → Option ℕ
of_room None = none
of_room (Some n) = some n
