-- What a request says in the definition's words: its own row, cell by cell.
use Rattle.std.specs.Prelude.{List, [], ◌++◌, ◌∷◌, ℕ}
use Rattle.body_reading.specs.Cells.{versioned_cells}
use Rattle.fetch_request.specs.declared.RequestBody.{RequestBody}

-- replica, wait, min bytes, max bytes (kind, number), isolation (kind, number), number of topics
abbrev pub of_request : RequestBody → List ℕ
of_request x = x.replica ∷ x.max_wait ∷ x.min_bytes ∷ (versioned_cells x.max_bytes ++ (versioned_cells x.isolation ++ (x.topics ∷ [])))
