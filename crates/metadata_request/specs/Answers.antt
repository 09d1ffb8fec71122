-- What a request says in the definition's words: its own row, cell by cell.
use Rattle.std.specs.Prelude.{Bool, cond, List, [], ◌∷◌, ℕ, Option, Some, None, true, unwrap_or}
use Rattle.metadata_request.specs.declared.RequestBody.{RequestBody}

-- the kind, 0 for unset and 2 for set, and the flag
abbrev pub of_creation : Option Bool → List ℕ
of_creation None = 0 ∷ 0 ∷ []
of_creation (Some flag) = 2 ∷ cond flag 1 0 ∷ []

-- the same of a flag as it is written; where there is none nothing is
abbrev pub flag_row : Option Bool → List ℕ
flag_row o = 2 ∷ cond (unwrap_or o true) 1 0 ∷ []

abbrev pub of_request : RequestBody → List ℕ
of_request x = x.topics ∷ of_creation x.creation
