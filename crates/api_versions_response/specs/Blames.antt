-- What the walk over a response to the first field whose fault is e says, part by part: error, items, throttle time. Tags have no fault, and no part in it. Assumes nothing.
use Rattle.std.specs.Prelude.{Bool, List, [], ◌∷◌, ℕ}
use Rattle.layout.specs.Names.{Sought, else}
use Rattle.layout.specs.Primitives.{w16}
use Rattle.layout.specs.Reading.{nowhere}
use Rattle.layout.specs.Rows.{end, field, number}
use Rattle.body_writing.specs.Blames.{row_blame, rows_blame}
use Rattle.api_versions_response.specs.ItemShapes.{key_front}
use Rattle.api_versions_response.specs.Shapes.{throttle_shape}

-- t: the version has a throttle time, n
unfoldable pub response_blame : ℕ → Bool → ℕ → ℕ → List ℕ → List ℕ → Sought
response_blame e t error n items c =
    else (row_blame [] e (field (number w16) end) nowhere 0 c (error ∷ [])) (λ c₁.
    else (rows_blame [] e key_front 4 1 items c₁) (λ c₂.
    row_blame [] e (throttle_shape t end) nowhere 2 c₂ (2 ∷ n ∷ [])))
