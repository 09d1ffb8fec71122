-- The promise of `write` determines reply and output: any two that it allows are equal.
use mathlib.Core.List.{List, [], ◌∷◌}
use mathlib.Core.Path.{◌≡◌}
use Prim.Native.Nat.{ℕ}
use lib.IntN.{ℤ}
use Rattle.layout.specs.Answers.{write_answer}
use Rattle.layout.specs.Messages.ApiVersions as Api
use Rattle.primitives_put.specs.Answers.{replied}
use Rattle.std.specs.Prelude.{Result}
use Rattle.primitives.specs.declared.Refusal.{Refusal}
use Rattle.primitives_put.proofs.Unique.{written_unique}
use Rattle.api_versions_response.specs.Answers.{of_response}
use Rattle.api_versions_response.specs.declared.ResponseBody.{ResponseBody}

module _ (version : ℤ) (lent tags out : List ℕ) (x y : Result ℕ Refusal × List ℕ) where
  pub response_unique : (body : ResponseBody) (items : List ℕ) →
      replied x.0 x.1 ≡ write_answer Api.response version lent (of_response body ∷ items ∷ tags ∷ []) out →
      replied y.0 y.1 ≡ write_answer Api.response version lent (of_response body ∷ items ∷ tags ∷ []) out → x ≡ y
  response_unique body items h g = written_unique (write_answer Api.response version lent (of_response body ∷ items ∷ tags ∷ []) out) x y h g
