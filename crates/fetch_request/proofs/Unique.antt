-- The promise of `write` determines the reply and the output.
use mathlib.Core.List.{List, [], ◌∷◌}
use mathlib.Core.Path.{◌≡◌}
use lib.IntN.{ℤ}
use Prim.Native.Nat.{ℕ}
use Rattle.layout.specs.Answers.{write_answer}
use Rattle.layout.specs.Messages.Fetch as Fetch
use Rattle.primitives_put.specs.Answers.{Written, replied}
use Rattle.primitives_put.proofs.Unique.{written_unique}
use Rattle.fetch_request.specs.Answers.{of_request}
use Rattle.fetch_request.specs.declared.RequestBody.{RequestBody}

pub fetch_written_unique : (version : ℤ) (lent topics partitions out : List ℕ) (x y : Written × List ℕ) (body : RequestBody) →
    replied x.0 x.1 ≡ write_answer Fetch.request version lent (of_request body ∷ topics ∷ partitions ∷ []) out →
    replied y.0 y.1 ≡ write_answer Fetch.request version lent (of_request body ∷ topics ∷ partitions ∷ []) out → x ≡ y
fetch_written_unique version lent topics partitions out x y body = written_unique (write_answer Fetch.request version lent (of_request body ∷ topics ∷ partitions ∷ []) out) x y
