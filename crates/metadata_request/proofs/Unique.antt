-- The promise of `write` determines the reply and the output.
use mathlib.Core.List.{List, [], ◌∷◌}
use mathlib.Core.Path.{◌≡◌}
use lib.IntN.{ℤ}
use Prim.Native.Nat.{ℕ}
use Rattle.layout.specs.Answers.{write_answer}
use Rattle.layout.specs.Messages.Metadata as Meta
use Rattle.primitives_put.specs.Answers.{Written, replied}
use Rattle.primitives_put.proofs.Unique.{written_unique}
use Rattle.metadata_request.specs.Answers.{of_request}
use Rattle.metadata_request.specs.declared.RequestBody.{RequestBody}

pub written_request_unique : (version : ℤ) (lent topics out : List ℕ) (x y : Written × List ℕ) (body : RequestBody) →
    replied x.0 x.1 ≡ write_answer Meta.request version lent (of_request body ∷ topics ∷ []) out →
    replied y.0 y.1 ≡ write_answer Meta.request version lent (of_request body ∷ topics ∷ []) out → x ≡ y
written_request_unique version lent topics out x y body = written_unique (write_answer Meta.request version lent (of_request body ∷ topics ∷ []) out) x y
