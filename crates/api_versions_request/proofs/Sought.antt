-- The layout of a request by its version, as the walk to a field takes it.
use mathlib.Core.Bool.{true}
use mathlib.Core.List.{List}
use mathlib.Core.Path.{◌∙◌, ◌≡◌, sym}
use Prim.Native.Nat.{◌<◌, ◌≤◌, ℕ}
use lib.Dec.{leb}
use Rattle.layout.specs.Reading.{Res, nowhere, ok}
use Rattle.layout.specs.Primitives.{compact, never}
use Rattle.layout.specs.Rows.{field, text}
use Rattle.layout.specs.Names.{seek}
use Rattle.layout.specs.Read.{read_basic}
use Rattle.layout.proofs.Tests.{le-false, le-true}
use Rattle.body_reading.specs.Tagged.{tags_if}
use Rattle.body_reading.specs.Walk.{on}
use Rattle.body_reading.proofs.Chains.{give_took}
use Rattle.api_versions_request.specs.Shapes.{request_shape}

module _ (q v : ℕ) (c s : List ℕ) where
  pub no_fields : v < 3 → ok c 0 ≡ on (seek q (request_shape (leb 3 v)) nowhere 0 c) s 0
  unfolding seek
  no_fields h = rw (le-false 3 v h) (give_took c s 0)

  pub from_three : 3 ≤ v → (z : Res (List ℕ)) → z ≡ on (seek q (field (text (compact never)) (field (text (compact never)) (tags_if true 1))) nowhere 0 c) s 0 → z ≡ on (seek q (request_shape (leb 3 v)) nowhere 0 c) s 0
  unfolding tags_if seek read_basic
  from_three h z g = g ∙ sym (rw (le-true 3 v h))
