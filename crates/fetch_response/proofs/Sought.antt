-- The layout of a partition by its version, as the walk to a field takes it.
use mathlib.Core.Bool.{Bool, false, true}
use mathlib.Core.List.{List}
use mathlib.Core.Path.{◌∙◌, ◌≡◌, ap, refl, sym}
use Prim.Native.Nat.{◌<◌, ◌≤◌, ℕ}
use native.Mathlib.Omega.{arith}
use lib.Dec.{leb}
use Rattle.layout.specs.Reading.{Res, nowhere}
use Rattle.layout.specs.Primitives.{empty, fixed, w16, w32, w64}
use Rattle.layout.specs.Rows.{Shape, array, blob, end, field, number, standing, stands}
use Rattle.layout.specs.Names.{seek}
use Rattle.layout.specs.Read.{read_basic}
use Rattle.layout.proofs.Tests.{le-false, le-true}
use Rattle.body_reading.specs.Walk.{on}
use Rattle.names.specs.Walks.{numbers}
use Rattle.fetch_response.specs.Seek.{stable_shape}
use Rattle.fetch_response.specs.TopicShapes.{aborted_shape, partition_shape, topic_shape}
use Rattle.fetch_response.specs.Shapes.{body_shape}

-- index, error and high watermark, and what follows
abbrev pub front : Shape → Shape
front l = field (number w32) (field (number w16) (field (number w64) l))

module _ (q row : ℕ) (c s : List ℕ) (p : ℕ) (b : Bool) (z : Res (List ℕ)) where
  pub with_stable : b ≡ true → z ≡ on (seek q (front stable_shape) row 0 c) s p → z ≡ on (seek q (partition_shape b) row 0 c) s p
  unfolding partition_shape aborted_shape stands standing stable_shape numbers
  with_stable e g = g ∙ ap (λ (x : Bool). on (seek q (partition_shape x) row 0 c) s p) (sym e)

  pub without_stable : b ≡ false → z ≡ on (seek q (front (field (blob (fixed w32 empty)) end)) row 0 c) s p → z ≡ on (seek q (partition_shape b) row 0 c) s p
  unfolding partition_shape stands standing seek
  without_stable e g = g ∙ ap (λ (x : Bool). on (seek q (partition_shape x) row 0 c) s p) (sym e)

  -- a field of the front, whatever the version
  pub in_front : ((l : Shape) → z ≡ on (seek q (front l) row 0 c) s p) → z ≡ on (seek q (partition_shape b) row 0 c) s p
  in_front g = go b refl
    where
      go : (x : Bool) → b ≡ x → z ≡ on (seek q (partition_shape b) row 0 c) s p
      go true e = with_stable e (g stable_shape)
      go false e = without_stable e (g (field (blob (fixed w32 empty)) end))

-- ---- the body: a throttle time from version 1 on

module _ (q v : ℕ) (c s : List ℕ) where
  pub from_one : 1 ≤ v → (z : Res (List ℕ)) → z ≡ on (seek q (field (number w32) (array (fixed w32 empty) 1 (topic_shape (leb 4 v)) end)) nowhere 0 c) s 0 → z ≡ on (seek q (body_shape v) nowhere 0 c) s 0
  unfolding body_shape stands seek read_basic
  from_one h z g = g ∙ sym (rw (le-true 1 v h))

  pub at_zero : v < 1 → (z : Res (List ℕ)) → z ≡ on (seek q (array (fixed w32 empty) 1 (topic_shape false) end) nowhere 0 c) s 0 → z ≡ on (seek q (body_shape v) nowhere 0 c) s 0
  unfolding body_shape stands seek
  at_zero h z g = g ∙ sym (rw (le-false 1 v h, le-false 4 v (omega arith)))
