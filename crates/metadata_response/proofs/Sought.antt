-- The layouts of a broker, a topic and the body by their version, as the walk to a field takes them.
use mathlib.Core.Bool.{Bool, false, true}
use mathlib.Core.List.{List}
use mathlib.Core.Path.{◌∙◌, ◌≡◌, ap, refl, sym}
use Prim.Native.Nat.{◌<◌, ◌≤◌, ℕ}
use native.Mathlib.Omega.{arith}
use lib.Dec.{leb}
use Rattle.layout.specs.Reading.{Res, nowhere}
use Rattle.layout.specs.Primitives.{empty, fixed, kept, never, w16, w32}
use Rattle.layout.specs.Rows.{Shape, array, boolean, end, field, number, stands, text}
use Rattle.layout.specs.Names.{seek}
use Rattle.layout.specs.Read.{read_basic}
use Rattle.layout.proofs.Tests.{le-false, le-true}
use Rattle.body_reading.specs.Walk.{on}
use Rattle.metadata_response.specs.Brokers.{broker_shape}
use Rattle.metadata_response.specs.Seek.{controller_shape, topics_shape}
use Rattle.metadata_response.specs.Shapes.{body_shape, tail_shape}
use Rattle.metadata_response.specs.TopicShapes.{partition_shape, topic_shape}

-- ---- a broker: node, host and port, and from version 1 on a rack

abbrev pub address : Shape → Shape
address l = field (number w32) (field (text (fixed w16 never)) (field (number w32) l))

module _ (q row : ℕ) (c s : List ℕ) (p : ℕ) (b : Bool) (z : Res (List ℕ)) where
  pub with_rack : b ≡ true → z ≡ on (seek q (address (field (text (fixed w16 kept)) end)) row 0 c) s p → z ≡ on (seek q (broker_shape b) row 0 c) s p
  unfolding broker_shape stands
  with_rack e g = g ∙ ap (λ (x : Bool). on (seek q (broker_shape x) row 0 c) s p) (sym e)

  pub without_rack : b ≡ false → z ≡ on (seek q (address end) row 0 c) s p → z ≡ on (seek q (broker_shape b) row 0 c) s p
  unfolding broker_shape stands seek
  without_rack e g = g ∙ ap (λ (x : Bool). on (seek q (broker_shape x) row 0 c) s p) (sym e)

  pub in_address : ((l : Shape) → z ≡ on (seek q (address l) row 0 c) s p) → z ≡ on (seek q (broker_shape b) row 0 c) s p
  in_address g = go b refl
    where
      go : (x : Bool) → b ≡ x → z ≡ on (seek q (broker_shape b) row 0 c) s p
      go true e = with_rack e (g (field (text (fixed w16 kept)) end))
      go false e = without_rack e (g end)

-- ---- a topic: error and name, from version 1 on whether it is internal, and the partitions

abbrev pub title : Shape → Shape
title l = field (number w16) (field (text (fixed w16 never)) l)

abbrev pub parts : Shape
parts = array (fixed w32 empty) 3 partition_shape end

module _ (q row : ℕ) (c s : List ℕ) (p : ℕ) (b : Bool) (z : Res (List ℕ)) where
  pub with_flag : b ≡ true → z ≡ on (seek q (title (field boolean parts)) row 0 c) s p → z ≡ on (seek q (topic_shape b) row 0 c) s p
  unfolding topic_shape stands
  with_flag e g = g ∙ ap (λ (x : Bool). on (seek q (topic_shape x) row 0 c) s p) (sym e)

  pub without_flag : b ≡ false → z ≡ on (seek q (title parts) row 0 c) s p → z ≡ on (seek q (topic_shape b) row 0 c) s p
  unfolding topic_shape stands seek
  without_flag e g = g ∙ ap (λ (x : Bool). on (seek q (topic_shape x) row 0 c) s p) (sym e)

  pub in_title : ((l : Shape) → z ≡ on (seek q (title l) row 0 c) s p) → z ≡ on (seek q (topic_shape b) row 0 c) s p
  in_title g = go b refl
    where
      go : (x : Bool) → b ≡ x → z ≡ on (seek q (topic_shape b) row 0 c) s p
      go true e = with_flag e (g (field boolean parts))
      go false e = without_flag e (g parts)

-- ---- the body: a throttle time from version 3 on, a cluster from 2, a controller from 1

module _ (q v f : ℕ) (c s : List ℕ) (p : ℕ) (z : Res (List ℕ)) where
  pub bare_tail : v < 1 → z ≡ on (seek q (topics_shape false) nowhere f c) s p → z ≡ on (seek q (tail_shape v) nowhere f c) s p
  unfolding tail_shape stands seek
  bare_tail h g = g ∙ sym (rw (le-false 1 v h, le-false 2 v (omega arith)))

  pub controlled_tail : 1 ≤ v → v < 2 → z ≡ on (seek q (controller_shape (topics_shape true)) nowhere f c) s p → z ≡ on (seek q (tail_shape v) nowhere f c) s p
  unfolding tail_shape stands seek read_basic
  controlled_tail h k g = g ∙ sym (rw (le-true 1 v h, le-false 2 v k))

  pub whole_tail : 2 ≤ v → z ≡ on (seek q (field (text (fixed w16 kept)) (controller_shape (topics_shape true))) nowhere f c) s p → z ≡ on (seek q (tail_shape v) nowhere f c) s p
  unfolding tail_shape stands seek read_basic
  whole_tail h g = g ∙ sym (rw (le-true 1 v (omega arith), le-true 2 v h))

abbrev pub from_brokers : ℕ → Shape
from_brokers v = array (fixed w32 empty) 1 (broker_shape (leb 1 v)) (tail_shape v)

module _ (q v : ℕ) (c s : List ℕ) (z : Res (List ℕ)) where
  pub untimed : v < 3 → z ≡ on (seek q (from_brokers v) nowhere 0 c) s 0 → z ≡ on (seek q (body_shape v) nowhere 0 c) s 0
  unfolding body_shape stands seek
  untimed h g = g ∙ sym (rw (le-false 3 v h))

  pub timed : 3 ≤ v → z ≡ on (seek q (field (number w32) (from_brokers v)) nowhere 0 c) s 0 → z ≡ on (seek q (body_shape v) nowhere 0 c) s 0
  unfolding body_shape stands seek read_basic
  timed h g = g ∙ sym (rw (le-true 3 v h))
