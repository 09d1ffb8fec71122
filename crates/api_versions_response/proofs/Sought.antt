-- The layouts of an item and of the body by their version, as the walk to a field takes them; and an item without tags, which is passed over at once.
use mathlib.Core.Bool.{Bool, false, true}
use mathlib.Core.List.{List}
use mathlib.Core.Path.{◌∙◌, ◌≡◌, ap, refl, sym}
use Prim.Native.Nat.{◌+◌, ◌<◌, ◌≤◌, ℕ}
use native.Mathlib.Omega.{arith}
use lib.Dec.{leb}
use lib.ListN.{get_or, length}
use Rattle.layout.specs.Reading.{Res, loop, nowhere, ok}
use Rattle.layout.specs.Primitives.{plain, w16, w32}
use Rattle.layout.specs.Rows.{array, field, items, number}
use Rattle.layout.specs.Names.{seek}
use Rattle.layout.specs.Read.{read_basic}
use Rattle.layout.proofs.Tests.{le-false, le-true}
use Rattle.std.specs.Prelude.{Some}
use Rattle.body_reading.specs.Tagged.{tag_shape, tags_if}
use Rattle.body_reading.specs.Walk.{on}
use Rattle.body_reading.proofs.Chains.{give_took}
use Rattle.body_reading.proofs.FrontAt.{byte_at}
use Rattle.names.specs.Walks.{count_up_to, element, numbers}
use Rattle.names.proofs.Divided.{number_past}
use Rattle.names.proofs.Ends.{count_goes}
use Rattle.names.proofs.Ways.{array_last, tag_count, tags_there}
use Rattle.api_versions_response.specs.ItemShapes.{key_shape}
use Rattle.api_versions_response.specs.ItemWalks.{IsBare}
use Rattle.api_versions_response.specs.Seek.{Passes}
use Rattle.api_versions_response.specs.Shapes.{body_shape, tail_shape}

-- ---- an item

module _ (q row : ℕ) (c s : List ℕ) (p : ℕ) (z : Res (List ℕ)) where
  pub of_item : z ≡ on (seek q (field (number w16) (field (number w16) (field (number w16) (tags_if true 2)))) row 0 c) s p → z ≡ on (seek q (key_shape true) row 0 c) s p
  unfolding key_shape
  of_item g = g

module _ (q n : ℕ) (c s : List ℕ) (p : ℕ) (b : Bool) (z : Res (List ℕ)) where
  pub tagged : b ≡ true → z ≡ on (loop n (element q (key_shape true) 1) c) s p → z ≡ on (loop n (element q (key_shape b) 1) c) s p
  tagged e g = g ∙ ap (λ (x : Bool). on (loop n (element q (key_shape x) 1) c) s p) (sym e)

  three_numbers : (d : List ℕ) → element q (numbers 3 w16) 1 d ≡ element q (key_shape false) 1 d
  unfolding element key_shape tags_if numbers seek
  three_numbers d = refl

  pub untagged : b ≡ false → z ≡ on (loop n (element q (numbers 3 w16) 1) c) s p → z ≡ on (loop n (element q (key_shape b) 1) c) s p
  untagged e g = g ∙ (λ i. on (loop n (λ d. three_numbers d i) c) s p) ∙ ap (λ (x : Bool). on (loop n (element q (key_shape x) 1) c) s p) (sym e)

-- ---- an item of seven bytes: the last is 0, the number of its tags

no_tags : (q row f : ℕ) (c s : List ℕ) (t p : ℕ) → p < length s → p < q → 0 ≡ get_or s p 0 → ok c (p + 1) ≡ on (seek q (tags_if true t) row f c) s p
unfolding loop
no_tags q row f c s t p h g e =
    tags_there q row f c s p true t refl _
    (array_last q row f c s p plain t tag_shape (Some (record { value = 0; next = p + 1 }))
    (count_goes q 0 (p + 1) (omega arith) ∙ ap (count_up_to q) (tag_count s p (ok 0 (p + 1)) (byte_at s p 0 e h (omega arith)))) _ refl _ (give_took c s (p + 1)))

module _ (q : ℕ) (s : List ℕ) (p : ℕ) where
  seven_bytes : p + 6 < length s → p + 6 < q → get_or s (p + 6) 0 ≡ 0 → (row : ℕ) (c : List ℕ) → ok c (p + 7) ≡ on (seek q (key_shape true) row 0 c) s p
  seven_bytes h g e row c =
      let a : p + 2 + 2 + 2 ≡ p + 6 = omega arith in
      let b : p + 7 ≡ p + 2 + 2 + 2 + 1 = omega arith in
      of_item q row c s p (ok c (p + 7))
      (number_past q row 0 c s p w16 _ (omega arith) _
      (number_past q row 1 c s (p + 2) w16 _ (omega arith) _
      (number_past q row 2 c s (p + 2 + 2) w16 _ (omega arith) _
      (ap (ok c) b ∙ no_tags q row 3 c s 2 (p + 2 + 2 + 2) (omega arith) (omega arith) (sym (ap (λ (j : ℕ). get_or s j 0) a ∙ e))))))

  pub passes : (r : Bool) → p + 6 < q → IsBare true s p r → Passes q s p r
  passes r g d = record { whole = λ e. (let h = d.whole e in omega arith); law = λ e. seven_bytes (d.whole e) g (d.empty e) }

-- ---- the body: a throttle time from version 1 on, tagged fields in 3

module _ (q v : ℕ) (c s : List ℕ) (p : ℕ) where
  pub no_tail : v < 1 → ok c p ≡ on (seek q (tail_shape (leb 1 v) (leb 3 v)) nowhere 2 c) s p
  unfolding tail_shape tags_if seek
  no_tail h = rw (le-false 1 v h, le-false 3 v (omega arith)) (give_took c s p)

  pub of_tail_lem : 1 ≤ v → (z : Res (List ℕ)) → z ≡ on (seek q (field (number w32) (tags_if (leb 3 v) 2)) nowhere 2 c) s p → z ≡ on (seek q (tail_shape (leb 1 v) (leb 3 v)) nowhere 2 c) s p
  unfolding tail_shape seek read_basic
  of_tail_lem h z g = g ∙ sym (rw (le-true 1 v h))

pub of_body : (q : ℕ) (t f : Bool) (c s : List ℕ) (z : Res (List ℕ)) → z ≡ on (seek q (field (number w16) (array (items f) 1 (key_shape f) (tail_shape t f))) nowhere 0 c) s 0 → z ≡ on (seek q (body_shape t f) nowhere 0 c) s 0
unfolding body_shape
of_body q t f c s z g = g
