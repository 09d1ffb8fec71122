-- The whole reply of a read: each way out, from what the measuring and the filling walk came to.
use mathlib.Core.Bool.{Bool, ◌&&◌, false, true}
use mathlib.Core.List.{List, [], ◌++◌, ◌∷◌}
use mathlib.Core.Option.{none, some}
use mathlib.Core.Path.{◌∙◌, ◌≡◌, ap, refl, subst, sym}
use Prim.Native.Nat.{◌/◌, ◌<◌, ◌≤◌, ℕ}
use native.Mathlib.Omega.{arith}
use lib.Dec.{leb, ltb}
use lib.IntN.{pos}
use lib.ListN.{length}
use borrow.Author.Tests.{ltb-false}
use Rattle.std.specs.Prelude.{Result, Ok, Err}
use Rattle.layout.specs.Reading.{Refusal, Res, because, no_room, ok}
use Rattle.layout.specs.Rows.{Shape, at, standing, stands, tag_rows}
use Rattle.layout.specs.Tables.{all, arrays, from, kind_in, kind_of, row_width, width}
use Rattle.layout.specs.Answers.{Answer, accepted, read_answer, refused, shape, widths}
use Rattle.layout.specs.Messages.ApiVersions as Api
use Rattle.layout.proofs.Local.{not_ok}
use Rattle.layout.proofs.Proper.{api_response}
use Rattle.layout.proofs.Tests.{le-false, le-true, of_lt}
use Rattle.primitives.specs.Answers.{of_refusal}
use Rattle.primitives.specs.declared.Refusal as Code
use Rattle.primitives.proofs.Versions.{up_to}
use Rattle.body_reading.specs.Meter.{short}
use Rattle.body_reading.specs.Store.{State, own, tab}
use Rattle.body_reading.specs.Tagged.{tags_if}
use Rattle.body_reading.specs.Walk.{on, walk}
use Rattle.body_reading.proofs.Bound.{lean, slim, taken}
use Rattle.body_reading.proofs.Close.{slices}
use Rattle.layout.proofs.Chunks.{nil}
use Rattle.body_reading.proofs.Reply.{answers_fits, answers_left, answers_needs, answers_no}
use Rattle.api_versions_response.specs.Answers.{of_response}
use Rattle.api_versions_response.specs.ItemShapes.{key_shape}
use Rattle.api_versions_response.specs.Shapes.{body_shape, response_shape, tail_shape}
use Rattle.api_versions_response.specs.Walks.{is_left, of_measured}
use Rattle.api_versions_response.specs.declared.ResponseBody.{ResponseBody}
use Rattle.api_versions_response.specs.declared.reading.Measured.{Measured}

-- ---- what the laws of all messages ask of this one, computed

is_slim : slim Api.response ≡ true
unfolding slim all from lean taken row_width width shape at stands standing tag_rows Api.key_rows Api.response_rows
is_slim = refl

pub row_widths : widths Api.response ≡ 4 ∷ 3 ∷ []
unfolding widths from kind_of kind_in arrays row_width width shape at stands standing tag_rows Api.key_rows Api.response_rows
row_widths = refl

-- the layout of a version, by what sets it apart
pub shape_is : (v : ℕ) → v ≤ 3 → shape Api.response v ≡ response_shape (leb 1 v) (leb 3 v)
unfolding shape at stands standing tag_rows Api.key_rows Api.response_rows
shape_is = up_to 3 (λ v. shape Api.response v ≡ response_shape (leb 1 v) (leb 3 v)) (refl, (refl, (refl, refl)))

module _ (i t a b : ℕ) where
  short_items : a / 4 < i / 4 → short (widths Api.response) (i ∷ t ∷ []) (a ∷ b ∷ []) ≡ some (i / 4)
  unfolding short
  short_items h = rw (row_widths, le-false (i / 4) (a / 4) h)

  short_tags : i / 4 ≤ a / 4 → b / 3 < t / 3 → short (widths Api.response) (i ∷ t ∷ []) (a ∷ b ∷ []) ≡ some (t / 3)
  unfolding short
  short_tags h k = rw (row_widths, le-true (i / 4) (a / 4) h, le-false (t / 3) (b / 3) k)

  short_none : i / 4 ≤ a / 4 → t / 3 ≤ b / 3 → short (widths Api.response) (i ∷ t ∷ []) (a ∷ b ∷ []) ≡ none
  unfolding short
  short_none h k = rw (row_widths, le-true (i / 4) (a / 4) h, le-true (t / 3) (b / 3) k)

-- ---- what a whole read leaves

module _ (w : Bool) (q z : ℕ) where
  pub left_whole : w ≡ true → ltb q z ≡ is_left w q z
  unfolding is_left
  left_whole e = rw e

  pub left_prefix : w ≡ false → false ≡ is_left w q z
  unfolding is_left
  left_prefix e = rw e

  some_left : is_left w q z ≡ true → (w ≡ true) × (q < z)
  unfolding is_left
  some_left e = go w e
    where
      go : (b : Bool) → (b && ltb q z) ≡ true → (b ≡ true) × (q < z)
      go true d = (refl, of_lt q z d)
      go false d = absurd (let x : ◌≡◌ {A = ℕ} 0 1 = cc in omega arith)

  none_left : is_left w q z ≡ false → w ≡ true → z ≤ q
  unfolding is_left
  none_left e d = ltb-false q z (ap (λ (b : Bool). b && ltb q z) (sym d) ∙ e)

-- ---- the ways out

module _ (w : Bool) (v : ℕ) (known : v ≤ 3) (s is ts : List ℕ) (size : length s ≤ 1048576) where
  -- the walk of code over these tables
  abbrev walked : List ℕ → List ℕ → Res State
  walked js us = on (walk w (body_shape (leb 1 v) (leb 3 v)) 0 (own [] ∷ tab js 0 ∷ tab us 0 ∷ [])) s 0

  as_shape : (js us : List ℕ) → walked js us ≡ on (walk w (shape Api.response v) 0 (own [] ∷ tab js 0 ∷ tab us 0 ∷ [])) s 0
  unfolding body_shape tail_shape key_shape tags_if
  as_shape js us = ap (λ (l : Shape). on (walk w l 0 (own [] ∷ tab js 0 ∷ tab us 0 ∷ [])) s 0) (sym (shape_is v known))

  abbrev Reply : Answer → List ℕ → List ℕ → Type 0
  Reply a js us = (a, js ∷ us ∷ []) ≡ read_answer w Api.response (pos v) (is ∷ ts ∷ []) s

  module _ (js₀ js us₀ us : List ℕ) (r : Result Measured Code.Refusal) (first : of_measured js us r ≡ walked js₀ us₀) (no_items : length js ≡ 0) (no_tags : length us ≡ 0) where
    -- over no room nothing is altered
    kept : (a : Answer) → Reply a is ts → Reply a (js ++ is) (us ++ ts)
    kept a e = (λ i. (a, (nil js no_items i ++ is) ∷ (nil us no_tags i ++ ts) ∷ [])) ∙ e

    pub reply_no : (c : Code.Refusal) → r ≡ Err c → Reply (refused (of_refusal c)) (js ++ is) (us ++ ts)
    reply_no c e =
        kept _ (answers_no Api.response api_response is_slim w v known s size (is ∷ ts ∷ []) (js₀ ∷ us₀ ∷ []) refl refl (of_refusal c) (ap (of_measured js us) (sym e) ∙ first ∙ as_shape js₀ us₀))

    module _ (y : Measured) (e : r ≡ Ok y) where
      abbrev x : ResponseBody
      x = y.body

      abbrev q : ℕ
      q = y.next

      abbrev i : ℕ
      i = y.items

      abbrev t : ℕ
      t = y.tags

      measured : ok (own (of_response x) ∷ tab js i ∷ tab us t ∷ []) q ≡ on (walk w (shape Api.response v) 0 (own [] ∷ tab js₀ 0 ∷ tab us₀ 0 ∷ [])) s 0
      measured = ap (of_measured js us) (sym e) ∙ first ∙ as_shape js₀ us₀

      pub reply_left : is_left w q (length s) ≡ true → (c : Refusal) → c ≡ because 9 q → Reply (refused c) (js ++ is) (us ++ ts)
      reply_left l c d =
          let a = some_left w q (length s) l in
          kept _ (ap (λ (y : Refusal). (refused y, is ∷ ts ∷ [])) d ∙ answers_left Api.response api_response is_slim w v known s size (is ∷ ts ∷ []) (js₀ ∷ us₀ ∷ []) refl refl (of_response x) (tab js i ∷ tab us t ∷ []) q measured a.0 a.1)

      module _ (l : is_left w q (length s) ≡ false) where
        lacks_room : (k : ℕ) → short (widths Api.response) (i ∷ t ∷ []) (length is ∷ length ts ∷ []) ≡ some k → (c : Refusal) → c ≡ no_room k → Reply (refused c) (js ++ is) (us ++ ts)
        lacks_room k h c d =
            kept _ (ap (λ (y : Refusal). (refused y, is ∷ ts ∷ [])) d ∙ answers_needs Api.response api_response is_slim w v known s size (is ∷ ts ∷ []) (js₀ ∷ us₀ ∷ []) refl refl (of_response x) (tab js i ∷ tab us t ∷ []) q measured (none_left w q (length s) l) k h)

        -- the lengths are those of the lent tables
        long : (ks us : List ℕ) → length ks ≡ 0 → length (ks ++ us) ≡ length us
        long ks us z = ap (λ (y : List ℕ). length (y ++ us)) (nil ks z)

        pub reply_items : length (js ++ is) / 4 < i / 4 → (c : Refusal) → c ≡ no_room (i / 4) → Reply (refused c) (js ++ is) (us ++ ts)
        reply_items h c d = lacks_room (i / 4) (short_items i t (length is) (length ts) (subst (λ (n : ℕ). n / 4 < i / 4) (long js is no_items) h)) c d

        module _ (h : i / 4 ≤ length (js ++ is) / 4) where
          items_fit : i / 4 ≤ length is / 4
          items_fit = subst (λ (n : ℕ). i / 4 ≤ n / 4) (long js is no_items) h

          pub reply_tags : length (us ++ ts) / 3 < t / 3 → (c : Refusal) → c ≡ no_room (t / 3) → Reply (refused c) (js ++ is) (us ++ ts)
          reply_tags k c d = lacks_room (t / 3) (short_tags i t (length is) (length ts) items_fit (subst (λ (n : ℕ). n / 3 < t / 3) (long us ts no_tags) k)) c d

          pub reply_took : t / 3 ≤ length (us ++ ts) / 3 → (js₂ us₂ : List ℕ) (r₂ : Result Measured Code.Refusal) → of_measured js₂ us₂ r₂ ≡ walked (js ++ is) (us ++ ts) → Reply (accepted (of_response x) q) js₂ us₂
          reply_took k js₂ us₂ r₂ d =
              answers_fits Api.response api_response is_slim w v known s size (is ∷ ts ∷ []) (js₀ ∷ us₀ ∷ []) refl refl (of_response x) (tab js i ∷ tab us t ∷ []) q measured (none_left w q (length s) l)
              (short_none i t (length is) (length ts) items_fit (subst (λ (n : ℕ). t / 3 ≤ n / 3) (long us ts no_tags) k)) (of_measured js₂ us₂ r₂)
              (d ∙ (λ j. walked (nil js no_items j ++ is) (nil us no_tags j ++ ts)) ∙ as_shape is ts) (js₂ ∷ us₂ ∷ []) (λ y n j. holds r₂ y n j)
            where
              holds : (r₂ : Result Measured Code.Refusal) (y : State) (n : ℕ) → of_measured js₂ us₂ r₂ ≡ ok y n → slices y ≡ js₂ ∷ us₂ ∷ []
              holds (Ok b) y n g = let z : own (of_response b.body) ∷ tab js₂ b.items ∷ tab us₂ b.tags ∷ [] ≡ y = cc in ap slices (sym z)
              holds (Err c) y n g = not_ok g
