-- A request that is written, part by part, each from the law of its layout: texts, tags behind them, what is refused, and the answer to the call.
use mathlib.Core.Bool.{Bool, ◌&&◌, and-true, cond, false, true}
use mathlib.Core.List.{List, [], ◌++◌, ◌∷◌, append-nil}
use mathlib.Core.Path.{◌∙◌, ◌≡◌, ap, refl, sym}
use Prim.Native.Nat.{◌+◌, ◌-◌, ◌/◌, ◌<◌, ◌^◌, ◌≤◌, min, ℕ}
use native.Mathlib.Nat.{add-zero}
use native.Mathlib.Omega.{arith}
use lib.Dec.{leb, lit<, lit≤}
use lib.IntN.{ℤ}
use lib.ListN.{length}
use borrow.Rule.Slice.PartMut.{mid_of, put_mid}
use Rattle.layout.specs.Answers.{Answer, shape, write_alone, write_answer}
use Rattle.layout.specs.Messages.ApiVersions.{request, request_rows}
use Rattle.primitives.proofs.Versions.{up_to}
use Rattle.layout.specs.Primitives.{plain, sized_bytes}
use Rattle.layout.specs.Rows.{at, end, standing, stands, tag_rows}
use Rattle.layout.specs.Tables.{Tables, arrays, asked, basic_of, chosen, count, good, good_cells, good_count, good_row, good_span, inside, kind_in, kind_of, pop, slice, span_of, value_of, width}
use Rattle.layout.specs.Utf8.{utf8}
use Rattle.layout.specs.Write.{basic_fault, fault, or, sized_fault, too_long, unless, write, write_basic}
use Rattle.layout.proofs.Proper.{both}
use Rattle.primitives_put.specs.Step.{Capped, cap}
use Rattle.body_reading.specs.Tagged.{tag_shape, tags_shape}
use Rattle.body_writing.specs.Writes.{bytes_at, counted_bytes, fault_at, refusal_of}
use Rattle.primitives_put.proofs.Capped.{capped, capped_as, capped_behind, capped_there}
use Rattle.body_writing.proofs.Faults.{or_none, or_unless}
use Rattle.body_writing.proofs.Writes.{joined_bytes, joined_fault, refusal_bad, refusal_good, refusal_none}
use Rattle.primitives.specs.Answers.{version_of}
use Rattle.primitives_put.specs.declared.Form.{Form}
use Rattle.primitives_put.specs.Put.{Put, behind_length, size_of}
use Rattle.primitives_put.proofs.Stored.{put_step}
use Rattle.body_writing.proofs.Counts.{Cells}
use Rattle.tagged_fields.proofs.Tags as Tags
use Rattle.body_writing.proofs.Called.{called}
use Rattle.std.specs.Prelude.{Some, None}
use Rattle.primitives.specs.declared.Span.{Span}
use Rattle.api_versions_request.specs.Answers.{Text, of_text}
use Rattle.api_versions_request.specs.Shapes.{request_shape, text_field, texts_shape}

pub is_shape : (v : ℕ) → v ≤ 3 → shape request v ≡ request_shape (leb 3 v)
unfolding shape at stands standing tag_rows request_rows
is_shape = up_to 3 (λ v. shape request v ≡ request_shape (leb 3 v)) (refl, (refl, (refl, refl)))

-- ---- a text that is unset, and one that is there

abbrev pub text_of : List ℕ → Text → List ℕ
text_of lent t = basic_of lent (text_field true) (of_text t)

module _ (t : Text) where
  pub bytes_absent : t ≡ None → (lent x : List ℕ) → x ≡ slice lent (0, 0) → x ≡ text_of lent t
  unfolding basic_of span_of chosen
  bytes_absent h lent x e = e ∙ sym (ap (text_of lent) h)

  pub bytes_present : {p : Span} → t ≡ Some p → (lent x : List ℕ) → x ≡ slice lent (p.start, p.len) → x ≡ text_of lent t
  unfolding basic_of span_of chosen
  bytes_present h lent x e = e ∙ sym (ap (text_of lent) h)

  pub ranged_absent : t ≡ None → (size : ℕ) → true ≡ good_cells size (text_field true) (of_text t)
  unfolding good_cells
  ranged_absent h size = sym (ap (λ (u : Text). good_cells size (text_field true) (of_text u)) h)

  pub ranged_present : {p : Span} → t ≡ Some p → (size : ℕ) (b : Bool) → b ≡ inside size p.start p.len → b ≡ good_cells size (text_field true) (of_text t)
  unfolding good_cells good_span
  ranged_present h size b e = e ∙ sym (ap (λ (u : Text). good_cells size (text_field true) (of_text u)) h)

-- ---- 13

module _ (size : ℕ) (name version : Text) (own : ℕ) (tags : List ℕ) where
  abbrev judged : Bool
  judged = good size 1 (request_shape false) ((of_text name ++ (of_text version ++ (own ∷ []))) ∷ tags ∷ [])

  abbrev tags_judged : Bool
  tags_judged = good size 1 (tags_shape true 1) ((own ∷ []) ∷ tags ∷ [])

  own_good : (x y : Text) → good_row size (request_shape false) (of_text x ++ (of_text y ++ (own ∷ []))) ≡ (good_cells size (text_field true) (of_text x) && (good_cells size (text_field true) (of_text y) && good_count true own))
  unfolding good_row good_cells good_span width
  own_good None None = and-true _
  own_good None (Some b) = ap (λ (z : Bool). inside size b.start b.len && z) (and-true _)
  own_good (Some a) None = ap (λ (z : Bool). inside size a.start a.len && z) (and-true _)
  own_good (Some a) (Some b) = ap (λ (z : Bool). inside size a.start a.len && (inside size b.start b.len && z)) (and-true _)

  own_told : (x y : Text) → asked 1 (request_shape false) (of_text x ++ (of_text y ++ (own ∷ []))) ≡ count own
  unfolding asked width
  own_told None None = add-zero (count own)
  own_told None (Some b) = add-zero (count own)
  own_told (Some a) None = add-zero (count own)
  own_told (Some a) (Some b) = add-zero (count own)

  is_good : judged ≡ (good_cells size (text_field true) (of_text name) && (good_cells size (text_field true) (of_text version) && tags_judged))
  unfolding kind_of kind_in arrays
  is_good =
      let a = good_cells size (text_field true) (of_text name) in
      let b = good_cells size (text_field true) (of_text version) in
      Tags.tagged_good size (request_shape false) (a && b) own (of_text name ++ (of_text version ++ (own ∷ []))) tags refl (own_good name version ∙ sym (Tags.and_assoc a b (good_count true own))) (own_told name version)
      ∙ Tags.and_assoc a b tags_judged

  -- as code judges it: the texts in turn, and the tags
  pub good_so : {b : Bool} → b ≡ ((good_cells size (text_field true) (of_text name) && good_cells size (text_field true) (of_text version)) && tags_judged) → b ≡ judged
  good_so e = e ∙ Tags.and_assoc (good_cells size (text_field true) (of_text name)) (good_cells size (text_field true) (of_text version)) tags_judged ∙ sym is_good

  good_rows : judged ≡ true → count own ≡ length tags / 3
  good_rows g = Tags.good_rows size own tags (both (good_cells size (text_field true) (of_text version)) _ (both (good_cells size (text_field true) (of_text name)) _ (sym is_good ∙ g)).1).1

-- ---- 7

module _ (lent : List ℕ) (name version : Text) (own : ℕ) (tags : List ℕ) where
  abbrev rows : Tables
  rows = (of_text name ++ (of_text version ++ (own ∷ []))) ∷ tags ∷ []

  abbrev behind : Tables
  behind = (own ∷ []) ∷ tags ∷ []

  -- the texts, and the tables behind them
  pub texts_value : value_of lent (texts_shape end) 0 rows ≡ ((text_of lent name, (text_of lent version, tt)), behind)
  unfolding value_of pop width
  texts_value = go name version
    where
      go : (x y : Text) → value_of lent (texts_shape end) 0 ((of_text x ++ (of_text y ++ (own ∷ []))) ∷ tags ∷ []) ≡ ((text_of lent x, (text_of lent y, tt)), behind)
      go None None = refl
      go None (Some b) = refl
      go (Some a) None = refl
      go (Some a) (Some b) = refl

  abbrev refusal : Bool → ℕ
  refusal f = refusal_of lent 1 (request_shape false) (request_shape f) rows

  module _ (l : length lent < 2 ^ 64 - 1) (cells : Cells tags) (few : length tags < 2 ^ 64) where
    text_fault : (t : Text) → basic_fault (text_field true) (text_of lent t) ≡ unless (utf8 (text_of lent t)) 7
    unfolding basic_fault sized_fault too_long unless or
    text_fault t = refl

    is_fault : count own ≡ length tags / 3 → (f : Bool) → fault_at lent (request_shape f) 0 rows ≡ unless (cond f (utf8 (text_of lent name) && utf8 (text_of lent version)) true) 7
    unfolding fault_at fault unless
    is_fault n true =
        joined_fault lent (tags_shape true 1) 0 (texts_shape end) rows
        ∙ (λ t. or (fault (texts_shape end) (texts_value t).0) (fault_at lent (tags_shape true 1) 0 (texts_value t).1))
        ∙ ap (or (fault (texts_shape end) (text_of lent name, (text_of lent version, tt)))) (Tags.tags_clean lent 0 1 behind (λ u. omega arith) (lit< tt) (omega (arith, n)) cells (omega arith))
        ∙ or_none _
        ∙ (λ t. or (text_fault name t) (or_none (text_fault version t) t))
        ∙ or_unless (utf8 (text_of lent name)) (utf8 (text_of lent version)) 6
    is_fault n false = refl

    module _ (f a : Bool) (e : a ≡ judged (length lent) name version own tags) where
      pub fault_bad : a ≡ false → 13 ≡ refusal f
      fault_bad = refusal_bad lent 1 (request_shape false) (request_shape f) rows e

      module _ (h : a ≡ true) {x y : List ℕ} (u : x ≡ text_of lent name) (v : y ≡ text_of lent version) (b : Bool) (i : b ≡ cond f (utf8 x && utf8 y) true) where
        pub is_told : unless b 7 ≡ refusal f
        is_told =
            refusal_good lent 1 (request_shape false) (request_shape f) rows e h (unless b 7)
            (ap (λ (z : Bool). unless z 7) (i ∙ (λ t. cond f (utf8 (u t) && utf8 (v t)) true)) ∙ sym (is_fault (good_rows (length lent) name version own tags (sym e ∙ h)) f))

  -- ---- the bytes

  abbrev bytes_of : Bool → List ℕ → List ℕ → List ℕ
  bytes_of f x y = cond f (write (texts_shape end) (x, (y, tt)) ++ counted_bytes lent tag_shape plain 3 tags) []

  is_bytes : count own ≡ length tags / 3 → (f : Bool) → bytes_at lent (request_shape f) 0 rows ≡ bytes_of f (text_of lent name) (text_of lent version)
  unfolding bytes_at write
  is_bytes n true =
      joined_bytes lent (tags_shape true 1) 0 (texts_shape end) rows
      ∙ (λ t. write (texts_shape end) (texts_value t).0 ++ bytes_at lent (tags_shape true 1) 0 (texts_value t).1)
      ∙ ap (λ (z : List ℕ). write (texts_shape end) (text_of lent name, (text_of lent version, tt)) ++ z) (Tags.tags_bytes lent 0 1 behind (λ u. omega arith) (lit< tt) n)
  is_bytes n false = refl

  -- no number is given: the count tells the tags
  pub texts_same : (f : Bool) (out : List ℕ) {e : ℕ} → e ≡ refusal f → e ≡ 0 → {x y : List ℕ} → x ≡ text_of lent name → y ≡ text_of lent version → (o : Answer × List ℕ) → o ≡ write_alone 0 (bytes_of f x y) out → o ≡ write_alone 0 (bytes_at lent (request_shape f) 0 rows) out
  texts_same f out i h u v o w =
      w
      ∙ (λ t. write_alone 0 (bytes_of f (u t) (v t)) out)
      ∙ ap (λ (bs : List ℕ). write_alone 0 bs out) (sym (is_bytes (good_rows (length lent) name version own tags (refusal_none lent 1 (request_shape false) (request_shape f) rows i h)) f))

  -- the call's promise from that of a known version
  pub request_written : (out : List ℕ) (v : ℕ) → v ≤ 3 → (z : ℤ) → v ≡ version_of z → (r : Answer × List ℕ) → r ≡ write_alone (refusal (leb 3 v)) (bytes_at lent (request_shape (leb 3 v)) 0 rows) out → r ≡ write_answer request z lent rows out
  request_written out v h z e r w = called request z v e h (omega arith) lent rows out r _ _ w (rw (is_shape v h, is_shape 0 (lit≤ tt))) (λ g. rw (is_shape v h))

-- ---- the walk

module _ {d d₁ e : List ℕ} {n m : ℕ} (at : ℕ) (h : at ≡ min n (length d₁)) (r : ℕ) (k : cap r ≡ cap (n + m)) where
  pub texts_put : (name version : List ℕ) → Put (behind_length (size_of Form.Compact) name) d n d₁ → Put (behind_length (size_of Form.Compact) version) (mid_of at (length d₁ - at) d₁) m e → Capped (write (texts_shape end) (name, (version, tt))) d r (put_mid at (length d₁ - at) d₁ e)
  unfolding write write_basic sized_bytes behind_length
  texts_put name version p q = capped_as (ap (λ (z : List ℕ). behind_length (size_of Form.Compact) name ++ z) (sym (append-nil _))) (capped_behind (capped (put_step p)) at h (capped (put_step q)) r k)

  pub request_put : (f : Bool) → f ≡ true → {x y : List ℕ} → Capped x d n d₁ → Capped y (mid_of at (length d₁ - at) d₁) m e → Capped (cond f (x ++ y) []) d r (put_mid at (length d₁ - at) d₁ e)
  request_put f i p q = capped_there f i (capped_behind p at h q r k)
