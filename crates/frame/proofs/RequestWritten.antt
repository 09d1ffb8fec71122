-- A request header that is written, part by part, each from the law of its layout: what is refused of it, and its bytes.
use mathlib.Core.Bool.{Bool, ◌&&◌, and-true, cond, false, true}
use mathlib.Core.List.{List, [], ◌++◌, ◌∷◌, append_assoc, append-nil}
use mathlib.Core.Logic.{◌⊎◌, inl, inr}
use mathlib.Core.Path.{◌∙◌, ◌≡◌, ap, ap₂, refl, sym}
use Prim.Native.Nat.{◌+◌, ◌-◌, ◌/◌, ◌<◌, ◌^◌, ◌≤◌, min, ℕ}
use native.Mathlib.Nat.{add-zero}
use native.Mathlib.Omega.{arith}
use lib.Dec.{leb}
use lib.ListN.{length}
use borrow.Rule.Slice.PartMut.{mid_of, put_mid}
use Rattle.layout.specs.Answers.{shape}
use Rattle.layout.specs.Messages.Headers.{request, request_rows}
use Rattle.layout.specs.Primitives.{bytes, fixed, holds, kept, length_bytes, null_bytes, plain, sized_bytes, w16, w32}
use Rattle.layout.specs.Rows.{Shape, absent, at, standing, stands, tag_rows}
use Rattle.layout.specs.Tables.{Tables, arrays, asked, basic_of, count, good, good_cells, good_count, good_row, good_span, inside, kind_in, kind_of, pop, slice, span_of, value_of, width}
use Rattle.layout.specs.Write.{basic_fault, fault, or, sized_fault, too_long, unless, write, write_basic}
use Rattle.layout.proofs.Proper.{both}
use Rattle.primitives.proofs.Versions.{between}
use Rattle.primitives.specs.declared.Field.{Field}
use Rattle.primitives.specs.declared.Span as Part
use Rattle.primitives_put.specs.declared.Form.{Form}
use Rattle.primitives_put.specs.Put.{Put, behind_length, size_of}
use Rattle.primitives_put.specs.Step.{Capped, cap}
use Rattle.primitives_put.proofs.Capped.{capped, capped_as}
use Rattle.primitives_put.proofs.Stored.{put_step}
use Rattle.body_reading.specs.Cells.{field_cells}
use Rattle.body_reading.specs.Tagged.{tag_shape, tags_shape}
use Rattle.body_reading.proofs.Front.{onto}
use Rattle.body_writing.specs.Asked.{string_fault}
use Rattle.body_writing.specs.Writes.{bytes_at, counted_bytes, fault_at, refusal_of, row_bytes, row_fault}
use Rattle.body_writing.proofs.Counts.{Cells}
use Rattle.body_writing.proofs.Even.{null_put, numbers_bytes, numbers_wide, three_put}
use Rattle.body_writing.proofs.Faults.{or_none, or_three}
use Rattle.body_writing.proofs.Judged.{and_first, and_second}
use Rattle.body_writing.proofs.Writes.{joined_bytes, joined_fault, refusal_bad, refusal_good, refusal_none}
use Rattle.tagged_fields.proofs.Tags as Tags
use Rattle.frame.specs.Answers.{of_request}
use Rattle.frame.specs.Shapes.{client_field, client_shape, numbers_shape}
use Rattle.frame.specs.declared.RequestHeader.{RequestHeader}
use Rattle.frame.proofs.Written.{header_put, tags_bytes, tags_clean}

-- ---- a client name: absent, null, or there

module _ (f : Field) where
  pub good_none : (f ≡ Field.Absent) ⊎ (f ≡ Field.Null) → (size : ℕ) → true ≡ good_cells size client_field (field_cells f)
  unfolding good_cells good_span
  good_none (inl h) size = sym (ap (λ (x : Field). good_cells size client_field (field_cells x)) h)
  good_none (inr h) size = sym (ap (λ (x : Field). good_cells size client_field (field_cells x)) h)

  pub good_there : {y : Part.Span} → f ≡ Field.Present y → (size : ℕ) (b : Bool) → b ≡ inside size y.start y.len → b ≡ good_cells size client_field (field_cells f)
  unfolding good_cells good_span
  good_there h size b e = e ∙ sym (ap (λ (x : Field). good_cells size client_field (field_cells x)) h)

  module _ (lent : List ℕ) where
    pub fault_none : (f ≡ Field.Absent) ⊎ (f ≡ Field.Null) → 0 ≡ row_fault lent client_shape (field_cells f)
    unfolding row_fault fault_at fault basic_fault sized_fault value_of pop width basic_of span_of or
    fault_none (inl h) = sym (ap (λ (x : Field). row_fault lent client_shape (field_cells x)) h)
    fault_none (inr h) = sym (ap (λ (x : Field). row_fault lent client_shape (field_cells x)) h)

    pub fault_there : {y : Part.Span} → f ≡ Field.Present y → (x : List ℕ) → x ≡ slice lent (y.start, y.len) → (e : ℕ) → e ≡ string_fault x → e ≡ row_fault lent client_shape (field_cells f)
    unfolding row_fault fault_at fault basic_fault sized_fault too_long value_of pop width basic_of span_of string_fault
    fault_there h x i e d = d ∙ ap string_fault i ∙ sym (ap (λ (y : Field). row_fault lent client_shape (field_cells y)) h ∙ or_none _)

    module _ {d d' : List ℕ} {n : ℕ} where
      null_bytes_lem : (g : Field) → row_bytes lent client_shape (field_cells g) ≡ null_bytes (fixed w16 kept) → f ≡ g → Put (null_bytes (size_of Form.Int16)) d n d' → Capped (row_bytes lent client_shape (field_cells f)) d n d'
      null_bytes_lem g e h p = capped_as (sym (ap (λ (x : Field). row_bytes lent client_shape (field_cells x)) h ∙ e)) (null_put Form.Int16 kept p)

      pub put_absent : f ≡ Field.Absent → Put (null_bytes (size_of Form.Int16)) d n d' → Capped (row_bytes lent client_shape (field_cells f)) d n d'
      unfolding row_bytes bytes_at write write_basic sized_bytes value_of pop width basic_of span_of
      put_absent = null_bytes_lem Field.Absent (append-nil _)

      pub put_null : f ≡ Field.Null → Put (null_bytes (size_of Form.Int16)) d n d' → Capped (row_bytes lent client_shape (field_cells f)) d n d'
      unfolding row_bytes bytes_at write write_basic sized_bytes value_of pop width basic_of span_of
      put_null = null_bytes_lem Field.Null (append-nil _)

      pub put_there : {y : Part.Span} → f ≡ Field.Present y → (x : List ℕ) → x ≡ slice lent (y.start, y.len) → Put (behind_length (size_of Form.Int16) x) d n d' → Capped (row_bytes lent client_shape (field_cells f)) d n d'
      unfolding row_bytes bytes_at write write_basic sized_bytes value_of pop width basic_of span_of behind_length length_bytes
      put_there h x i p = capped_as (ap (behind_length (size_of Form.Int16)) i ∙ sym (ap (λ (y : Field). row_bytes lent client_shape (field_cells y)) h ∙ append-nil _)) (capped (put_step p))

-- ---- the numbers

pub numbers_long : (r : List ℕ) → length (row_bytes [] numbers_shape r) ≡ 8
numbers_long = numbers_wide [] w16 w16 w32

pub numbers_put : (k v c : ℕ) {d d₁ e : List ℕ} {n m : ℕ} → 8 ≤ length d → Put (bytes 2 k) d n d₁ → Put (bytes 2 v) (mid_of 2 (length d₁ - 2) d₁) m e →
    (d₂ : List ℕ) → d₂ ≡ put_mid 2 (length d₁ - 2) d₁ e → {f : List ℕ} {l : ℕ} → Put (bytes 4 c) (mid_of 4 (length d₂ - 4) d₂) l f →
    Capped (row_bytes [] numbers_shape (k ∷ v ∷ c ∷ [])) d 8 (put_mid 4 (length d₂ - 4) d₂ f)
numbers_put k v c h p q d₂ u s = capped_as (sym (numbers_bytes [] w16 w16 w32 (k ∷ v ∷ c ∷ []))) (three_put 2 2 4 k v c (omega arith) p q d₂ u s)

-- ---- the header

abbrev pub request_shape : Bool → Shape
request_shape t = onto numbers_shape (onto client_shape (tags_shape t 1))

pub is_shape : (v : ℕ) → 1 ≤ v → v ≤ 2 → shape request.rows v ≡ request_shape (leb 2 v)
unfolding shape at stands standing tag_rows request_rows
is_shape = between 1 1 (λ v. shape request.rows v ≡ request_shape (leb 2 v)) (refl, refl)

module _ (h : RequestHeader) (tags : List ℕ) where
  abbrev st : Tables
  st = of_request h ∷ tags ∷ []

  abbrev cells : Field → List ℕ
  cells f = field_cells f ++ (h.tags ∷ [])

  -- ---- 13

  module _ (size : ℕ) where
    own_good : (f : Field) → good_row size (onto numbers_shape (absent client_field (tags_shape false 1))) (h.request_api_key ∷ h.request_api_version ∷ h.correlation_id ∷ cells f) ≡ (good_cells size client_field (field_cells f) && good_count true h.tags)
    unfolding good_row good_cells good_span width
    own_good Field.Absent = and-true _
    own_good Field.Null = and-true _
    own_good (Field.Present x) = ap (λ (z : Bool). inside size x.start x.len && z) (and-true _)

    own_told : (f : Field) → asked 1 (onto numbers_shape (absent client_field (tags_shape false 1))) (h.request_api_key ∷ h.request_api_version ∷ h.correlation_id ∷ cells f) ≡ count h.tags
    unfolding asked width
    own_told Field.Absent = add-zero (count h.tags)
    own_told Field.Null = add-zero (count h.tags)
    own_told (Field.Present x) = add-zero (count h.tags)

    is_good : good size 1 (shape request.rows 0) st ≡ (good_cells size client_field (field_cells h.client_id) && good size 1 (tags_shape true 1) ((h.tags ∷ []) ∷ tags ∷ []))
    unfolding shape at stands standing tag_rows request_rows kind_of kind_in arrays
    is_good = Tags.tagged_good size (onto numbers_shape (absent client_field (tags_shape false 1))) (good_cells size client_field (field_cells h.client_id)) h.tags (of_request h) tags refl (own_good h.client_id) (own_told h.client_id)

    module _ (a : Bool) (e : a ≡ good_cells size client_field (field_cells h.client_id)) where
      pub request_out : a ≡ false → false ≡ good size 1 (shape request.rows 0) st
      request_out i = and_first a _ _ e i ∙ sym is_good

      pub request_last : a ≡ true → (r : Bool) → r ≡ good size 1 (tags_shape true 1) ((h.tags ∷ []) ∷ tags ∷ []) → r ≡ good size 1 (shape request.rows 0) st
      request_last i r j = and_second a _ _ e i r j ∙ sym is_good

    good_rows : good size 1 (shape request.rows 0) st ≡ true → count h.tags ≡ length tags / 3
    good_rows g = Tags.good_rows size h.tags tags (both (good_cells size client_field (field_cells h.client_id)) _ (sym is_good ∙ g)).1

  module _ (lent : List ℕ) where
    -- what comes after the client name
    client_left : (f : Field) → (value_of lent client_shape 0 (cells f ∷ tags ∷ [])).1 ≡ (h.tags ∷ []) ∷ tags ∷ []
    unfolding value_of pop width
    client_left Field.Absent = refl
    client_left Field.Null = refl
    client_left (Field.Present x) = refl

    -- ---- 11 and 7

    client_fault : (f : Field) → fault_at lent client_shape 0 (cells f ∷ tags ∷ []) ≡ row_fault lent client_shape (field_cells f)
    unfolding row_fault fault_at value_of pop width
    client_fault Field.Absent = refl
    client_fault Field.Null = refl
    client_fault (Field.Present x) = refl

    abbrev fits : Bool
    fits = holds w16 h.request_api_key && (holds w16 h.request_api_version && holds w32 h.correlation_id)

    module _ (v : ℕ) where
      abbrev refusal : ℕ
      refusal = refusal_of lent 1 (shape request.rows 0) (shape request.rows v) st

      pub request_rows_lem : 0 ≡ refusal → count h.tags ≡ length tags / 3
      request_rows_lem e = good_rows (length lent) (refusal_none lent 1 (shape request.rows 0) (shape request.rows v) st e refl)

      module _ (g : Bool) (e : g ≡ good (length lent) 1 (shape request.rows 0) st) where
        pub request_bad : g ≡ false → 13 ≡ refusal
        request_bad = refusal_bad lent 1 (shape request.rows 0) (shape request.rows v) st e

        module _ (k : g ≡ true) (low : 1 ≤ v) (high : v ≤ 2) (l : length lent < 2 ^ 64) (f : Cells tags) (m : length tags < 2 ^ 64) where
          is_fault : fault_at lent (shape request.rows v) 0 st ≡ or (unless fits 11) (row_fault lent client_shape (field_cells h.client_id))
          unfolding fault_at fault basic_fault value_of pop width basic_of
          is_fault =
              rw (is_shape v low high)
              (joined_fault lent (onto client_shape (tags_shape (leb 2 v) 1)) 0 numbers_shape st
              ∙ ap₂ or (or_three (holds w16 h.request_api_key) (holds w16 h.request_api_version) (holds w32 h.correlation_id) 10)
              (joined_fault lent (tags_shape (leb 2 v) 1) 0 client_shape (cells h.client_id ∷ tags ∷ [])
              ∙ ap₂ or (client_fault h.client_id)
              (ap (fault_at lent (tags_shape (leb 2 v) 1) 0) (client_left h.client_id)
              ∙ tags_clean lent h.tags tags (good_rows (length lent) (sym e ∙ k)) l f m (leb 2 v))
              ∙ or_none _))

          told : (r : ℕ) → r ≡ or (unless fits 11) (row_fault lent client_shape (field_cells h.client_id)) → r ≡ refusal
          told r i = refusal_good lent 1 (shape request.rows 0) (shape request.rows v) st e k r (i ∙ sym is_fault)

          module _ (x : Bool) (i : x ≡ fits) where
            pub request_wide : x ≡ false → 11 ≡ refusal
            unfolding unless or
            request_wide j = told 11 (sym (rw (← i, j)))

            pub request_told : x ≡ true → (r : ℕ) → r ≡ row_fault lent client_shape (field_cells h.client_id) → r ≡ refusal
            unfolding unless or
            request_told j r d = told r (d ∙ sym (rw (← i, j)))

    -- ---- the bytes

    client_bytes : (f : Field) → bytes_at lent client_shape 0 (cells f ∷ tags ∷ []) ≡ row_bytes lent client_shape (field_cells f)
    unfolding row_bytes bytes_at value_of pop width
    client_bytes Field.Absent = refl
    client_bytes Field.Null = refl
    client_bytes (Field.Present x) = refl

    -- the fields that both request headers have
    abbrev fields : List ℕ
    fields = row_bytes [] numbers_shape (h.request_api_key ∷ h.request_api_version ∷ h.correlation_id ∷ []) ++ row_bytes lent client_shape (field_cells h.client_id)

    module _ (v : ℕ) (low : 1 ≤ v) (high : v ≤ 2) (c : count h.tags ≡ length tags / 3) where
      is_bytes : bytes_at lent (shape request.rows v) 0 st ≡ fields ++ cond (leb 2 v) (counted_bytes lent tag_shape plain 3 tags) []
      unfolding row_bytes bytes_at write write_basic value_of pop width basic_of
      is_bytes =
          rw (is_shape v low high)
          (joined_bytes lent (onto client_shape (tags_shape (leb 2 v) 1)) 0 numbers_shape st
          ∙ ap (λ (x : List ℕ). row_bytes [] numbers_shape (h.request_api_key ∷ h.request_api_version ∷ h.correlation_id ∷ []) ++ x)
          (joined_bytes lent (tags_shape (leb 2 v) 1) 0 client_shape (cells h.client_id ∷ tags ∷ [])
          ∙ ap₂ (λ (x y : List ℕ). x ++ y) (client_bytes h.client_id)
          (ap (bytes_at lent (tags_shape (leb 2 v) 1) 0) (client_left h.client_id) ∙ tags_bytes lent h.tags tags c (leb 2 v)))
          ∙ sym (append_assoc (row_bytes [] numbers_shape (h.request_api_key ∷ h.request_api_version ∷ h.correlation_id ∷ [])) (row_bytes lent client_shape (field_cells h.client_id)) _))

      pub request_put : (rest : List ℕ) {d d₁ e : List ℕ} {n m : ℕ} → Capped fields d n d₁ → (at : ℕ) → at ≡ min n (length d₁) → Capped (cond (leb 2 v) (counted_bytes lent tag_shape plain 3 tags) [] ++ rest) (mid_of at (length d₁ - at) d₁) m e → (r : ℕ) → cap r ≡ cap (n + m) →
          Capped (bytes_at lent (shape request.rows v) 0 st ++ rest) d r (put_mid at (length d₁ - at) d₁ e)
      request_put rest = header_put fields (cond (leb 2 v) (counted_bytes lent tag_shape plain 3 tags) []) rest is_bytes
