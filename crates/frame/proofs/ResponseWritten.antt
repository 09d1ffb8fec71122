-- A response header that is written: what is refused of it, and its bytes.
use mathlib.Core.Bool.{Bool, and-true, cond, false, true}
use mathlib.Core.List.{List, [], ◌++◌, ◌∷◌}
use mathlib.Core.Path.{◌∙◌, ◌≡◌, ap, refl, sym}
use Prim.Native.Nat.{◌+◌, ◌-◌, ◌/◌, ◌<◌, ◌^◌, ◌≤◌, min, ℕ}
use native.Mathlib.Nat.{add-zero}
use lib.Dec.{leb}
use lib.ListN.{length}
use borrow.Rule.Slice.PartMut.{mid_of, put_mid}
use Rattle.layout.specs.Answers.{shape}
use Rattle.layout.specs.Messages.Headers.{response, response_rows}
use Rattle.layout.specs.Primitives.{bytes, holds, plain, w32}
use Rattle.layout.specs.Rows.{Shape, at, field, number, standing, stands, tag_rows}
use Rattle.layout.specs.Tables.{arrays, asked, basic_of, count, good, good_cells, good_row, kind_in, kind_of, pop, value_of, width}
use Rattle.layout.specs.Write.{basic_fault, fault, or, unless, write, write_basic}
use Rattle.primitives.proofs.Versions.{up_to}
use Rattle.primitives_put.specs.Put.{Put}
use Rattle.primitives_put.specs.Step.{Capped, cap}
use Rattle.primitives_put.proofs.Capped.{capped}
use Rattle.primitives_put.proofs.Stored.{put_step}
use Rattle.body_reading.specs.Tagged.{tag_shape, tags_shape}
use Rattle.body_writing.specs.Writes.{bytes_at, counted_bytes, fault_at, refusal_of}
use Rattle.body_writing.proofs.Counts.{Cells}
use Rattle.body_writing.proofs.Faults.{or_none}
use Rattle.body_writing.proofs.Writes.{refusal_bad, refusal_good, refusal_none}
use Rattle.tagged_fields.proofs.Tags as Tags
use Rattle.frame.specs.Answers.{of_response}
use Rattle.frame.specs.declared.ResponseHeader.{ResponseHeader}
use Rattle.frame.proofs.Written.{header_put, tags_bytes, tags_clean}

abbrev pub response_shape : Bool → Shape
response_shape t = field (number w32) (tags_shape t 1)

pub is_shape : (v : ℕ) → v ≤ 1 → shape response.rows v ≡ response_shape (leb 1 v)
unfolding shape at stands standing tag_rows response_rows
is_shape = up_to 1 (λ v. shape response.rows v ≡ response_shape (leb 1 v)) (refl, refl)

module _ (lent : List ℕ) (h : ResponseHeader) (tags : List ℕ) where
  -- ---- 13

  is_good : good (length lent) 1 (tags_shape true 1) ((h.tags ∷ []) ∷ tags ∷ []) ≡ good (length lent) 1 (shape response.rows 0) (of_response h ∷ tags ∷ [])
  unfolding shape at stands standing tag_rows response_rows kind_of kind_in arrays good_row good_cells asked width
  is_good = sym (Tags.tagged_good (length lent) (response_shape false) true h.tags (of_response h) tags refl (and-true _) (add-zero (count h.tags)))

  module _ (v : ℕ) where
    abbrev refusal : ℕ
    refusal = refusal_of lent 1 (shape response.rows 0) (shape response.rows v) (of_response h ∷ tags ∷ [])

    pub response_rows_lem : 0 ≡ refusal → count h.tags ≡ length tags / 3
    response_rows_lem e = Tags.good_rows (length lent) h.tags tags (is_good ∙ refusal_none lent 1 (shape response.rows 0) (shape response.rows v) (of_response h ∷ tags ∷ []) e refl)

    module _ (g : Bool) (e : g ≡ good (length lent) 1 (tags_shape true 1) ((h.tags ∷ []) ∷ tags ∷ [])) where
      pub response_bad : g ≡ false → 13 ≡ refusal
      response_bad = refusal_bad lent 1 (shape response.rows 0) (shape response.rows v) (of_response h ∷ tags ∷ []) (e ∙ is_good)

      -- ---- 11

      pub response_told : g ≡ true → v ≤ 1 → length lent < 2 ^ 64 → Cells tags → length tags < 2 ^ 64 → (b : Bool) → b ≡ holds w32 h.correlation_id → unless b 11 ≡ refusal
      unfolding fault_at fault basic_fault value_of pop basic_of width
      response_told k l n f m b i =
          refusal_good lent 1 (shape response.rows 0) (shape response.rows v) (of_response h ∷ tags ∷ []) (e ∙ is_good) k (unless b 11)
          (ap (λ (x : Bool). unless x 11) i
          ∙ sym (rw (is_shape v l) (ap (or (unless (holds w32 h.correlation_id) 11)) (tags_clean lent h.tags tags (Tags.good_rows (length lent) h.tags tags (sym e ∙ k)) n f m (leb 1 v)) ∙ or_none _)))

  -- ---- the bytes

  module _ (v : ℕ) (l : v ≤ 1) (c : count h.tags ≡ length tags / 3) where
    is_bytes : bytes_at lent (shape response.rows v) 0 (of_response h ∷ tags ∷ []) ≡ bytes 4 h.correlation_id ++ cond (leb 1 v) (counted_bytes lent tag_shape plain 3 tags) []
    unfolding bytes_at write write_basic value_of pop basic_of width
    is_bytes = rw (is_shape v l) (ap (λ (x : List ℕ). bytes 4 h.correlation_id ++ x) (tags_bytes lent h.tags tags c (leb 1 v)))

    pub response_put : (rest : List ℕ) {d d₁ e : List ℕ} {n m : ℕ} → Put (bytes 4 h.correlation_id) d n d₁ → (at : ℕ) → at ≡ min n (length d₁) → Capped (cond (leb 1 v) (counted_bytes lent tag_shape plain 3 tags) [] ++ rest) (mid_of at (length d₁ - at) d₁) m e → (r : ℕ) → cap r ≡ cap (n + m) →
        Capped (bytes_at lent (shape response.rows v) 0 (of_response h ∷ tags ∷ []) ++ rest) d r (put_mid at (length d₁ - at) d₁ e)
    response_put rest p = header_put (bytes 4 h.correlation_id) (cond (leb 1 v) (counted_bytes lent tag_shape plain 3 tags) []) rest is_bytes (capped (put_step p))
