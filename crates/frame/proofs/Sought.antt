-- The fields of a header, as the walk to a field takes them; and the name that a frame's refusal has, by what its size comes to.
use mathlib.Core.List.{List}
use mathlib.Core.Path.{◌∙◌, ◌≡◌, ap, sym}
use Prim.Native.Nat.{◌≤◌, ℕ}
use native.Mathlib.Omega.{arith}
use lib.Dec.{leb}
use lib.IntN.{ℤ, pos}
use lib.ListN.{drop, take}
use Rattle.layout.specs.Reading.{Refusal, Res, bad, naming, nowhere, ok}
use Rattle.layout.specs.Primitives.{fixed, kept, w16, w32}
use Rattle.layout.specs.Rows.{Shape, field, number, text}
use Rattle.layout.specs.Names.{name_at, seek}
use Rattle.layout.specs.Answers.{none_yet, shape}
use Rattle.layout.specs.Frames.{Header, frame_bytes, frame_named, frame_size}
use Rattle.layout.specs.Messages.Headers as Headers
use Rattle.layout.proofs.Named.{frame_named_size, size_place}
use Rattle.body_reading.specs.Tagged.{tags_if}
use Rattle.body_reading.specs.Walk.{on}
use Rattle.frame.specs.Walks.{front_shape}
use Rattle.frame.proofs.Rows.{request_is, response_is}

module _ (q n : ℕ) (c s : List ℕ) (z : Res (List ℕ)) where
  pub of_request_lem : 1 ≤ n → n ≤ 2 → z ≡ on (seek q (field (number w16) (field (number w16) (field (number w32) (field (text (fixed w16 kept)) (tags_if (leb 2 n) 1))))) nowhere 0 c) s 4 → z ≡ on (seek q (shape (Headers.request).rows n) nowhere 0 c) s 4
  unfolding front_shape
  of_request_lem a b g = g ∙ ap (λ (l : Shape). on (seek q l nowhere 0 c) s 4) (request_is n a b)

  pub of_response_lem : n ≤ 1 → z ≡ on (seek q (field (number w32) (tags_if (leb 1 n) 1)) nowhere 0 c) s 4 → z ≡ on (seek q (shape (Headers.response).rows n) nowhere 0 c) s 4
  of_response_lem b g = g ∙ ap (λ (l : Shape). on (seek q l nowhere 0 c) s 4) (response_is n b)

-- ---- the name

module _ (h : Header) (s : List ℕ) (e : Refusal) where
  -- the size is taken: the name is looked for in the frame's own bytes
  pub frame_name : (v n all : ℕ) → ok n all ≡ frame_size s → (r : Refusal) → r ≡ name_at h.rows.number (shape h.rows v) none_yet 4 (drop 4 (take all s)) e → r ≡ frame_named h (pos v) s e
  unfolding frame_named
  frame_name v n all d r g = g ∙ ap (λ (o : Res ℕ). name_at h.rows.number (shape h.rows v) none_yet 4 (drop 4 (frame_bytes s o)) e) d

  -- the size is refused: there is neither row nor field
  pub size_name : (v : ℤ) → bad e ≡ frame_size s → (r : Refusal) → r ≡ naming h.rows.number nowhere nowhere e → r ≡ frame_named h v s e
  size_name v d r g = g ∙ sym (frame_named_size h v s e (let x = size_place s e (sym d) in omega arith))
