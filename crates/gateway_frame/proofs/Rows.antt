-- Frames over the C interface: the numbers of a reply, at the header number that was passed on; and rows as they are lent.
use mathlib.Core.Bool.{◌&&◌}
use mathlib.Core.List.{List, [], ◌++◌, ◌∷◌}
use mathlib.Core.Path.{◌∙◌, ◌≡◌, ap, ap₂, refl, sym}
use Prim.Native.Nat.{◌≤◌, suc, zero, ℕ}
use native.Mathlib.Omega.{arith}
use lib.Dec.{eqb, leb}
use lib.IntN.{negsuc, pos, ℤ}
use lib.ListN.{get_or}
use mir.Facts.{to_z-of_z}
use mir.Syntax.{w64}
use mir.Val.{SFits, of_z, to_z}
use Rattle.layout.specs.Tables.{Tables}
use Rattle.layout.specs.Answers.{Answer, accepted, refused}
use Rattle.layout.specs.Reading.{Refusal}
use Rattle.layout.specs.Frames.{Header, frame_read, frame_written}
use Rattle.layout.specs.Messages.Headers.{request_number}
use Rattle.layout.proofs.Tests.{by_test}
use Rattle.primitives.specs.declared.Field.{Field}
use Rattle.body_reading.specs.Cells.{field_cells}
use Rattle.gateway.specs.Replies.{numbers, told}
use Rattle.gateway.specs.declared.Numbers.{Numbers}
use Rattle.gateway.proofs.Told.{told_by}
use Rattle.gateway_frame.specs.Replies.{client_row, request_frame_numbers, response_frame_numbers}
use Rattle.gateway_frame.specs.declared.RequestFrameNumbers.{RequestFrameNumbers}
use Rattle.gateway_frame.specs.declared.ResponseFrameNumbers.{ResponseFrameNumbers}

-- ---- a header number that passed an argument

module _ {N : Type 0} (f : Answer → N) (r : N) (a : Answer) (e : r ≡ f a) (h : Header) (z : ℤ) (g : SFits w64 z) where
  pub frame_told : (x olds : Tables) (s : List ℕ) → (a, x) ≡ frame_read h (to_z w64 (of_z w64 z)) olds s → (r, x) ≡ told f (frame_read h z olds s)
  frame_told x olds s d = told_by f r a e x _ (d ∙ ap (λ (y : ℤ). frame_read h y olds s) (to_z-of_z g))

  -- and the row as it was lent
  pub frame_written_told : (lent own row : List ℕ) (st : Tables) (body out x : List ℕ) → own ≡ row → (a, x) ≡ frame_written h (to_z w64 (of_z w64 z)) lent (own ∷ st) body out → (r, x) ≡ told f (frame_written h z lent (row ∷ st) body out)
  frame_written_told lent own row st body out x i d = told_by f r a e x _ (d ∙ ap₂ (λ (y : ℤ) (cs : List ℕ). frame_written h y lent (cs ∷ st) body out) (to_z-of_z g) i)

-- ---- a client name as it is lent: 0 is unset, 1 null, any other present

module _ (k a n : ℕ) where
  pub unset_client : k ≡ 0 → 0 ∷ 0 ∷ 0 ∷ [] ≡ client_row k a n
  unfolding client_row
  unset_client e = ap (λ (j : ℕ). client_row j a n) (sym e)

  pub null_client : k ≡ 1 → 1 ∷ 0 ∷ 0 ∷ [] ≡ client_row k a n
  unfolding client_row
  null_client e = ap (λ (j : ℕ). client_row j a n) (sym e)

pub present_client : (k a n : ℕ) → (k ≡ 0 → ⊥) → (k ≡ 1 → ⊥) → 2 ∷ a ∷ n ∷ [] ≡ client_row k a n
unfolding client_row
present_client zero a n h i = absurd (h refl)
present_client (suc zero) a n h i = absurd (i refl)
present_client (suc (suc k)) a n h i = refl

-- ---- a header that was read: the numbers that every answer begins with, and its cells; of a refusal none

module _ (y v c g b m : ℕ) where
  abbrev request : Numbers → ℕ → ℕ → ℕ → RequestFrameNumbers
  request r k s l = record { answer = r; request_api_key = y; request_api_version = v; correlation_id = c; client_id_kind = k; client_id_start = s; client_id_length = l; tags = g; body_start = b; body_length = m }

  module _ (u : ℕ) where
    by_client : (f : Field) → request (numbers (accepted [] u)) (get_or (field_cells f) 0 0) (get_or (field_cells f) 1 0) (get_or (field_cells f) 2 0) ≡ request_frame_numbers (accepted ((y ∷ v ∷ c ∷ (field_cells f ++ (g ∷ []))) ++ (b ∷ m ∷ [])) u)
    by_client Field.Absent = refl
    by_client Field.Null = refl
    by_client (Field.Present x) = refl

    pub client_told : (f : Field) (r : Numbers) (k s l : ℕ) → r ≡ numbers (accepted [] u) → k ≡ get_or (field_cells f) 0 0 → s ≡ get_or (field_cells f) 1 0 → l ≡ get_or (field_cells f) 2 0 →
        request r k s l ≡ request_frame_numbers (accepted ((y ∷ v ∷ c ∷ (field_cells f ++ (g ∷ []))) ++ (b ∷ m ∷ [])) u)
    client_told f r k s l h d e i = (λ x. request (h x) (d x) (e x) (i x)) ∙ by_client f

abbrev response : ℕ → ℕ → ℕ → ℕ → Numbers → ResponseFrameNumbers
response c g b m r = record { answer = r; correlation_id = c; tags = g; body_start = b; body_length = m }

module _ (r : Numbers) where
  pub response_told : (c g b m u : ℕ) → r ≡ numbers (accepted [] u) → response c g b m r ≡ response_frame_numbers (accepted (c ∷ g ∷ b ∷ m ∷ []) u)
  response_told c g b m u h = ap (response c g b m) h

  module _ (e : Refusal) (h : r ≡ numbers (refused e)) where
    pub no_request : request 0 0 0 0 0 0 r 0 0 0 ≡ request_frame_numbers (refused e)
    no_request = ap (λ (x : Numbers). request 0 0 0 0 0 0 x 0 0 0) h

    pub no_response : response 0 0 0 0 r ≡ response_frame_numbers (refused e)
    no_response = ap (response 0 0 0 0) h

-- ---- the number of a header, handed back

few : (k v : ℤ) → request_number k v ≤ 2
few (pos k) (pos v) = by_test (eqb k 18 && leb 3 v) (λ e. rw e (omega arith)) (λ e. rw e (omega arith))
few (pos k) (negsuc v) = omega arith
few (negsuc k) v = omega arith

pub number_back_lem : (r k v : ℤ) → r ≡ pos (request_number k v) → to_z w64 (of_z w64 r) ≡ pos (request_number k v)
number_back_lem r k v e = let h = few k v in ap (λ (y : ℤ). to_z w64 (of_z w64 y)) e ∙ to_z-of_z {w = w64} {z = pos (request_number k v)} (record { sfits = omega arith })
