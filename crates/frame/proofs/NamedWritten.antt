-- The name of a refused write of a header: the fields before its tags decide it, since tags have no fault.
use mathlib.Core.List.{List, [], ◌++◌, ◌∷◌}
use mathlib.Core.Logic.{◌≢◌}
use mathlib.Core.Path.{◌∙◌, ◌≡◌, ap, refl, sym}
use Prim.Native.Nat.{◌≤◌, ℕ}
use native.Mathlib.Omega.{arith}
use lib.Dec.{leb, lit<}
use lib.IntN.{ℤ}
use Rattle.layout.specs.Answers.{meant, named_fault, none_yet}
use Rattle.layout.specs.Messages.Headers.{request, response}
use Rattle.layout.specs.Names.{name_fault}
use Rattle.layout.specs.Primitives.{w32}
use Rattle.layout.specs.Reading.{Refusal}
use Rattle.layout.specs.Rows.{Shape, end, field, number}
use Rattle.layout.specs.Tables.{basic_of, pop, value_of, width}
use Rattle.primitives.specs.Answers.{version_of}
use Rattle.primitives.specs.declared.Field.{Field}
use Rattle.primitives.proofs.Versions.{known}
use Rattle.body_reading.specs.Cells.{field_cells}
use Rattle.body_writing.specs.Writes.{fault_at, row_fault}
use Rattle.body_writing.proofs.Counts.{Cells}
use Rattle.body_writing.proofs.Writes.{flat_own}
use Rattle.tagged_fields.proofs.Blamed.{front_named}
use Rattle.frame.specs.Answers.{of_request, of_response}
use Rattle.frame.specs.Shapes.{client_shape}
use Rattle.frame.specs.Walks.{front_shape}
use Rattle.frame.specs.declared.RequestHeader.{RequestHeader}
use Rattle.frame.specs.declared.ResponseHeader.{ResponseHeader}
use Rattle.frame.proofs.RequestWritten as Request
use Rattle.frame.proofs.ResponseWritten as Response

-- the client name alone decides its fault
pub client_alone : (lent : List ℕ) (t : ℕ) (f : Field) → row_fault lent client_shape (field_cells f) ≡ row_fault lent client_shape (field_cells f ++ (t ∷ []))
unfolding row_fault fault_at value_of pop width
client_alone lent t Field.Absent = refl
client_alone lent t Field.Null = refl
client_alone lent t (Field.Present x) = refl

-- the field of a response header
abbrev pub correlation : Shape
correlation = field (number w32) end

-- ---- with the tags, and for the header's number as it was asked for

module _ (lent : List ℕ) (tags : List ℕ) (cells : Cells tags) (z : ℤ) (v : ℕ) (i : v ≡ version_of z) (x : Refusal) (some : x.number ≢ 0) (r : Refusal) where
  pub request_named : (h : RequestHeader) → 1 ≤ v → v ≤ 2 → r ≡ name_fault 7 front_shape none_yet (meant lent (of_request h ∷ []) front_shape) x → r ≡ named_fault request.rows z lent (of_request h ∷ tags ∷ []) x
  unfolding front_shape named_fault meant
  request_named h low high e =
      e
      ∙ ap (λ y. name_fault 7 front_shape none_yet y x) (sym (flat_own lent front_shape tt 0 (of_request h ∷ tags ∷ []) (lit< tt)))
      ∙ front_named lent front_shape tt (leb 2 v) (of_request h) tags cells 7 none_yet x some
      ∙ ap (λ (s : Shape). name_fault 7 s none_yet (value_of lent s 0 (of_request h ∷ tags ∷ [])).0 x) (sym (Request.is_shape v low high))
      ∙ ap (λ (y : ℤ). named_fault request.rows y lent (of_request h ∷ tags ∷ []) x) (known request.rows z v i high (omega arith))

  pub response_named : (h : ResponseHeader) → v ≤ 1 → r ≡ name_fault 8 correlation none_yet (meant [] (of_response h ∷ []) correlation) x → r ≡ named_fault response.rows z lent (of_response h ∷ tags ∷ []) x
  unfolding named_fault meant value_of pop width basic_of
  response_named h high e =
      e
      ∙ front_named lent correlation tt (leb 1 v) (of_response h) tags cells 8 none_yet x some
      ∙ ap (λ (s : Shape). name_fault 8 s none_yet (value_of lent s 0 (of_response h ∷ tags ∷ [])).0 x) (sym (Response.is_shape v high))
      ∙ ap (λ (y : ℤ). named_fault response.rows y lent (of_response h ∷ tags ∷ []) x) (known response.rows z v i high (omega arith))
