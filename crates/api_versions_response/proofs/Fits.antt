-- 11 of a response: the numbers of a row, of all rows, and of the whole.
use mathlib.Core.Bool.{Bool, ◌&&◌, cond, false, true}
use mathlib.Core.List.{List, [], ◌∷◌}
use mathlib.Core.Path.{◌∙◌, ◌≡◌, ap, sym}
use Prim.Native.Nat.{◌*◌, ◌+◌, ◌/◌, ◌<◌, ◌^◌, ℕ}
use native.Mathlib.Nat.{add-zero}
use lib.Dec.{eqb, lit<}
use lib.ListN.{get_or, length}
use Rattle.layout.specs.Primitives.{holds, w16, w32}
use Rattle.layout.specs.Tables.{rows_of}
use Rattle.layout.specs.Write.{unless}
use Rattle.body_writing.specs.Writes.{row_fault, rows_fault}
use Rattle.layout.proofs.Chunks.{row_cell}
use Rattle.body_writing.proofs.Faults.{none_is, only}
use Rattle.body_writing.proofs.Counts.{Cells}
use Rattle.body_writing.proofs.Even.{numbers_fault}
use Rattle.tagged_fields.proofs.Tags.{and_assoc}
use Rattle.api_versions_response.specs.ItemShapes.{key_front}
use Rattle.api_versions_response.proofs.Whole.{untagged, untagged_fault}

-- ---- the three numbers of a row

abbrev pub clean : List ℕ → Bool
clean r = eqb (row_fault [] key_front r) 0

is_clean : (r : List ℕ) → clean r ≡ (holds w16 (get_or r 0 0) && (holds w16 (get_or r 1 0) && holds w16 (get_or r 2 0)))
is_clean r = ap (λ (n : ℕ). eqb n 0) (numbers_fault [] w16 w16 w16 r) ∙ none_is _ 10

-- as code judges them
pub clean_so : {b : Bool} (k m h : ℕ) → b ≡ ((holds w16 k && holds w16 m) && holds w16 h) → b ≡ clean (k ∷ m ∷ h ∷ [])
clean_so k m h e = e ∙ and_assoc (holds w16 k) (holds w16 m) (holds w16 h) ∙ sym (is_clean (k ∷ m ∷ h ∷ []))

-- as the table has them
pub row_told : (items : List ℕ) (i : ℕ) → i < length items / 4 → (b : Bool) → b ≡ clean (get_or items (i * 4) 0 ∷ get_or items (i * 4 + 1) 0 ∷ get_or items (i * 4 + 2) 0 ∷ []) → b ≡ clean (get_or (rows_of 4 items) i [])
row_told items i h b e =
    e
    ∙ is_clean (get_or items (i * 4) 0 ∷ get_or items (i * 4 + 1) 0 ∷ get_or items (i * 4 + 2) 0 ∷ [])
    ∙ sym (λ t. holds w16 ((row_cell 4 items i h 0 (lit< tt) ∙ ap (λ (k : ℕ). get_or items k 0) (add-zero (i * 4))) t) && (holds w16 (row_cell 4 items i h 1 (lit< tt) t) && holds w16 (row_cell 4 items i h 2 (lit< tt) t)))
    ∙ sym (is_clean (get_or (rows_of 4 items) i []))

-- ---- the whole, judged without its tags

module _ (t : Bool) (error n : ℕ) (items : List ℕ) (cells : Cells items) (s : length items < 2 ^ 64) where
  is_carried : eqb (untagged t error n items cells s) 0 ≡ (holds w16 error && (cond t (holds w32 n) true && eqb (rows_fault [] key_front 4 items) 0))
  is_carried = ap (λ (x : ℕ). eqb x 0) (untagged_fault t error n items cells s) ∙ none_is _ 10

  pub carried_so : {b : Bool} → b ≡ ((holds w16 error && cond t (holds w32 n) true) && eqb (rows_fault [] key_front 4 items) 0) → b ≡ eqb (untagged t error n items cells s) 0
  carried_so e = e ∙ and_assoc (holds w16 error) (cond t (holds w32 n) true) (eqb (rows_fault [] key_front 4 items) 0) ∙ sym is_carried

  -- 11 or none, where it is not 13
  pub is_told : (g a : Bool) → a ≡ g → a ≡ true → (b : Bool) → b ≡ eqb (untagged t error n items cells s) 0 → unless b 11 ≡ cond g (untagged t error n items cells s) 13
  is_told g a e h b i = ap (λ (c : Bool). unless c 11) i ∙ sym (only _ _ 10 (untagged_fault t error n items cells s)) ∙ sym (rw (← e, h))

pub fault_bad : (g : Bool) (x : ℕ) (a : Bool) → a ≡ g → a ≡ false → 13 ≡ cond g x 13
fault_bad g x a e h = sym (rw (← e, h))
