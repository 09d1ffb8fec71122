-- A key's row of the agreement: the search for the key's first row, and the cells from the range that is found, shown as signed numbers.
use mathlib.Core.List.{List, [], ◌∷◌}
use mathlib.Core.Logic.{◌≢◌}
use mathlib.Core.Option.{Option, none, some}
use mathlib.Core.Path.{◌∙◌, ◌≡◌, ap, refl, sym}
use Prim.Native.Nat.{◌+◌, ◌/◌, ◌<◌, ◌^◌, ◌≤◌, suc, zero, ℕ}
use native.Mathlib.Numerals.{add-one}
use lib.ListN.{drop, drop_of_length-le, get_or, length, take}
use lib.Seq.{drop-cons}
use lib.IntN.{negsuc, ℤ}
use borrow.Author.Tests.{eq-eqb, ne_eqb}
use mir.Syntax as Mir
use mir.Val.{of_z, to_z}
use Rattle.std.specs.Simd.{first_chunks}
use Rattle.std.specs.Prelude.{Option as Maybe, Some, None}
use Rattle.layout.specs.Tables.{chunks, first_row, rows_of}
use Rattle.layout.specs.Primitives.{minus, signed, w64}
use Rattle.layout.specs.Agreement.{agreed, agreement, highest}
use Rattle.api_versions_agreement.specs.Agreed.{of_range, range_in, range_of, shown_agreed, shown_agreement, shown_cells}
use Rattle.api_versions_agreement.specs.declared.Range.{Range}
use Rattle.primitives.proofs.Signed.{back}

module _ (key : ℕ) (rows : List (List ℕ)) where
  -- the first i rows are of other keys
  abbrev pub Searched : ℕ → Type 0
  Searched i = first_row key (drop i rows) ≡ first_row key rows

  module _ (i : ℕ) (a : Searched i) (h : i < length rows) where
    next : first_row key (get_or rows i [] ∷ drop (suc i) rows) ≡ first_row key rows
    next = sym (ap (first_row key) (drop-cons rows i [] h)) ∙ a

    pub searched_next : get_or (get_or rows i []) 0 0 ≢ key → Searched (i + 1)
    unfolding first_row
    searched_next o = ap (λ (k : ℕ). first_row key (drop k rows)) (add-one i) ∙ (rw (ne_eqb (get_or (get_or rows i []) 0 0) key o) at next)

    found : get_or (get_or rows i []) 0 0 ≡ key → some (get_or rows i []) ≡ first_row key rows
    unfolding first_row
    found e = rw (eq-eqb (get_or (get_or rows i []) 0 0) key e) at next

-- the rows that code cuts off a table are the table's
module _ (items : List ℕ) where
  as_chunks : (w n : ℕ) (cs : List ℕ) → first_chunks w n cs ≡ chunks n w cs
  unfolding chunks
  as_chunks w zero cs = refl
  as_chunks w (suc n) cs = ap (λ (rs : List (List ℕ)). take w cs ∷ rs) (as_chunks w n (drop w cs))

  module _ (key : ℕ) (rows : List (List ℕ)) (e : rows ≡ first_chunks 4 (length items / 4) items) where
    in_rows : {o : Option (List ℕ)} → o ≡ first_row key rows → range_in o ≡ range_of key items
    unfolding range_of rows_of
    in_rows h = ap range_in (h ∙ ap (first_row key) (e ∙ as_chunks 4 (length items / 4) items))

    pub range_found : (i : ℕ) → Searched key rows i → i < length rows → get_or (get_or rows i []) 0 0 ≡ key → some (get_or (get_or rows i []) 1 0, get_or (get_or rows i []) 2 0) ≡ range_of key items
    range_found i a h k = in_rows (found key rows i a h k)

    pub range_none : (i : ℕ) → Searched key rows i → length rows ≤ i → none ≡ range_of key items
    unfolding first_row
    range_none i a h = in_rows (sym (ap (first_row key) (drop_of_length-le rows {i = i} h)) ∙ a)

module _ (key low high : ℕ) where
  -- the cells, by the range that the first row has
  abbrev cells_of : Option (ℕ × ℕ) → List ℕ
  cells_of none = key ∷ minus ∷ minus ∷ []
  cells_of (some b) = key ∷ highest low high b ∷ b.1 ∷ []

  by_range : (o : Option (List ℕ)) → cells_of (range_in o) ≡ agreed key low high o
  unfolding agreed
  by_range none = refl
  by_range (some r) = refl

  module _ (items : List ℕ) (r : Maybe Range) (h : of_range r ≡ range_of key items) (x : ℤ) (d : x ≡ signed w64 key) (k : key < 2 ^ 64) where
    of_range_lem : (o : Maybe Range) → r ≡ o → shown_cells (cells_of (of_range o)) ≡ shown_agreed key low high items
    unfolding shown_agreed range_of
    of_range_lem o i = ap (λ (y : Option (ℕ × ℕ)). shown_cells (cells_of y)) (sym (ap of_range i) ∙ h) ∙ ap shown_cells (by_range (first_row key (rows_of 4 items)))

    pub row_listed :
        (t : Range) (v : ℕ) → r ≡ Some t → v ≡ highest low high (t.min, t.max) → (y z : ℤ) → y ≡ signed w64 v → z ≡ signed w64 t.max → v < 2 ^ 64 → t.max < 2 ^ 64
        → to_z Mir.w64 (of_z Mir.w64 x) ∷ to_z Mir.w64 (of_z Mir.w64 y) ∷ to_z Mir.w64 (of_z Mir.w64 z) ∷ [] ≡ shown_agreed key low high items
    unfolding shown_cells
    row_listed t v i j y z f g m n = (λ s. back key x k d s ∷ (back v y m f ∙ ap (signed w64) j) s ∷ back t.max z n g s ∷ []) ∙ of_range_lem (Some t) i

    pub row_unlisted : r ≡ None → to_z Mir.w64 (of_z Mir.w64 x) ∷ negsuc 0 ∷ negsuc 0 ∷ [] ≡ shown_agreed key low high items
    unfolding shown_cells signed
    row_unlisted i = ap (λ (y : ℤ). y ∷ negsuc 0 ∷ negsuc 0 ∷ []) (back key x k d) ∙ of_range_lem None i

pub three_rows : (items : List ℕ) (a b c : List ℤ) → a ≡ shown_agreed 18 0 3 items → b ≡ shown_agreed 3 0 4 items → c ≡ shown_agreed 1 4 4 items → a ∷ b ∷ c ∷ [] ≡ shown_agreement items
unfolding shown_agreement shown_agreed agreement
three_rows items a b c e f g = λ t. e t ∷ f t ∷ g t ∷ []
