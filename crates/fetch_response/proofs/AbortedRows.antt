-- An aborted transaction into its table: each way out of the walk over it.
use mathlib.Core.Bool.{false, true}
use mathlib.Core.List.{List, [], ◌∷◌}
use mathlib.Core.Path.{◌∙◌, ◌≡◌, ap, sym}
use Prim.Native.Nat.{ℕ}
use Rattle.layout.specs.Reading.{Refusal, Res, bad, ok}
use Rattle.layout.specs.Primitives.{cell, w64}
use Rattle.layout.specs.Rows.{Shape, end, field, number, stands}
use Rattle.layout.specs.Read.{read_basic}
use Rattle.layout.specs.Tables.{cells}
use Rattle.body_reading.specs.Store.{State, store, tab}
use Rattle.body_reading.specs.Walk.{Runs, in_place, on, row_from, walk}
use Rattle.body_reading.proofs.RowCells.{alone_no, alone_took, cells_end, cells_no, cells_took}
use Rattle.fetch_response.specs.TopicShapes.{aborted_shape}
use Rattle.body_reading.specs.Walked.{filled, filled_is}

abbrev one : Shape
one = field (number w64) end

abbrev two : Shape
two = field (number w64) one

module _ (s : List ℕ) (p : ℕ) (l : List ℕ) (k : ℕ) where
  not_taken : (c : Refusal) → bad c ≡ on (row_from [] two) s p → Runs (λ e. walk false (aborted_shape true) e.o) s p (in_place l k) (λ e. bad c)
  unfolding aborted_shape stands
  not_taken c h = record { law = λ e. alone_no two tt e.o (in_place l k e) s p c h }

  pub producer_no : (c : Refusal) → bad c ≡ on (cell w64) s p → Runs (λ e. walk false (aborted_shape true) e.o) s p (in_place l k) (λ e. bad c)
  unfolding read_basic
  producer_no c h = not_taken c (cells_no [] (number w64) one s p c h)

  module _ (a q : ℕ) (d : ok a q ≡ on (cell w64) s p) where
    from_producer : (z : Res (List ℕ)) → z ≡ on (row_from (a ∷ []) one) s q → z ≡ on (row_from [] two) s p
    unfolding read_basic cells
    from_producer z g = cells_took [] (number w64) one s p a q d z g

    pub offset_no : (c : Refusal) → bad c ≡ on (cell w64) s q → Runs (λ e. walk false (aborted_shape true) e.o) s p (in_place l k) (λ e. bad c)
    unfolding read_basic
    offset_no c h = not_taken c (from_producer (bad c) (cells_no (a ∷ []) (number w64) end s q c h))

    pub pair_took : (b n : ℕ) → ok b n ≡ on (cell w64) s q → (l' : List ℕ) (m : ℕ) → tab l' m ≡ store (tab l k) (a ∷ b ∷ []) → Runs (λ e. walk false (aborted_shape true) e.o) s p (in_place l k) (filled_is l' (filled n m))
    unfolding aborted_shape stands read_basic cells
    pair_took b n h l' m i = record {
      law = λ e.
          ap (λ (y : State). ok y n) (ap e.h i ∙ sym (e.law (tab l k) (a ∷ b ∷ [])))
          ∙ alone_took two tt e.o (in_place l k e) s p (a ∷ b ∷ []) n (from_producer _ (cells_took (a ∷ []) (number w64) end s q b n h _ (cells_end (a ∷ b ∷ []) s n)));
    }
