-- The rows of a table as they come off its front: what is left of it has the rows that are left.
use mathlib.Core.List.{List, [], ◌++◌, ◌∷◌}
use mathlib.Core.Path.{◌∙◌, ◌≡◌, ap, ap₂, sym}
use Prim.Native.Nat.{◌<◌, ℕ}
use native.Mathlib.Nat.{div-eq_of_lt}
use native.Mathlib.Omega.{arith}
use lib.ListN.{drop, length, length-append, take}
use lib.Seq.{drop-append_seam, take-append_seam}
use Rattle.layout.specs.Tables.{chunks, rows_of}
use Rattle.layout.proofs.Chunks.{rows_first}

module _ (w : ℕ) (left : List ℕ) where
  -- a row, and the cells after it
  pub next_row : 0 < w → (row after : List ℕ) → left ≡ row ++ after → length row ≡ w → rows_of w left ≡ row ∷ rows_of w after
  next_row h row after e d =
      rows_first w left h (omega (arith, ap length e, length-append row after))
      ∙ ap₂ (λ (r cs : List ℕ). r ∷ rows_of w cs) (ap₂ take (sym d) e ∙ take-append_seam row after) (ap₂ drop (sym d) e ∙ drop-append_seam row after)

  pub no_row : length left < w → rows_of w left ≡ []
  unfolding rows_of chunks
  no_row h = ap (λ (n : ℕ). chunks n w left) (div-eq_of_lt h)
