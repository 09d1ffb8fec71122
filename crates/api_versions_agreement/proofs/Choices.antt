-- What `agree` promises, in the words of the rules: for each API the highest version that both sides know, or −1 exactly if there is none.
use mathlib.Core.List.{List, [], ◌∷◌}
use mathlib.Core.Logic.{◌↔◌}
use mathlib.Core.Option.{Option, none, some}
use mathlib.Core.Path.{◌∙◌, ◌≡◌, refl, subst, sym}
use Prim.Native.Nat.{◌<◌, ◌^◌, ◌≤◌, ℕ}
use native.Mathlib.Omega.{arith}
use lib.Dec.{lit<}
use lib.IntN.{negsuc, pos, ℤ}
use lib.ListN.{get_or}
use Rattle.layout.specs.Primitives.{minus, signed}
use Rattle.layout.specs.Tables.{chunks, first_row, rows_of}
use Rattle.layout.specs.Agreement.{agreed, agreement, highest, negative, reaches, smaller}
use Rattle.layout.proofs.Agreed.{Common, Highest, highest_is, lacking, most, shown}
use Rattle.layout.proofs.Tests.{lt-true}
use Rattle.api_versions_agreement.specs.Agreed.{shown_agreement, shown_cells}

-- the broker's versions in its row for a key, as cells
abbrev range : List ℕ → ℕ × ℕ
range r = (get_or r 1 0, get_or r 2 0)

-- version v is one of ours, low to high, and one of the broker's; a key that is not listed has none
abbrev pub Both : ℕ → ℕ → Option (List ℕ) → ℕ → Type 0
Both low high none v = ⊥
Both low high (some r) v = Common low high (range r) v

abbrev pub maximum : Option (List ℕ) → ℤ
maximum none = negsuc 0
maximum (some r) = shown (get_or r 2 0)

-- key, chosen version, broker's maximum. A version is never negative, so −1 is told exactly if none is common
pub data Choice (key low high : ℕ) (o : Option (List ℕ)) : List ℤ → Type 0 where
  none_common : ((v : ℕ) → ¬ Both low high o v) → Choice key low high o (pos key ∷ negsuc 0 ∷ maximum o ∷ [])
  highest_common : (v : ℕ) → Both low high o v → ((u : ℕ) → Both low high o u → u ≤ v) → Choice key low high o (pos key ∷ pos v ∷ maximum o ∷ [])

module _ (key low high : ℕ) (k : key < 2 ^ 63) (h : high < 2 ^ 63) where
  shown_pos : (n : ℕ) → n < 2 ^ 63 → shown n ≡ pos n
  unfolding signed
  shown_pos n l = rw (lt-true n (2 ^ 63) l)

  shown_minus : shown minus ≡ negsuc 0
  unfolding signed
  shown_minus = refl

  module _ (r : List ℕ) where
    as_told : (c : ℕ) → Highest low high (range r) c → Choice key low high (some r) (shown key ∷ shown c ∷ shown (get_or r 2 0) ∷ [])
    as_told c (lacking f) = rw (shown_pos key k, shown_minus) (none_common f)
    as_told c (most v b f) = let g = b.ours_high in rw (shown_pos key k, shown_pos v (omega arith)) (highest_common v b f)

  choice : (o : Option (List ℕ)) → Choice key low high o (shown_cells (agreed key low high o))
  unfolding shown_cells agreed
  choice none = rw (shown_pos key k, shown_minus) (none_common (λ v b. b))
  choice (some r) = as_told r (highest low high (range r)) (highest_is low high (range r))

-- the first row of each key decides
pub record Choices (items : List ℕ) (r : List (List ℤ)) : Type 0 where
  pub api_versions : Choice 18 0 3 (first_row 18 (rows_of 4 items)) (get_or r 0 [])
  pub metadata : Choice 3 0 4 (first_row 3 (rows_of 4 items)) (get_or r 1 [])
  pub fetch : Choice 1 4 4 (first_row 1 (rows_of 4 items)) (get_or r 2 [])

promised : (items : List ℕ) → Choices items (shown_agreement items)
unfolding shown_agreement agreement
promised items = record {
  api_versions = choice 18 0 3 (lit< tt) (lit< tt) (first_row 18 (rows_of 4 items));
  metadata = choice 3 0 4 (lit< tt) (lit< tt) (first_row 3 (rows_of 4 items));
  fetch = choice 1 4 4 (lit< tt) (lit< tt) (first_row 1 (rows_of 4 items));
}

-- for whatever `agree` hands back, by its promise
pub agree_chooses : (items : List ℕ) (r : List (List ℤ)) → r ≡ shown_agreement items → Choices items r
agree_chooses items r e = subst (Choices items) (sym e) (promised items)

-- −1 exactly if no version is common
pub minus_exactly : (key low high : ℕ) (o : Option (List ℕ)) (r : List ℤ) → Choice key low high o r → (get_or r 1 (pos 0) ≡ negsuc 0) ↔ ((v : ℕ) → ¬ Both low high o v)
minus_exactly key low high o r (none_common f) = (λ e. f, λ g. refl)
minus_exactly key low high o r (highest_common v b f) = (λ e. let z : ◌≡◌ {A = ℕ} 0 1 = cc in absurd (omega arith), λ g. absurd (g v b))

pub agree_unique : (items : List ℕ) (r s : List (List ℤ)) → r ≡ shown_agreement items → s ≡ shown_agreement items → r ≡ s
agree_unique items r s h k = h ∙ sym k

-- ApiVersions 0 to 2 and then 0 to 3, and Fetch 0 to 11: the first row of a key counts, and an unlisted key has no version
three_listed : shown_agreement (18 ∷ 0 ∷ 2 ∷ 0 ∷ 18 ∷ 0 ∷ 3 ∷ 0 ∷ 1 ∷ 0 ∷ 11 ∷ 0 ∷ []) ≡ (pos 18 ∷ pos 2 ∷ pos 2 ∷ []) ∷ (pos 3 ∷ negsuc 0 ∷ negsuc 0 ∷ []) ∷ (pos 1 ∷ pos 4 ∷ pos 11 ∷ []) ∷ []
unfolding shown_agreement agreement shown_cells agreed first_row rows_of chunks signed highest negative smaller reaches
three_listed = refl
