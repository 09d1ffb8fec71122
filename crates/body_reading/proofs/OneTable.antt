-- The whole reply of a prefix read that is lent one table: from a walk over none of its room, which measures, and one over the table, which fills it.
use mathlib.Core.Bool.{Bool, false, true}
use mathlib.Core.List.{List, [], ◌++◌, ◌∷◌}
use mathlib.Core.Option.{none, some}
use mathlib.Core.Path.{◌∙◌, ◌≡◌, ap, refl, subst, sym}
use Prim.Native.Nat.{◌/◌, ◌<◌, ◌≤◌, ℕ}
use native.Mathlib.Omega.{arith}
use lib.IntN.{pos}
use lib.ListN.{length}
use Rattle.layout.specs.Reading.{Refusal, Res, bad, no_room, ok}
use Rattle.layout.specs.Answers.{Message, accepted, most, prefix_read, refused, shape, widths}
use Rattle.layout.proofs.Proper.{proper}
use Rattle.body_reading.specs.Store.{State, Tab, add, own, store, tab}
use Rattle.body_reading.specs.Walk.{Places, on, walk}
use Rattle.body_reading.proofs.Bound.{slim}
use Rattle.body_reading.proofs.Close.{slices}
use Rattle.body_reading.specs.Meter.{short}
use Rattle.body_reading.proofs.Reply.{answers_fits, answers_needs, answers_no, short_here, short_next, short_none}
use Rattle.layout.proofs.Chunks.{nil}

-- the body's own row and the table
pub alone_row : (x y : Tab) (cs : List ℕ) → add 0 cs (x ∷ y ∷ []) ≡ store x cs ∷ y ∷ []
unfolding add
alone_row x y cs = refl

pub alone_items : (x y : Tab) (cs : List ℕ) → add 1 cs (x ∷ y ∷ []) ≡ x ∷ store y cs ∷ []
unfolding add
alone_items x y cs = refl

abbrev pub alone : Places
alone = record { h = λ x y. x ∷ y ∷ []; o = 0; t = 1; row_law = alone_row; items_law = alone_items }

-- rows of width w
module _ (m : Message) (h : proper m ≡ true) (few : slim m ≡ true) (one : 1 ≡ m.tables) (w : ℕ) (wide : widths m ≡ w ∷ []) where
  short_some : (k n : ℕ) → n / w < k / w → short (widths m) (k ∷ []) (n ∷ []) ≡ some (k / w)
  short_some k n l = rw wide (short_here w [] k [] n [] l)

  fits : (k n : ℕ) → k / w ≤ n / w → short (widths m) (k ∷ []) (n ∷ []) ≡ none
  fits k n l = rw wide (short_next w [] k [] n [] l ∙ short_none [] [])

  module _ (v : ℕ) (known : v ≤ m.last) (s l : List ℕ) (size : length s ≤ most) (t₀ t₁ : List ℕ) (empty : length t₁ ≡ 0) where
    abbrev run : List ℕ → Res State
    run t = on (walk false (shape m v) 0 (own [] ∷ tab t 0 ∷ [])) s 0

    same : l ≡ t₁ ++ l
    same = ap (λ (t : List ℕ). t ++ l) (sym (nil t₁ empty))

    -- a prefix read may leave bytes
    may_leave : (q : ℕ) → ◌≡◌ {A = Bool} false true → length s ≤ q
    may_leave q e = absurd (let z : ◌≡◌ {A = ℕ} 0 1 = cc in omega arith)

    -- the bytes are refused
    pub one_no : (c : Refusal) → bad c ≡ run t₀ → (refused c, (t₁ ++ l) ∷ []) ≡ prefix_read m (pos v) (l ∷ []) s
    unfolding prefix_read
    one_no c e = ap (λ (t : List ℕ). (refused c, t ∷ [])) (sym same) ∙ answers_no m h few false v known s size (l ∷ []) (t₀ ∷ []) one one c e

    module _ (row : List ℕ) (q k : ℕ) (first : ok (own row ∷ tab t₁ k ∷ []) q ≡ run t₀) where
      -- 10
      pub one_needs : length (t₁ ++ l) / w < k / w → (c : Refusal) → c ≡ no_room (k / w) → (refused c, (t₁ ++ l) ∷ []) ≡ prefix_read m (pos v) (l ∷ []) s
      unfolding prefix_read
      one_needs i c e =
          (λ j. (refused (e j), sym same j ∷ []))
          ∙ answers_needs m h few false v known s size (l ∷ []) (t₀ ∷ []) one one row (tab t₁ k ∷ []) q first (may_leave q) (k / w) (short_some k (length l) (subst (λ (t : List ℕ). length t / w < k / w) (sym same) i))

      -- the rows have room, and the second walk's answer z is not looked at
      pub one_took : k / w ≤ length (t₁ ++ l) / w → (l₂ : List ℕ) (z : Res State) → ((x : State) (n : ℕ) → z ≡ ok x n → slices x ≡ l₂ ∷ []) → z ≡ run (t₁ ++ l) → (accepted row q, l₂ ∷ []) ≡ prefix_read m (pos v) (l ∷ []) s
      unfolding prefix_read
      one_took i l₂ z f d =
          answers_fits m h few false v known s size (l ∷ []) (t₀ ∷ []) one one row (tab t₁ k ∷ []) q first (may_leave q) (fits k (length l) (subst (λ (t : List ℕ). k / w ≤ length t / w) (sym same) i)) z (d ∙ ap run (sym same)) (l₂ ∷ []) f
