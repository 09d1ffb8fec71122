-- Rows one by one, as a loop takes them: the tables behind so many of them, what they mean, the first fault, at which it stops, and the bytes of each behind those of the row before.
use mathlib.Core.Path.{◌∙◌, ◌≡◌, ap, ap₂, refl, sym}
use mathlib.Core.List.{List, [], ◌++◌, ◌∷◌, map}
use mathlib.Core.Logic.{◌≢◌}
use Prim.Native.Nat.{◌*◌, ◌+◌, ◌-◌, ◌/◌, ◌<◌, ◌≤◌, min, suc, zero, ℕ}
use native.Mathlib.Omega.{arith}
use native.Mathlib.Numerals.{add-one}
use lib.ListN.{drop, drop_of_length-le, get_or, length, length-set, set, take}
use lib.Seq.{drop-cons, drop-drop, get_or-set_same, set-get_or, set-set}
use borrow.Rule.Slice.PartMut.{mid_of, put_mid}
use Rattle.layout.specs.Tables.{Tables, chunks, rows_of, times}
use Rattle.layout.specs.Write.{each, first_of, or}
use Rattle.primitives_put.specs.Step.{Capped, cap}
use Rattle.primitives_put.proofs.Capped.{capped_all, capped_next, capped_none}
use Rattle.layout.proofs.Chunks.{rows_many}

module _ {A : Type 0} (g : Tables → A × Tables) where
  -- the tables behind n items
  unfoldable pub behind : ℕ → Tables → Tables
  behind zero st = st
  behind (suc n) st = behind n (g st).1

  pub times_many : (n : ℕ) (st : Tables) → length (times n g st).0 ≡ n
  unfolding times
  times_many zero st = refl
  times_many (suc n) st = ap suc (times_many n (g st).1)

  pub times_at : (n : ℕ) (st : Tables) (i : ℕ) (z : A) → i < n → get_or (times n g st).0 i z ≡ (g (behind i st)).0
  unfolding times behind
  times_at zero st i z h = absurd (omega arith)
  times_at (suc n) st zero z h = refl
  times_at (suc n) st (suc i) z h = times_at n (g st).1 i z (omega arith)

  pub behind_none : (st : Tables) → behind 0 st ≡ st
  unfolding behind
  behind_none st = refl

  suc_next : (i : ℕ) (st : Tables) → behind (suc i) st ≡ (g (behind i st)).1
  unfolding behind
  suc_next zero st = refl
  suc_next (suc i) st = suc_next i (g st).1

  pub behind_next : (i : ℕ) (st : Tables) → behind (i + 1) st ≡ (g (behind i st)).1
  behind_next i st = rw add-one (suc_next i st)

-- the first of two faults, and the second where the first is none
pub or_first : (a b e : ℕ) → e ≡ a → e ≢ 0 → e ≡ or a b
unfolding or
or_first zero b e i h = absurd (h i)
or_first (suc a) b e i h = i

pub or_second : (a b e : ℕ) → e ≡ a → e ≡ 0 → b ≡ or a b
unfolding or
or_second zero b e i h = refl
or_second (suc a) b e i h = absurd (omega arith)

-- ---- what n rows of table o mean, where one row means m of its cells

module _ {A : Type 0} (w o : ℕ) (g : Tables → A × Tables) (m : List ℕ → A) (one : (st : Tables) → o < length st → g st ≡ (m (take w (get_or st o [])), set st o (drop w (get_or st o [])))) where
  pub times_rows : (n : ℕ) (st : Tables) → o < length st → times n g st ≡ (map m (chunks n w (get_or st o [])), set st o (drop (n * w) (get_or st o [])))
  unfolding times chunks
  times_rows zero st h = let none : 0 ≡ 0 * w = omega arith in λ i. ([], (sym (set-get_or st o []) ∙ ap (λ (k : ℕ). set st o (drop k (get_or st o []))) none) i)
  times_rows (suc n) st h =
      let next : w + n * w ≡ suc n * w = omega arith in
      let cs : List ℕ = get_or st o [] in
      let su : Tables = set st o (drop w cs) in
      let e : get_or su o [] ≡ drop w cs = get_or-set_same st o (drop w cs) [] h in
      let r =
      times_rows n su (omega (arith, length-set st o (drop w cs)))
      ∙ (λ i. (map m (chunks n w (e i)), set su o (drop (n * w) (e i))))
      ∙ (λ i. (map m (chunks n w (drop w cs)), (set-set st o (drop w cs) (drop (n * w) (drop w cs)) ∙ ap (set st o) (drop-drop (n * w) w cs ∙ ap (λ (k : ℕ). drop k cs) next)) i))
      in
      rw (one st h) (λ i. (m (take w cs) ∷ (r i).0, (r i).1))

-- ---- a list of values, each made of a row: their bytes and their first fault

module _ {A : Type 0} (m : List ℕ → A) where
  pub each_map : (u : A → List ℕ) (b : List ℕ → List ℕ) → ((r : List ℕ) → u (m r) ≡ b r) → (rs : List (List ℕ)) → each u (map m rs) ≡ each b rs
  unfolding each
  each_map u b h [] = refl
  each_map u b h (r ∷ rs) = ap₂ (λ (x y : List ℕ). x ++ y) (h r) (each_map u b h rs)

  pub first_map : (u : A → ℕ) (g : List ℕ → ℕ) → ((r : List ℕ) → u (m r) ≡ g r) → (rs : List (List ℕ)) → first_of u (map m rs) ≡ first_of g rs
  unfolding first_of
  first_map u g h [] = refl
  first_map u g h (r ∷ rs) = ap₂ or (h r) (first_map u g h rs)

-- ---- the first fault: the first i rows have none, and those left decide

pub record Clean (g : List ℕ → ℕ) (w : ℕ) (table : List ℕ) (i : ℕ) : Type 0 where
  pub below : i ≤ length table / w
  pub same : first_of g (drop i (rows_of w table)) ≡ first_of g (rows_of w table)

module _ (g : List ℕ → ℕ) (w : ℕ) (table : List ℕ) where
  pub clean_start : Clean g w table 0
  clean_start = record { below = omega arith; same = refl }

  module _ (i : ℕ) (a : Clean g w table i) where
    module _ (h : i < length table / w) (e : ℕ) (f : e ≡ g (get_or (rows_of w table) i [])) where
      split : or (g (get_or (rows_of w table) i [])) (first_of g (drop (suc i) (rows_of w table))) ≡ first_of g (rows_of w table)
      unfolding first_of
      split = sym (ap (first_of g) (drop-cons (rows_of w table) i [] (omega (arith, rows_many w table)))) ∙ a.same

      pub clean_stop : e ≢ 0 → e ≡ first_of g (rows_of w table)
      clean_stop k = or_first (g (get_or (rows_of w table) i [])) _ e f k ∙ split

      pub clean_more : e ≡ 0 → Clean g w table (i + 1)
      clean_more k = record {
        below = omega arith;
        same = ap (λ (j : ℕ). first_of g (drop j (rows_of w table))) (add-one i) ∙ or_second (g (get_or (rows_of w table) i [])) _ e f k ∙ split;
      }

    pub clean_end : length table / w ≤ i → 0 ≡ first_of g (rows_of w table)
    unfolding first_of
    clean_end h = sym (ap (first_of g) (drop_of_length-le (rows_of w table) {i = i} (omega (arith, rows_many w table)))) ∙ a.same

-- ---- the bytes: those of the first i rows stand there

pub record Walked (b : List ℕ → List ℕ) (w : ℕ) (table d : List ℕ) (i n : ℕ) (d' : List ℕ) : Type 0 where
  pub below : i ≤ length table / w
  pub step : Capped (each b (take i (rows_of w table))) d n d'

module _ (b : List ℕ → List ℕ) (w : ℕ) (table d : List ℕ) where
  pub walked_start : Walked b w table d 0 0 d
  walked_start = record { below = omega arith; step = capped_none b (rows_of w table) d }

  module _ {i n : ℕ} {d₁ : List ℕ} (a : Walked b w table d i n d₁) where
    pub walked_more : i < length table / w → {m : ℕ} (at : ℕ) {e : List ℕ} → at ≡ min n (length d₁) → Capped (b (get_or (rows_of w table) i [])) (mid_of at (length d₁ - at) d₁) m e → (r : ℕ) → cap r ≡ cap (n + m) → Walked b w table d (i + 1) r (put_mid at (length d₁ - at) d₁ e)
    walked_more h at j s r k = record { below = omega arith; step = capped_next b (rows_of w table) i [] (omega (arith, rows_many w table)) a.step at j s r k }

    pub walked_end : length table / w ≤ i → Capped (each b (rows_of w table)) d n d₁
    walked_end h = capped_all b (rows_of w table) i (omega (arith, rows_many w table)) a.step
