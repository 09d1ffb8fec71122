-- Steps of writers: nothing written, one behind another, and an array item by item; and the same for walks, whose counts stop above the limit.
use mathlib.Core.List.{List, [], ◌++◌, ◌∷◌, append_assoc, append-nil}
use mathlib.Core.Path.{◌∙◌, ◌≡◌, ap, ap₂, refl, subst, sym}
use mathlib.Core.Bool.{Bool, cond, false, true}
use Prim.Native.Nat.{◌+◌, ◌-◌, ◌<◌, ◌≤◌, min, ℕ}
use native.Mathlib.Decide.{dec_lt}
use native.Mathlib.Numerals.{add-one}
use native.Mathlib.Omega.{arith}
use lib.ListN.{drop, drop_of_length-le, get_or, length, length-append, length-drop, take}
use lib.Seq.{drop-append_seam, drop-drop, length-take-le, take_all, take-append_seam, take-suc}
use borrow.Rule.Slice.PartMut.{mid_of, put_mid, same_len_mid}
use Rattle.layout.specs.Write.{each}
use Rattle.layout.specs.Answers.{most}
use Rattle.primitives_put.specs.Step.{Capped, Step, cap}

pub step_nothing : (d : List ℕ) → Step [] d 0 d
step_nothing d = record { count = refl; long = refl; stored = λ h. refl }

-- the same bytes, said otherwise
pub step_as : {bs cs d d' : List ℕ} {r : ℕ} → bs ≡ cs → Step bs d r d' → Step cs d r d'
step_as {bs} {cs} {d} {d'} {r} e s = subst (λ (x : List ℕ). Step x d r d') e s

module _ {fs d d₁ : List ℕ} {n : ℕ} (s : Step fs d n d₁) {bs : List ℕ} {m : ℕ} where
  -- bs behind fs, where d₁ holds the place behind them: e is what the rest becomes
  pub step_then : {e : List ℕ} → n ≤ length d₁ → Step bs (drop n d₁) m e → Step (fs ++ bs) d (n + m) (take n d₁ ++ e)
  step_then {e} h t = record {
    count = omega (arith, s.count, t.count, length-append fs bs);
    long = omega (arith, s.long, t.long, length-append (take n d₁) e, length-take-le n d₁ h, length-drop n d₁);
    stored = λ k.
        let f : d₁ ≡ fs ++ drop (length fs) d = s.stored (omega (arith, length-append fs bs)) in
        let v : length bs ≤ length (drop n d₁) = omega (arith, s.count, s.long, length-append fs bs, length-drop n d₁) in
        let a : take n d₁ ≡ fs = ap₂ take s.count f ∙ take-append_seam fs _ in
        let b : drop n d₁ ≡ drop (length fs) d = ap₂ drop s.count f ∙ drop-append_seam fs _ in
        ap₂ (λ (x y : List ℕ). x ++ y) a (t.stored v ∙ ap (λ (x : List ℕ). bs ++ drop (length bs) x) b ∙ ap (λ (x : List ℕ). bs ++ x) (drop-drop (length bs) (length fs) d))
        ∙ sym (append_assoc fs bs _)
        ∙ ap (λ (k : ℕ). (fs ++ bs) ++ drop k d) (sym (length-append fs bs));
  }

  -- the same, as a call with `&mut out[n..]` leaves it
  pub step_lent : {e : List ℕ} → n ≤ length d₁ → Step bs (mid_of n (length d₁ - n) d₁) m e → Step (fs ++ bs) d (n + m) (put_mid n (length d₁ - n) d₁ e)
  step_lent {e} h t =
      let all : take (length d₁ - n) (drop n d₁) ≡ drop n d₁ = take_all (length d₁ - n) (drop n d₁) (omega (arith, length-drop n d₁)) in
      let none : drop (length d₁ - n) (drop n d₁) ≡ [] = drop_of_length-le (drop n d₁) {i = length d₁ - n} (omega (arith, length-drop n d₁)) in
      subst (λ (x : List ℕ). Step (fs ++ bs) d (n + m) (take n d₁ ++ x)) (sym (ap (λ (x : List ℕ). e ++ x) none ∙ append-nil e))
      (step_then h (subst (λ (x : List ℕ). Step bs x m e) all t))

  -- both, as a call with `&mut out[at..]` leaves it, where `at` is the place behind fs or the end
  pub step_behind : (at : ℕ) {e : List ℕ} → at ≡ min n (length d₁) → Step bs (mid_of at (length d₁ - at) d₁) m e → Step (fs ++ bs) d (n + m) (put_mid at (length d₁ - at) d₁ e)
  step_behind at {e} i t =
      elim (dec_lt (length d₁) n) [
        | yes h ↦ record {
          count = omega (arith, s.count, t.count, length-append fs bs);
          long = same_len_mid at (length d₁ - at) d₁ e t.long ∙ s.long;
          stored = λ k. absurd (omega (arith, s.count, s.long, length-append fs bs));
        }
        | no h ↦
            let j : n ≡ at = omega arith in
            subst (λ (p : ℕ). Step (fs ++ bs) d (n + m) (put_mid p (length d₁ - p) d₁ e)) j
            (step_lent (omega arith) (subst (λ (p : ℕ). Step bs (mid_of p (length d₁ - p) d₁) m e) (sym j) t))
      ]

-- ---- an array, item by item

module _ {A : Type 0} (w : A → List ℕ) where
  each_append : (xs ys : List A) → each w (xs ++ ys) ≡ each w xs ++ each w ys
  unfolding each
  each_append [] ys = refl
  each_append (x ∷ xs) ys = ap (λ (t : List ℕ). w x ++ t) (each_append xs ys) ∙ sym (append_assoc (w x) (each w xs) (each w ys))

  -- one item more
  pub each_next : (xs : List A) (i : ℕ) (z : A) → i < length xs → each w (take i xs) ++ w (get_or xs i z) ≡ each w (take (i + 1) xs)
  unfolding each
  each_next xs i z h =
      ap (λ (t : List ℕ). each w (take i xs) ++ t) (sym (append-nil (w (get_or xs i z))))
      ∙ sym (each_append (take i xs) (get_or xs i z ∷ []))
      ∙ ap (each w) (sym (take-suc xs i z h))
      ∙ ap (λ (k : ℕ). each w (take k xs)) (sym (add-one i))

  -- no item yet
  pub each_none : (xs : List A) (d : List ℕ) → Step (each w (take 0 xs)) d 0 d
  unfolding each
  each_none xs d = step_nothing d

pub capped : {bs d d' : List ℕ} {r : ℕ} → Step bs d r d' → Capped bs d r d'
capped s = record { count = ap cap s.count; long = s.long; stored = λ h k. s.stored k }

-- the same bytes, said otherwise
pub capped_as : {bs cs d d' : List ℕ} {r : ℕ} → bs ≡ cs → Capped bs d r d' → Capped cs d r d'
capped_as {bs} {cs} {d} {d'} {r} e s = subst (λ (x : List ℕ). Capped x d r d') e s

-- bytes that a version may lack
module _ (f : Bool) where
  pub capped_there : f ≡ true → {bs d d' : List ℕ} {r : ℕ} → Capped bs d r d' → Capped (cond f bs []) d r d'
  capped_there h s = rw h s

  pub capped_lacking : f ≡ false → (bs d : List ℕ) → Capped (cond f bs []) d 0 d
  capped_lacking h bs d = rw h (capped (step_nothing d))

-- a count up to the limit is the bytes'; one over it says that they are over it
module _ {bs d d' : List ℕ} {r : ℕ} (s : Capped bs d r d') where
  pub capped_count : r ≤ most → r ≡ length bs
  capped_count h = omega (arith, s.count)

  pub capped_over : most < r → most < length bs
  capped_over h = omega (arith, s.count)

  step : length bs ≤ most → Step bs d (length bs) d'
  step h = record { count = omega arith; long = s.long; stored = s.stored h }

cap_add : (n m a b : ℕ) → cap n ≡ cap a → cap m ≡ cap b → cap (n + m) ≡ cap (a + b)
cap_add n m a b h k = omega arith

-- bs behind fs, as a call with `&mut out[at..]` leaves it, where `at` is the place behind fs or the end, and r counts both
pub capped_behind : {fs d d₁ : List ℕ} {n : ℕ} {bs e : List ℕ} {m : ℕ} → Capped fs d n d₁ → (at : ℕ) → at ≡ min n (length d₁) → Capped bs (mid_of at (length d₁ - at) d₁) m e → (r : ℕ) → cap r ≡ cap (n + m) → Capped (fs ++ bs) d r (put_mid at (length d₁ - at) d₁ e)
capped_behind {fs} {d} {d₁} {n} {bs} {e} {m} s at i t r k = record {
  count = k ∙ cap_add n m (length fs) (length bs) s.count t.count ∙ ap cap (sym (length-append fs bs));
  long = same_len_mid at (length d₁ - at) d₁ e t.long ∙ s.long;
  stored = λ h j.
      let l : length fs ≤ most = omega (arith, length-append fs bs) in
      let u : length bs ≤ most = omega (arith, length-append fs bs) in
      (step_behind (step s l) at (omega (arith, s.count)) (step t u)).stored j;
}

module _ {A : Type 0} (w : A → List ℕ) (xs : List A) where
  -- no item yet
  pub capped_none : (d : List ℕ) → Capped (each w (take 0 xs)) d 0 d
  capped_none d = capped (each_none w xs d)

  -- one item more
  pub capped_next : (i : ℕ) (z : A) → i < length xs → {d d₁ e : List ℕ} {n m : ℕ} → Capped (each w (take i xs)) d n d₁ → (at : ℕ) → at ≡ min n (length d₁) → Capped (w (get_or xs i z)) (mid_of at (length d₁ - at) d₁) m e → (r : ℕ) → cap r ≡ cap (n + m) → Capped (each w (take (i + 1) xs)) d r (put_mid at (length d₁ - at) d₁ e)
  capped_next i z h s at j t r k = capped_as (each_next w xs i z h) (capped_behind s at j t r k)

  -- all of them
  pub capped_all : (i : ℕ) {d d' : List ℕ} {n : ℕ} → length xs ≤ i → Capped (each w (take i xs)) d n d' → Capped (each w xs) d n d'
  capped_all i h s = capped_as (ap (each w) (take_all i xs h)) s
