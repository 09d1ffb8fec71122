-- Bytes copied, at once and in parts, of which the last may overlap the one before; and what stands behind its length.
use mathlib.Core.List.{List, [], ◌++◌, ◌∷◌, append_assoc, append-nil}
use mathlib.Core.Path.{◌∙◌, ◌≡◌, ap, ap₂, refl, subst, sym}
use Prim.Native.Nat.{◌+◌, ◌-◌, ◌<◌, ◌≤◌, suc, ℕ}
use native.Mathlib.Nat.{zero-add}
use native.Mathlib.Numerals.{add-one}
use native.Mathlib.Omega.{arith}
use lib.ListN.{drop, drop_of_length-le, get_or, length, length-append, length-drop, length-set, set, take}
use lib.Seq.{drop-append_seam, drop-drop, length-take-le, paste, paste-suc, paste-zero, sets, sets-eq, take-add, take_all, take-append_seam, take-take}
use borrow.Rule.Slice.PartMut.{mid_of, put_mid}
use Rattle.layout.specs.Primitives.{Size, compact, fixed, length_bytes, plain, w16, w32, w64, w8}
use Rattle.primitives_put.specs.Step.{Step}
use Rattle.primitives_put.specs.Put.{Put, behind_length}
use Rattle.layout.proofs.Back.{length_bytes_lem}
use Rattle.primitives_put.proofs.Capped.{step_lent}
use Rattle.primitives_put.proofs.Shortest.{unsigned_length}
use Rattle.primitives_put.proofs.Stored.{put_all, put_none, put_step, step_put}

-- the first p bytes of s are copied to the front of d
pub record Copied (d s out : List ℕ) (p : ℕ) : Type 0 where
  pub below : p ≤ length s
  pub room : length s ≤ length d
  pub long : length out ≡ length d
  pub same : out ≡ paste d 0 s p

module _ (d s : List ℕ) where
  pub copied_start : length s ≤ length d → Copied d s d 0
  copied_start h = record { below = omega arith; room = h; long = refl; same = paste-zero d 0 s }

  module _ (out : List ℕ) (p : ℕ) (a : Copied d s out p) where
    pub copied_again : p < length s → Copied d s (set out p (get_or s p 0)) (p + 1)
    copied_again h = record {
      below = omega arith;
      room = a.room;
      long = length-set out p (get_or s p 0) ∙ a.long;
      same =
          ap₂ (λ (o : List ℕ) (j : ℕ). set o j (get_or s p 0)) a.same (sym (zero-add p))
          ∙ paste-suc d 0 s p 0 (omega (arith, a.room)) h
          ∙ ap (paste d 0 s) (sym (add-one p));
    }

    pub copied_end : length s ≤ p → Put s d (length s) out
    copied_end h =
        let e : 0 + p ≡ length s = omega (arith, a.below) in
        put_all s d (length s) refl out a.room (a.same ∙ ap₂ (λ (x : List ℕ) (j : ℕ). x ++ drop j d) (take_all p s h) e)

-- a length takes ten bytes at most
pub length_small : (z : Size) (n : ℕ) → length (length_bytes z n) ≤ 10
unfolding length_bytes
length_small (fixed w8 m) n = omega (arith, length_bytes_lem 1 n)
length_small (fixed w16 m) n = omega (arith, length_bytes_lem 2 n)
length_small (fixed w32 m) n = omega (arith, length_bytes_lem 4 n)
length_small (fixed w64 m) n = omega (arith, length_bytes_lem 8 n)
length_small (compact m) n = (unsigned_length (n + 1)).1
length_small plain n = (unsigned_length n).1

-- a length, and what it is the length of behind it
module _ (z : Size) (x d : List ℕ) where
  pub sized_all : {d₁ e : List ℕ} {h n m : ℕ} → h ≡ length (length_bytes z (length x)) → h + length x ≤ length d → Put (length_bytes z (length x)) d n d₁ → Put x (mid_of h (length d₁ - h) d₁) m e → Put (behind_length z x) d (h + length x) (put_mid h (length d₁ - h) d₁ e)
  unfolding behind_length
  sized_all {d₁} {e} {h} {n} {m} i r p q =
      let a : Step (length_bytes z (length x)) d h d₁ = subst (λ (k : ℕ). Step (length_bytes z (length x)) d k d₁) (p.count ∙ sym i) (put_step p) in
      let b : Step x (mid_of h (length d₁ - h) d₁) (length x) e = subst (λ (k : ℕ). Step x (mid_of h (length d₁ - h) d₁) k e) q.count (put_step q) in
      step_put (omega (arith, length-append (length_bytes z (length x)) x)) (step_lent a (omega (arith, a.long)) b)

  pub sized_none : {h : ℕ} → h ≡ length (length_bytes z (length x)) → length d < h + length x → Put (behind_length z x) d (h + length x) d
  unfolding behind_length
  sized_none {h} i r = put_none _ d (h + length x) (omega (arith, length-append (length_bytes z (length x)) x)) r

-- the first eight
pub first_eight : (x d : List ℕ) → 8 ≤ length x → 8 ≤ length d → sets d 0 (get_or x 0 0 ∷ get_or x 1 0 ∷ get_or x 2 0 ∷ get_or x 3 0 ∷ get_or x 4 0 ∷ get_or x 5 0 ∷ get_or x 6 0 ∷ get_or x 7 0 ∷ []) ≡ take 8 x ++ drop 8 d
first_eight [] d h l = absurd (omega arith)
first_eight (a ∷ []) d h l = absurd (omega arith)
first_eight (a ∷ b ∷ []) d h l = absurd (omega arith)
first_eight (a ∷ b ∷ e ∷ []) d h l = absurd (omega arith)
first_eight (a ∷ b ∷ e ∷ f ∷ []) d h l = absurd (omega arith)
first_eight (a ∷ b ∷ e ∷ f ∷ g ∷ []) d h l = absurd (omega arith)
first_eight (a ∷ b ∷ e ∷ f ∷ g ∷ i ∷ []) d h l = absurd (omega arith)
first_eight (a ∷ b ∷ e ∷ f ∷ g ∷ i ∷ j ∷ []) d h l = absurd (omega arith)
first_eight (a ∷ b ∷ e ∷ f ∷ g ∷ i ∷ j ∷ k ∷ x) d h l = sets-eq (a ∷ b ∷ e ∷ f ∷ g ∷ i ∷ j ∷ k ∷ []) d 0 (omega arith)

-- stores leave the room as it is
pub sets_long : (xs d : List ℕ) (i : ℕ) → length (sets d i xs) ≡ length d
sets_long [] d i = refl
sets_long (x ∷ xs) d i = sets_long xs (set d i x) (suc i) ∙ length-set d i x

pub sets_inside : (xs d : List ℕ) (i k : ℕ) → k < length d → k < length (sets d i xs)
sets_inside xs d i k h = omega (arith, sets_long xs d i)

module _ (k : ℕ) (x d : List ℕ) (least : k ≤ length x) (room : length x ≤ length d) {d₁ : List ℕ} (first : d₁ ≡ take k x ++ drop k d) where
  front : take k d₁ ≡ take k x
  front = ap₂ take (sym (length-take-le k x least)) first ∙ take-append_seam (take k x) (drop k d)

  behind : drop k d₁ ≡ drop k d
  behind = ap₂ drop (sym (length-take-le k x least)) first ∙ drop-append_seam (take k x) (drop k d)

  still_long : length d₁ ≡ length d
  still_long = ap length first ∙ length-append (take k x) (drop k d) ∙ omega (arith, length-take-le k x least, length-drop k d)

  -- j bytes from `at` on, over the end of the first part or right behind it
  pub part_more : (at j : ℕ) → at ≤ k → k ≤ at + j → at + j ≤ length x → {e : List ℕ} → e ≡ take j (mid_of at (length x - at) x) ++ drop j (mid_of at (length d₁ - at) d₁) →
      put_mid at (length d₁ - at) d₁ e ≡ take (at + j) x ++ drop (at + j) d
  part_more at j h i l {e} last =
      let a : take at d₁ ≡ take at x = sym (take-take at k d₁ h) ∙ ap (take at) front ∙ take-take at k x h in
      let b : take j (mid_of at (length x - at) x) ≡ take j (drop at x) = ap (take j) (take_all (length x - at) (drop at x) (omega (arith, length-drop at x))) in
      let s : k + (at + j - k) ≡ at + j = omega arith in
      let g : drop j (mid_of at (length d₁ - at) d₁) ≡ drop (at + j) d =
      ap (drop j) (take_all (length d₁ - at) (drop at d₁) (omega (arith, length-drop at d₁))) ∙ drop-drop j at d₁ ∙ ap (λ (m : ℕ). drop m d₁) (sym s)
      ∙ sym (drop-drop (at + j - k) k d₁) ∙ ap (drop (at + j - k)) behind ∙ drop-drop (at + j - k) k d ∙ ap (λ (m : ℕ). drop m d) s in
      let n : drop (length d₁ - at) (drop at d₁) ≡ [] = drop_of_length-le (drop at d₁) {i = length d₁ - at} (omega (arith, length-drop at d₁)) in
      ap₂ (λ (y z : List ℕ). y ++ (e ++ z)) a n
      ∙ ap (λ (y : List ℕ). take at x ++ y) (append-nil e ∙ last ∙ ap₂ (λ (y z : List ℕ). y ++ z) b g)
      ∙ sym (append_assoc (take at x) (take j (drop at x)) (drop (at + j) d))
      ∙ ap (λ (y : List ℕ). y ++ drop (at + j) d) (sym (take-add at j x))

  -- the last j
  pub last_part : (j : ℕ) → j ≤ length x → length x ≤ k + j → {e : List ℕ} → e ≡ take j (mid_of (length x - j) (length x - (length x - j)) x) ++ drop j (mid_of (length x - j) (length d₁ - (length x - j)) d₁) →
      Put x d (length x) (put_mid (length x - j) (length d₁ - (length x - j)) d₁ e)
  last_part j h most {e} last =
      let s : length x - j + j ≡ length x = omega arith in
      put_all x d (length x) refl _ room
      (part_more (length x - j) j (omega arith) (omega arith) (omega arith) last
      ∙ ap₂ (λ (y : List ℕ) (m : ℕ). y ++ drop m d) (take_all (length x - j + j) x (omega arith)) s)

-- ---- eight behind eight

module _ {d x out : List ℕ} {p : ℕ} (a : Copied d x out p) where
  first : out ≡ take p x ++ drop p d
  first = a.same ∙ ap (λ (j : ℕ). take p x ++ drop j d) (zero-add p)

  pub eight_more : 8 < length x - p → {e : List ℕ} → e ≡ take 8 (mid_of p (length x - p) x) ++ drop 8 (mid_of p (length out - p) out) → Copied d x (put_mid p (length out - p) out e) (p + 8)
  eight_more h {e} q =
      let l : p + 8 ≤ length x = omega arith in
      let s : put_mid p (length out - p) out e ≡ take (p + 8) x ++ drop (p + 8) d = part_more p x d a.below a.room first p 8 (omega arith) (omega arith) l q in
      record { below = l; room = a.room; long = still_long (p + 8) x d l a.room s; same = s ∙ ap (λ (j : ℕ). take (p + 8) x ++ drop j d) (sym (zero-add (p + 8))) }

  pub eights_end : 8 ≤ length x → length x - p ≤ 8 → {e : List ℕ} → e ≡ take 8 (mid_of (length x - 8) (length x - (length x - 8)) x) ++ drop 8 (mid_of (length x - 8) (length out - (length x - 8)) out) →
      Put x d (length x) (put_mid (length x - 8) (length out - (length x - 8)) out e)
  eights_end h l q = last_part p x d a.below a.room first 8 h (omega arith) q
