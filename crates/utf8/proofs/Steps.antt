-- A text walked character by character, and the bytes behind a character's first, range by range. Assumes nothing.
use mathlib.Core.Bool.{Bool, false, true}
use mathlib.Core.List.{List, [], ◌∷◌}
use mathlib.Core.Path.{◌∙◌, ◌≡◌, ap, refl, subst, sym}
use Prim.Native.Nat.{◌+◌, ◌-◌, ◌<◌, ◌≤◌, suc, zero, ℕ}
use native.Mathlib.Omega.{arith}
use lib.ListN.{drop, get_or, length, length-drop}
use lib.Seq.{drop-cons, drop-drop}
use borrow.Author.Tests.{le-leb}
use Rattle.layout.specs.Utf8.{Range, begins, characters, first, well_formed, within}
use Rattle.utf8.specs.Class.{Along, Ascii, Ended, after}
use Rattle.layout.proofs.Text.{begins_at, begins_cut, characters_rise, first_at, first_fits, front_fits, front_step, front_stop}

-- a byte outside its range ends it, and one inside is passed
bad : (r : Range) (rs : List Range) (s : List ℕ) (i : ℕ) → i < length s → within r (get_or s i 0) ≡ false → begins (r ∷ rs) (drop i s) ≡ false
bad r rs s i h e = rw (begins_at r rs s i (i + 1) h refl, e)

good : (r : Range) (rs : List Range) (s : List ℕ) (i j : ℕ) → i < length s → j ≡ i + 1 → within r (get_or s i 0) ≡ true → begins (r ∷ rs) (drop i s) ≡ begins rs (drop j s)
good r rs s i j h k e = rw (begins_at r rs s i j h k, e)

last : (r : Range) (s : List ℕ) (i : ℕ) → i < length s → within r (get_or s i 0) ≡ true → begins (r ∷ []) (drop i s) ≡ true
unfolding begins
last r s i h e = good r [] s i (i + 1) h refl e

stops : (rs : List Range) (s : List ℕ) → begins rs s ≡ false → 0 ≡ after rs s
unfolding after
stops rs s e = rw e

goes : (rs : List Range) (s : List ℕ) → begins rs s ≡ true → suc (length rs) ≡ after rs s
unfolding after
goes rs s e = rw e

-- the character is cut
pub cut : (rs : List Range) (s : List ℕ) (at : ℕ) → length s - at < suc (length rs) → at < length s → 0 ≡ after rs (drop (at + 1) s)
cut rs s at h g = stops rs (drop (at + 1) s) (begins_cut rs (drop (at + 1) s) (omega (arith, length-drop (at + 1) s)))

-- no character is cut below, and b, d and f tell whether the second byte, the third and the fourth are in their ranges
module _ (s : List ℕ) (at : ℕ) (r : Range) (b : Bool) (known : b ≡ within r (get_or s (at + 1) 0)) where
  pub bad_2 : (rs : List Range) → suc (length (r ∷ rs)) ≤ length s - at → b ≡ false → 0 ≡ after (r ∷ rs) (drop (at + 1) s)
  bad_2 rs h e = stops (r ∷ rs) (drop (at + 1) s) (bad r rs s (at + 1) (omega arith) (sym known ∙ e))

  pub whole_2 : 2 ≤ length s - at → b ≡ true → 2 ≡ after (r ∷ []) (drop (at + 1) s)
  whole_2 h e = goes (r ∷ []) (drop (at + 1) s) (last r s (at + 1) (omega arith) (sym known ∙ e))

  module _ (q : Range) (d : Bool) (known-d : d ≡ within q (get_or s (at + 2) 0)) (is_b : b ≡ true) where
    to_3 : (rs : List Range) → 3 ≤ length s - at → begins (r ∷ rs) (drop (at + 1) s) ≡ begins rs (drop (at + 2) s)
    to_3 rs h = good r rs s (at + 1) (at + 2) (omega arith) (omega arith) (sym known ∙ is_b)

    pub bad_3 : (rs : List Range) → suc (length (r ∷ q ∷ rs)) ≤ length s - at → d ≡ false → 0 ≡ after (r ∷ q ∷ rs) (drop (at + 1) s)
    bad_3 rs h e = stops (r ∷ q ∷ rs) (drop (at + 1) s) (to_3 (q ∷ rs) (omega arith) ∙ bad q rs s (at + 2) (omega arith) (sym known-d ∙ e))

    pub whole_3 : 3 ≤ length s - at → d ≡ true → 3 ≡ after (r ∷ q ∷ []) (drop (at + 1) s)
    whole_3 h e = goes (r ∷ q ∷ []) (drop (at + 1) s) (to_3 (q ∷ []) h ∙ last q s (at + 2) (omega arith) (sym known-d ∙ e))

    module _ (p : Range) (f : Bool) (known-f : f ≡ within p (get_or s (at + 3) 0)) (is-d : d ≡ true) (fits : 4 ≤ length s - at) where
      to_4 : (rs : List Range) → begins (r ∷ q ∷ rs) (drop (at + 1) s) ≡ begins rs (drop (at + 3) s)
      to_4 rs = to_3 (q ∷ rs) (omega arith) ∙ good q rs s (at + 2) (at + 3) (omega arith) (omega arith) (sym known-d ∙ is-d)

      pub bad_4 : f ≡ false → 0 ≡ after (r ∷ q ∷ p ∷ []) (drop (at + 1) s)
      bad_4 e = stops (r ∷ q ∷ p ∷ []) (drop (at + 1) s) (to_4 (p ∷ []) ∙ bad p [] s (at + 3) (omega arith) (sym known-f ∙ e))

      pub whole_4 : f ≡ true → 4 ≡ after (r ∷ q ∷ p ∷ []) (drop (at + 1) s)
      whole_4 e = goes (r ∷ q ∷ p ∷ []) (drop (at + 1) s) (to_4 (p ∷ []) ∙ last p s (at + 3) (omega arith) (sym known-f ∙ e))

pub start : (s : List ℕ) → Along s 0
start s = record { fits = omega arith; kept = omega arith }

pub fits_on : (s : List ℕ) (at n : ℕ) → Along s at → n ≡ first characters (drop at s) → at + n ≤ length s
fits_on s at n a e = let f = a.fits in omega (arith, first_fits characters (drop at s), length-drop at s)

pub next : (s : List ℕ) (at n : ℕ) → Along s at → n ≡ first characters (drop at s) → Along s (at + n)
next s at n a e =
    let k = a.kept in
    let f = front_step (drop at s) n (sym e) in
    let d = ap well_formed (drop-drop n at s) in
    record { fits = fits_on s at n a e; kept = omega arith }

-- an ASCII byte is a character
ascii : (b : ℕ) (s : List ℕ) → b < 128 → first characters (b ∷ s) ≡ 1
unfolding characters begins within
ascii b s h = first_at 0 (0, 0x7F) [] _ characters_rise b s (rw (le-leb 0 b (omega arith), le-leb b 0x7F (omega arith)))

pub next_ascii : (s : List ℕ) (at : ℕ) → Along s at → at < length s → get_or s at 0 < 128 → Along s (at + 1)
next_ascii s at a h g = next s at 1 a (sym (ap (first characters) (drop-cons s at 0 h) ∙ ascii (get_or s at 0) (drop (suc at) s) g))

next_all : (s : List ℕ) (at n : ℕ) → Along s at → at + n ≤ length s → ((i : ℕ) → i < n → get_or s (at + i) 0 < 128) → Along s (at + n)
next_all s at zero a h f = subst (Along s) (omega arith) a
next_all s at (suc n) a h f =
    let b = next_all s at n a (omega arith) (λ i g. f i (omega arith)) in
    subst (Along s) (omega arith) (next_ascii s (at + n) b (omega arith) (f n (omega arith)))

pub next_eight : (s : List ℕ) (at : ℕ) (r : Bool) → Along s at → 8 ≤ length s - at → Ascii s at r → r ≡ true → Along s (at + 8)
next_eight s at r a h b e = next_all s at 8 a (omega arith) (b.each e)

-- the last eight bytes have those that are left
pub ended_eight : (s : List ℕ) (from : ℕ) (r : Bool) → Along s from → 8 ≤ length s → length s - 8 ≤ from → Ascii s (length s - 8) r → Ended s r
ended_eight s from r a h l b = record {
  all = λ e.
      let f = a.fits in
      let n : from + (length s - from) ≡ length s = omega arith in
      subst (Along s) n (next_all s from (length s - from) a (omega arith) (λ i g.
      let d : length s - 8 + (from + i - (length s - 8)) ≡ from + i = omega arith in
      subst (λ (k : ℕ). get_or s k 0 < 128) d (b.each e (from + i - (length s - 8)) (omega arith))));
}

pub not_ended : (s : List ℕ) → Ended s false
not_ended s = record { all = λ e. let z : ◌≡◌ {A = ℕ} 0 1 = cc in absurd (omega arith) }

pub stop : (s : List ℕ) (at n : ℕ) → Along s at → n ≡ first characters (drop at s) → n ≡ 0 → at ≡ well_formed s
stop s at n a e z = let k = a.kept in omega (arith, front_stop (drop at s) (sym e ∙ z))

pub end : (s : List ℕ) (at : ℕ) → Along s at → length s ≤ at → at ≡ well_formed s
end s at a h = let k = a.kept in omega (arith, front_fits (drop at s), length-drop at s)
