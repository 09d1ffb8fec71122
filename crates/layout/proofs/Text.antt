-- Text is what the grammar says, UTF8-octets = *( UTF8-char ): the beginning that well_formed tells is text, no longer one is, and behind it no character begins.
use mathlib.Core.Bool.{Bool, ◌&&◌, and-eq-true_iff, and-false, cond, false, false≢true, true}
use mathlib.Core.List.Memᴰ
use mathlib.Core.List.{List, Memᴰ, [], ◌++◌, ◌∷◌, append_assoc, append-nil}
use mathlib.Core.Logic.{inl, inr}
use mathlib.Core.Path.{◌∙◌, ◌≡◌, ap, refl, subst, sym}
use Prim.Native.Nat.{◌+◌, ◌-◌, ◌<◌, ◌≤◌, suc, zero, ℕ}
use native.Mathlib.Numerals.{add-one}
use native.Mathlib.Omega.{arith}
use lib.Dec.{eqb, eqb-suc-zero, leb}
use lib.ListN.{drop, get_or, length, length-append, length-drop, take, take-append-drop}
use lib.Seq.{drop-append_seam, drop-cons, drop-drop, length-take-le, take-add, take-length}
use borrow.Author.Tests.{eq-eqb}
use Rattle.layout.specs.Utf8.{Range, begins, characters, first, utf8, well_formed, well_formed_from, within}
use Rattle.layout.proofs.Tests.{by_test, by_zero, le-false, of_eq, of_le}

-- one of the alternatives of UTF8-char
abbrev pub Alternative : List Range → Type 0
Alternative c = Memᴰ c characters

-- UTF8-octets
pub data Octets : List ℕ → Type 0 where
  none : Octets []
  more : (c : List Range) (x s : List ℕ) → Alternative c → length x ≡ length c → begins c x ≡ true → Octets s → Octets (x ++ s)

-- ---- one alternative

begins_cons : (r : Range) (rs : List Range) (b : ℕ) (s : List ℕ) → begins (r ∷ rs) (b ∷ s) ≡ true → (within r b ≡ true) × (begins rs s ≡ true)
unfolding begins
begins_cons r rs b s e = (and-eq-true_iff (within r b) (begins rs s)).0 e

begins_fits : (c : List Range) (s : List ℕ) → begins c s ≡ true → length c ≤ length s
unfolding begins
begins_fits [] s e = omega arith
begins_fits (r ∷ rs) [] e = absurd (false≢true e)
begins_fits (r ∷ rs) (b ∷ s) e = let h = begins_fits rs s (begins_cons r rs b s e).1 in omega arith

-- a text that is too short begins with none
pub begins_cut : (c : List Range) (s : List ℕ) → length s < length c → begins c s ≡ false
begins_cut c s h = by_test (begins c s) (λ e. let f = begins_fits c s e in absurd (omega arith)) (λ e. e)

-- one byte of it, at a place of the whole
pub begins_at : (r : Range) (rs : List Range) (s : List ℕ) (i j : ℕ) → i < length s → j ≡ i + 1 → begins (r ∷ rs) (drop i s) ≡ (within r (get_or s i 0) && begins rs (drop j s))
unfolding begins
begins_at r rs s i j h e = rw (e, add-one, drop-cons s i 0)

begins_front : (c : List Range) (s : List ℕ) → begins c s ≡ true → begins c (take (length c) s) ≡ true
unfolding begins
begins_front [] s e = refl
begins_front (r ∷ rs) [] e = e
begins_front (r ∷ rs) (b ∷ s) e = let h = begins_cons r rs b s e in rw (h.0, begins_front rs s h.1)

begins_more : (c : List Range) (x t : List ℕ) → begins c x ≡ true → begins c (x ++ t) ≡ true
unfolding begins
begins_more [] x t e = refl
begins_more (r ∷ rs) [] t e = absurd (false≢true e)
begins_more (r ∷ rs) (b ∷ x) t e = let h = begins_cons r rs b x e in rw (h.0, begins_more rs x t h.1)

-- ---- the first alternative that fits

record Found (cs : List (List Range)) (s : List ℕ) (n : ℕ) : Type 0 where
  c : List Range
  listed : Memᴰ c cs
  size : length c ≡ n
  begun : begins c s ≡ true

found : (cs : List (List Range)) (s : List ℕ) → 0 < first cs s → Found cs s (first cs s)
unfolding first
found [] s h = absurd (omega arith)
found (c ∷ cs) s h =
    by_test (begins c s) (λ e. rw e (record { c = c; listed = Memᴰ.head refl; size = refl; begun = e }))
    (λ e. let k = found cs s (rw e at h) in rw e (record { c = k.c; listed = Memᴰ.tail k.listed; size = k.size; begun = k.begun }))

pub first_fits : (cs : List (List Range)) (s : List ℕ) → first cs s ≤ length s
first_fits cs s = by_zero (first cs s) (λ e. omega arith) (λ h. let k = found cs s h in omega (arith, k.size, begins_fits k.c s k.begun))

-- ---- alternatives exclude each other by their first byte

-- the first ranges rise, from n on
unfoldable pub rising : ℕ → List (List Range) → Bool
rising n [] = true
rising n ([] ∷ cs) = false
rising n ((r ∷ rs) ∷ cs) = leb n r.0 && (leb r.0 r.1 && rising (suc r.1) cs)

pub characters_rise : rising 0 characters ≡ true
unfolding rising characters
characters_rise = refl

record Rising (n : ℕ) (r : Range) (cs : List (List Range)) : Type 0 where
  low : n ≤ r.0
  high : r.0 ≤ r.1
  rest : rising (suc r.1) cs ≡ true

rising_cons : (n : ℕ) (r : Range) (rs : List Range) (cs : List (List Range)) → rising n ((r ∷ rs) ∷ cs) ≡ true → Rising n r cs
unfolding rising
rising_cons n r rs cs k =
    let a = (and-eq-true_iff (leb n r.0) (leb r.0 r.1 && rising (suc r.1) cs)).0 k in
    let b = (and-eq-true_iff (leb r.0 r.1) (rising (suc r.1) cs)).0 a.1 in
    record { low = of_le n r.0 a.0; high = of_le r.0 r.1 b.0; rest = b.1 }

within_inv : (r : Range) (b : ℕ) → within r b ≡ true → (r.0 ≤ b) × (b ≤ r.1)
unfolding within
within_inv r b e = let a = (and-eq-true_iff (leb r.0 b) (leb b r.1)).0 e in (of_le r.0 b a.0, of_le b r.1 a.1)

within_beyond : (r : Range) (b : ℕ) → r.1 < b → within r b ≡ false
unfolding within
within_beyond r b h = rw (le-false b r.1 h) (and-false (leb r.0 b))

-- what holds of an alternative where it stands, and passes each one in front of it, holds of it in the list
module _ (c : List Range) (P : ℕ → List (List Range) → Type 0)
    (here : (n : ℕ) (r : Range) (rs : List Range) (cs : List (List Range)) → Rising n r cs → c ≡ r ∷ rs → P n ((r ∷ rs) ∷ cs))
    (past : (n : ℕ) (r : Range) (rs : List Range) (cs : List (List Range)) → Rising n r cs → Memᴰ c cs → P (suc r.1) cs → P n ((r ∷ rs) ∷ cs)) where
  where_listed : (n : ℕ) (cs : List (List Range)) → rising n cs ≡ true → Memᴰ c cs → P n cs
  unfolding rising
  where_listed n [] k m = absurd (Memᴰ.not-nil m)
  where_listed n ([] ∷ cs) k m = absurd (false≢true k)
  where_listed n ((r ∷ rs) ∷ cs) k m =
      let h = rising_cons n r rs cs k in
      elim (Memᴰ.cases_cons m) as (λ x. P n ((r ∷ rs) ∷ cs)) [ inl i ↦ here n r rs cs h i | inr l ↦ past n r rs cs h l (where_listed (suc r.1) cs h.rest l) ]

begins_from : (c : List Range) (b : ℕ) (s : List ℕ) → begins c (b ∷ s) ≡ true → (n : ℕ) (cs : List (List Range)) → rising n cs ≡ true → Memᴰ c cs → n ≤ b
begins_from c b s e =
    where_listed c (λ n cs. n ≤ b)
    (λ n r rs cs h i. omega (arith, (within_inv r b (begins_cons r rs b s (rw i at e)).0).0))
    (λ n r rs cs h l g. omega arith)

apart : (c : List Range) (s : List ℕ) → begins c s ≡ true → (r : Range) (rs : List Range) (cs : List (List Range)) → rising (suc r.1) cs ≡ true → Memᴰ c cs → begins (r ∷ rs) s ≡ false
unfolding begins
apart c [] e r rs cs k m = refl
apart c (b ∷ s) e r rs cs k m = rw (within_beyond r b (begins_from c b s e (suc r.1) cs k m))

-- ---- the first byte picks the alternative

below : (n : ℕ) (cs : List (List Range)) → rising n cs ≡ true → (b : ℕ) (s : List ℕ) → b < n → first cs (b ∷ s) ≡ 0
below n cs k b s h = by_zero (first cs (b ∷ s)) (λ e. e) (λ p. let f = found cs (b ∷ s) p in absurd (omega (arith, begins_from f.c b s f.begun n cs k f.listed)))

pub rising_rest : (n : ℕ) (r : Range) (rs : List Range) (cs : List (List Range)) → rising n ((r ∷ rs) ∷ cs) ≡ true → rising (suc r.1) cs ≡ true
rising_rest n r rs cs k = (rising_cons n r rs cs k).rest

-- in its range the rest of it decides, for no later one has the byte in its range
pub first_at : (n : ℕ) (r : Range) (rs : List Range) (cs : List (List Range)) → rising n ((r ∷ rs) ∷ cs) ≡ true → (b : ℕ) (s : List ℕ) → within r b ≡ true → first ((r ∷ rs) ∷ cs) (b ∷ s) ≡ cond (begins rs s) (suc (length rs)) 0
unfolding first begins
first_at n r rs cs k b s w =
    rw w (by_test (begins rs s) (λ d. rw d) (λ d. rw d (below (suc r.1) cs (rising_rest n r rs cs k) b s (omega (arith, (within_inv r b w).1)))))

pub first_past : (r : Range) (rs : List Range) (cs : List (List Range)) (b : ℕ) (s : List ℕ) → within r b ≡ false → first ((r ∷ rs) ∷ cs) (b ∷ s) ≡ first cs (b ∷ s)
unfolding first begins
first_past r rs cs b s w = rw w

first_is : (c : List Range) → Alternative c → (s : List ℕ) → begins c s ≡ true → first characters s ≡ length c
unfolding first
first_is c m s e =
    where_listed c (λ n cs. first cs s ≡ length c)
    (λ n r rs cs h i. rw (rw i at e) (ap length (sym i)))
    (λ n r rs cs h l g. rw (apart c s e r rs cs h.rest l) g)
    0 characters characters_rise m

-- ---- one character of a text

-- bytes of a character still to come are passed
passed : (k : ℕ) (s : List ℕ) → k ≤ length s → well_formed_from k s ≡ k + well_formed (drop k s)
unfolding well_formed well_formed_from
passed zero s h = omega arith
passed (suc k) [] h = absurd (omega arith)
passed (suc k) (b ∷ s) h = let d = passed k s (omega arith) in omega arith

pub front_stop : (s : List ℕ) → first characters s ≡ 0 → well_formed s ≡ 0
unfolding well_formed well_formed_from
front_stop [] e = refl
front_stop (b ∷ s) e = ap (λ (n : ℕ). cond (eqb n 0) 0 (suc (well_formed_from (n - 1) s))) e

pub front_step : (s : List ℕ) (n : ℕ) → first characters s ≡ n → well_formed s ≡ n + well_formed (drop n s)
unfolding well_formed well_formed_from
front_step s zero e = omega arith
front_step [] (suc n) e = let h = first_fits characters [] in absurd (omega arith)
front_step (b ∷ s) (suc n) e =
    let h = first_fits characters (b ∷ s) in
    let d : suc n - 1 ≡ n = omega arith in
    let f = passed n s (omega arith) in
    ap (λ (m : ℕ). cond (eqb m 0) 0 (suc (well_formed_from (m - 1) s))) e ∙ rw (eqb-suc-zero n, d, f) (omega arith)

-- ---- the whole text

record Parts (s : List ℕ) : Type 0 where
  fits : well_formed s ≤ length s
  front : Octets (take (well_formed s) s)
  stop : first characters (drop (well_formed s) s) ≡ 0

parts_none : (s : List ℕ) → first characters s ≡ 0 → Parts s
parts_none s e =
    let w = front_stop s e in
    record { fits = omega arith; front = subst (λ (n : ℕ). Octets (take n s)) (sym w) none; stop = subst (λ (n : ℕ). first characters (drop n s) ≡ 0) (sym w) e }

parts_more : (s : List ℕ) (n : ℕ) → first characters s ≡ n → 0 < n → Parts (drop n s) → Parts s
parts_more s n e h p =
    let m = well_formed (drop n s) in
    let w = front_step s n e in
    let g = first_fits characters s in
    let f = p.fits in
    let k = found characters s (omega arith) in
    let z : length k.c ≡ n = k.size ∙ e in
    let l : length (take n s) ≡ length k.c = length-take-le n s (omega arith) ∙ sym z in
    let b : begins k.c (take n s) ≡ true = subst (λ (j : ℕ). begins k.c (take j s) ≡ true) z (begins_front k.c s k.begun) in
    record {
      fits = omega (arith, length-drop n s);
      front = subst Octets (sym (ap (λ (j : ℕ). take j s) w ∙ take-add n m s)) (more k.c (take n s) (take m (drop n s)) k.listed l b p.front);
      stop = subst (λ (u : List ℕ). first characters u ≡ 0) (drop-drop m n s ∙ ap (λ (j : ℕ). drop j s) (sym w)) p.stop;
    }

parts_upto : (k : ℕ) (s : List ℕ) → length s ≤ k → Parts s
parts_upto zero s h = let g = first_fits characters s in parts_none s (omega arith)
parts_upto (suc k) s h =
    let n = first characters s in
    by_zero n (parts_none s) (λ p. parts_more s n refl p (parts_upto k (drop n s) (omega (arith, length-drop n s))))

parts : (s : List ℕ) → Parts s
parts s = parts_upto (length s) s (omega arith)

octets_through : (a b : List ℕ) → Octets a → well_formed (a ++ b) ≡ length a + well_formed b
octets_through a b none = omega arith
octets_through a b (more c x s m l e o) =
    let f : first characters (x ++ (s ++ b)) ≡ length x = first_is c m (x ++ (s ++ b)) (begins_more c x (s ++ b) e) ∙ sym l in
    rw (append_assoc, front_step (x ++ (s ++ b)) (length x) f, drop-append_seam x (s ++ b), octets_through s b o, length-append) (omega arith)

pub octets_utf8 : (s : List ℕ) → Octets s → utf8 s ≡ true
unfolding utf8
octets_utf8 s o =
    let d = ap well_formed (sym (append-nil s)) ∙ octets_through s [] o in
    let f = (parts []).fits in
    eq-eqb (well_formed s) (length s) (omega arith)

pub utf8_octets : (s : List ℕ) → utf8 s ≡ true → Octets s
unfolding utf8
utf8_octets s e = subst Octets (ap (λ (n : ℕ). take n s) (of_eq (well_formed s) (length s) e) ∙ take-length s) (parts s).front

-- text in front of anything is passed
pub front_through : (a b : List ℕ) → utf8 a ≡ true → well_formed (a ++ b) ≡ length a + well_formed b
front_through a b e = octets_through a b (utf8_octets a e)

pub front_fits : (s : List ℕ) → well_formed s ≤ length s
front_fits s = (parts s).fits

pub front_good : (s : List ℕ) → utf8 (take (well_formed s) s) ≡ true
front_good s = octets_utf8 (take (well_formed s) s) (parts s).front

pub front_longest : (s : List ℕ) (n : ℕ) → n ≤ length s → utf8 (take n s) ≡ true → n ≤ well_formed s
front_longest s n h e =
    let d = ap well_formed (sym (take-append-drop n s)) ∙ front_through (take n s) (drop n s) e in
    omega (arith, length-take-le n s h)

-- behind it the text ends, or no character begins
pub cut_or_bad : (s : List ℕ) → first characters (drop (well_formed s) s) ≡ 0
cut_or_bad s = (parts s).stop
