-- The class of a byte tells the line of the grammar by which a text that begins with it goes on: a rule of a table, proved at all of its entries by one test that antt computes. Assumes nothing.
use mathlib.Core.Path.{◌∙◌, ◌≡◌, ap, refl, subst, sym}
use mathlib.Core.Bool.{Bool, cond, false, false≢true, true}
use mathlib.Core.List.{List, [], ◌∷◌}
use mathlib.Core.Logic.{◌≢◌}
use Prim.Native.Nat.{◌+◌, ◌-◌, ◌<◌, ◌≤◌, suc, zero, ℕ}
use native.Mathlib.Nat.{add-suc, add-zero, le_of_suc-le-suc, not-suc-le-zero, suc-add, zero-add}
use native.Mathlib.Numerals.{add-one}
use native.Mathlib.Omega.{arith}
use lib.Dec.{T, eqb, eqb→eq}
use lib.ListN.{get_or-eq_default, drop, get_or, length}
use lib.Seq.{drop-cons}
use Rattle.layout.specs.Utf8.{Range, begins, characters, first, tail, within}
use Rattle.utf8.specs.Class.{Right, after, class_of, line_of, second, second_of, starts}
use Rattle.layout.proofs.Text.{characters_rise, first_at, first_past, rising, rising_rest}

abbrev pub both : Bool → Bool → Bool
both true b = b
both false b = false

pub both_left : (a b : Bool) → T (both a b) → T a
both_left true b t = tt
both_left false b t = t

pub both_right : (a b : Bool) → T (both a b) → T b
both_right true b t = t
both_right false b t = absurd t

-- the test f passes at each entry of the list and its place, counted from i
abbrev pub every : (ℕ → ℕ → Bool) → ℕ → List ℕ → Bool
every f i [] = true
every f i (x ∷ xs) = both (f i x) (every f (suc i) xs)

from : (f : ℕ → ℕ → Bool) (xs : List ℕ) (i : ℕ) → T (every f i xs) → (k : ℕ) → k < length xs → T (f (i + k) (get_or xs k 0))
from f [] i t k h = absurd (not-suc-le-zero h)
from f (x ∷ xs) i t zero h = subst (λ (m : ℕ). T (f m x)) (sym (add-zero i)) (both_left (f i x) (every f (suc i) xs) t)
from f (x ∷ xs) i t (suc k) h =
    subst (λ (m : ℕ). T (f m (get_or xs k 0))) (suc-add i k ∙ sym (add-suc i k))
    (from f xs (suc i) (both_right (f i x) (every f (suc i) xs) t) k (le_of_suc-le-suc h))

pub at : (f : ℕ → ℕ → Bool) (xs : List ℕ) → T (every f 0 xs) → (k : ℕ) → k < length xs → T (f k (get_or xs k 0))
at f xs t k h = subst (λ (m : ℕ). T (f m (get_or xs k 0))) (zero-add k) (from f xs 0 t k h)

-- the test of one entry, and the rule: a table whose 256 entries all pass it is right
unfoldable pub as_grammar : ℕ → ℕ → Bool
as_grammar b k = eqb k (class_of b)

pub right : (t : List ℕ) → T (both (eqb (length t) 256) (every as_grammar 0 t)) → Right t
unfolding as_grammar
right t p =
    let n = eqb→eq (length t) 256 (both_left (eqb (length t) 256) (every as_grammar 0 t) p) in
    record { at = λ b h. eqb→eq (get_or t b 0) (class_of b) (at as_grammar t (both_right (eqb (length t) 256) (every as_grammar 0 t) p) b (omega arith)) }

-- how a text goes on behind the first byte of a character of this line
followed : List Range → List ℕ → ℕ
followed [] s = 0
followed (r ∷ rs) s = after rs s

by_line : (n : ℕ) (cs : List (List Range)) → rising n cs ≡ true → (b : ℕ) (s : List ℕ) → first cs (b ∷ s) ≡ followed (get_or cs (line_of cs b) []) s
unfolding first rising line_of starts followed after
by_line n [] k b s = refl
by_line n ([] ∷ cs) k b s = absurd (false≢true k)
by_line n ((r ∷ rs) ∷ cs) k b s = go (within r b) refl (by_line (suc r.1) cs (rising_rest n r rs cs k) b s)
  where
    go : (w : Bool) → within r b ≡ w → first cs (b ∷ s) ≡ followed (get_or cs (line_of cs b) []) s → first ((r ∷ rs) ∷ cs) (b ∷ s) ≡ followed (get_or ((r ∷ rs) ∷ cs) (cond w 0 (suc (line_of cs b))) []) s
    go true w f = first_at n r rs cs k b s w
    go false w f = first_past r rs cs b s w ∙ f

by_class : (b k : ℕ) (s : List ℕ) → k ≡ class_of b → first characters (b ∷ s) ≡ followed (get_or characters k []) s
unfolding class_of
by_class b k s e = by_line 0 characters characters_rise b s ∙ ap (λ (j : ℕ). followed (get_or characters j []) s) (sym e)

-- what holds of the numbers up to n, and of those from a on, one by one
abbrev pub Each : ℕ → (ℕ → Type 0) → Type 0
Each zero P = P 0
Each (suc n) P = P 0 × Each n (λ v. P (suc v))

pub up_to : (n : ℕ) (P : ℕ → Type 0) → Each n P → (v : ℕ) → v ≤ n → P v
up_to zero P a zero h = a
up_to zero P a (suc v) h = absurd (omega arith)
up_to (suc n) P a zero h = a.0
up_to (suc n) P a (suc v) h = up_to n (λ v. P (suc v)) a.1 v (omega arith)

pub between : (a n : ℕ) (P : ℕ → Type 0) → Each n (λ j. P (a + j)) → (v : ℕ) → a ≤ v → v ≤ a + n → P v
between a n P ps v h k = let e : a + (v - a) ≡ v = omega arith in subst P e (up_to n (λ j. P (a + j)) ps (v - a) (omega arith))

-- how a text goes on, by the class of its first byte
one : (b k : ℕ) (s : List ℕ) → k ≡ class_of b → k ≡ 0 → first characters (b ∷ s) ≡ 1
unfolding characters followed after begins
one b k s e z = by_class b 0 s (sym z ∙ e)

two : (b k : ℕ) (s : List ℕ) → k ≡ class_of b → k ≡ 1 → first characters (b ∷ s) ≡ after (tail ∷ []) s
unfolding characters followed
two b k s e z = by_class b 1 s (sym z ∙ e)

three : (b k : ℕ) (s : List ℕ) → k ≡ class_of b → 2 ≤ k → k < 6 → first characters (b ∷ s) ≡ after (second_of k ∷ tail ∷ []) s
unfolding characters followed second_of second
three b k s e h g =
    by_class b k s e ∙ between 2 3 (λ j. followed (get_or characters j []) s ≡ after (second_of j ∷ tail ∷ []) s) (refl, (refl, (refl, refl))) k h (omega arith)

four : (b k : ℕ) (s : List ℕ) → k ≡ class_of b → 6 ≤ k → k < 9 → first characters (b ∷ s) ≡ after (second_of k ∷ tail ∷ tail ∷ []) s
unfolding characters followed second_of second
four b k s e h g =
    by_class b k s e ∙ between 6 2 (λ j. followed (get_or characters j []) s ≡ after (second_of j ∷ tail ∷ tail ∷ []) s) (refl, (refl, refl)) k h (omega arith)

none : (b k : ℕ) (s : List ℕ) → k ≡ class_of b → 9 ≤ k → first characters (b ∷ s) ≡ 0
unfolding characters followed
none b k s e h = by_class b k s e ∙ ap (λ (c : List Range). followed c s) (get_or-eq_default characters [] h)

-- the same at a place of the text, with the answers of what was called
module _ (s : List ℕ) (at k : ℕ) (in_text : at < length s) (known : k ≡ class_of (get_or s at 0)) where
  here : first characters (drop at s) ≡ first characters (get_or s at 0 ∷ drop (at + 1) s)
  here = ap (first characters) (rw (add-one, drop-cons s at 0))

  pub one_at : k ≡ 0 → 1 ≡ first characters (drop at s)
  one_at z = sym (here ∙ one (get_or s at 0) k (drop (at + 1) s) known z)

  pub two_at : (n : ℕ) → k ≡ 1 → n ≡ after (tail ∷ []) (drop (at + 1) s) → n ≡ first characters (drop at s)
  two_at n z e = e ∙ sym (here ∙ two (get_or s at 0) k (drop (at + 1) s) known z)

  -- l and h are the least and the greatest second byte
  pub three_at : (n l h : ℕ) → 2 ≤ k → k < 6 → l ≡ (second_of k).0 → h ≡ (second_of k).1 → n ≡ after ((l, h) ∷ tail ∷ []) (drop (at + 1) s) → n ≡ first characters (drop at s)
  three_at n l h a b c d e = e ∙ rw (c, d) (sym (here ∙ three (get_or s at 0) k (drop (at + 1) s) known a b))

  pub four_at : (n l h : ℕ) → 6 ≤ k → k < 9 → l ≡ (second_of k).0 → h ≡ (second_of k).1 → n ≡ after ((l, h) ∷ tail ∷ tail ∷ []) (drop (at + 1) s) → n ≡ first characters (drop at s)
  four_at n l h a b c d e = e ∙ rw (c, d) (sym (here ∙ four (get_or s at 0) k (drop (at + 1) s) known a b))

  pub none_at : 9 ≤ k → 0 ≡ first characters (drop at s)
  none_at h = sym (here ∙ none (get_or s at 0) k (drop (at + 1) s) known h)

-- the range of the second byte, by its class
pub low_2 : (k : ℕ) → k ≡ 2 → (second_of k).0 ≡ 0xA0
unfolding second_of second characters
low_2 k e = rw e

pub low_6 : (k : ℕ) → k ≡ 6 → (second_of k).0 ≡ 0x90
unfolding second_of second characters
low_6 k e = rw e

pub low_other : (k : ℕ) → 2 ≤ k → k < 9 → k ≢ 2 → k ≢ 6 → (second_of k).0 ≡ 0x80
unfolding second_of second characters
low_other k h l =
    between 2 6 (λ j. j ≢ 2 → j ≢ 6 → (second_of j).0 ≡ 0x80)
    ((λ f g. absurd (f refl)), ((λ f g. refl), ((λ f g. refl), ((λ f g. refl), ((λ f g. absurd (g refl)), ((λ f g. refl), (λ f g. refl))))))) k h (omega arith)

pub high_4 : (k : ℕ) → k ≡ 4 → (second_of k).1 ≡ 0x9F
unfolding second_of second characters
high_4 k e = rw e

pub high_8 : (k : ℕ) → k ≡ 8 → (second_of k).1 ≡ 0x8F
unfolding second_of second characters
high_8 k e = rw e

pub high_other : (k : ℕ) → 2 ≤ k → k < 9 → k ≢ 4 → k ≢ 8 → (second_of k).1 ≡ 0xBF
unfolding second_of second characters
high_other k h l =
    between 2 6 (λ j. j ≢ 4 → j ≢ 8 → (second_of j).1 ≡ 0xBF)
    ((λ f g. refl), ((λ f g. refl), ((λ f g. absurd (f refl)), ((λ f g. refl), ((λ f g. refl), ((λ f g. refl), (λ f g. absurd (g refl)))))))) k h (omega arith)
