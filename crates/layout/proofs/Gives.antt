-- What a reader gives: a property of what is read, from what is known of the place where the reader stands.
use mathlib.Core.Bool.{Bool, false, true}
use mathlib.Core.List.{List, [], ◌∷◌}
use mathlib.Core.Option.{none, some}
use mathlib.Core.Path.{◌≡◌, ap, refl, subst}
use Prim.Native.Nat.{◌+◌, ◌-◌, ◌≤◌, suc, zero, ℕ}
use native.Mathlib.Omega.{arith}
use lib.ListN.{drop, length, length-drop}
use Rattle.layout.specs.Reading.{Reader, fail, give, many, ok, pair, pick, single, then}
use Rattle.layout.specs.Primitives.{checked, sized}
use Rattle.layout.proofs.Every.{All, EveryMaybe}
use Rattle.layout.proofs.Local.{Local, not_ok}
use Rattle.layout.proofs.Steps.{Raw, checked_inv, piece, piece_inv, single_inv, split}

-- what is known where a reader stands, and still is behind the bytes that it used
pub record Ground : Type 1 where
  pub At : ℕ → List ℕ → Type 0
  pub onward : (p n : ℕ) (s : List ℕ) → At p s → n ≤ length s → At (p + n) (drop n s)

-- what r accepts has P, and is no longer than the rest of the message
pub record Gives (G : Ground) {A : Type 0} (r : Reader A) (P : A → Type 0) : Type 0 where
  pub law : (p : ℕ) (s : List ℕ) (x : A) (n : ℕ) → G.At p s → r p s ≡ ok x n → (n ≤ length s) × P x

module _ {G : Ground} where
  pub gives_local : {A : Type 0} (r : Reader A) (P : A → Type 0) → Local r → ((p : ℕ) (s : List ℕ) (x : A) (n : ℕ) → G.At p s → r p s ≡ ok x n → P x) → Gives G r P
  gives_local r P l h = record { law = λ p s x n a e. ((l.law p s x n e).fits, h p s x n a e) }

  pub gives_weak : {A : Type 0} (r : Reader A) (P Q : A → Type 0) → Gives G r P → ((x : A) → P x → Q x) → Gives G r Q
  gives_weak r P Q g h = record { law = λ p s x n a e. let k = g.law p s x n a e in (k.0, h x k.1) }

  pub gives_give : {A : Type 0} (x : A) (P : A → Type 0) → P x → Gives G (give x) P
  unfolding give
  gives_give x P h = record { law = λ p s y n a e. let z : x ≡ y = cc in let u : 0 ≡ n = cc in (omega arith, subst P z h) }

  pub gives_fail : {A : Type 0} (e : ℕ) (P : A → Type 0) → Gives G (fail e) P
  unfolding fail
  gives_fail e P = record { law = λ p s x n a d. not_ok d }

  pub gives_pick : {A : Type 0} (b : Bool) (r q : Reader A) (P : A → Type 0) → (b ≡ true → Gives G r P) → (b ≡ false → Gives G q P) → Gives G (pick b r q) P
  unfolding pick
  gives_pick true r q P h k = h refl
  gives_pick false r q P h k = k refl

  pub gives_single : {A : Type 0} (t : Bool) (r : Reader A) (P : A → Type 0) → Gives G r P → Gives G (single t r) P
  gives_single t r P g = record { law = λ p s x n a e. g.law p s x n a (single_inv t r p s x n e) }

  pub gives_then : {A B : Type 0} (r : Reader A) (f : A → Reader B) (P : A → Type 0) (Q : B → Type 0) → Gives G r P → ((x : A) → P x → Gives G (f x) Q) → Gives G (then r f) Q
  gives_then r f P Q g h = record {
    law = λ p s y m a e.
        let d = split r f p s y m e in
        let u = g.law p s d.x d.n a d.first in
        let v = (h d.x u.1).law (p + d.n) (drop d.n s) y d.k (G.onward p d.n s a u.0) d.second in
        (omega (arith, d.sum, u.0, v.0, length-drop d.n s), v.1);
  }

  pub gives_pair : {A B : Type 0} (r : Reader A) (q : Reader B) (P : A → Type 0) (Q : B → Type 0) → Gives G r P → Gives G q Q → Gives G (pair r q) (λ z. P z.0 × Q z.1)
  unfolding pair
  gives_pair r q P Q g h = gives_then r _ P _ g (λ x a. gives_then q _ Q _ h (λ y b. gives_give (x, y) _ (a, b)))

  pub gives_many : {A : Type 0} (r : Reader A) (P : A → Type 0) → Gives G r P → (n : ℕ) → Gives G (many n r) (λ xs. (length xs ≡ n) × All P xs)
  unfolding many
  gives_many r P g zero = gives_give [] _ (refl, tt)
  gives_many r P g (suc n) = gives_then r _ P _ g (λ x h. gives_then (many n r) _ _ _ (gives_many r P g n) (λ xs k. gives_give (x ∷ xs) _ (ap suc k.0, (h, k.1))))

  -- n bytes that pass the test t, made into a text
  pub gives_part : {X : Type 0} (t : List ℕ → Bool) (make : ℕ → List ℕ → X) (n : ℕ) (P : X → Type 0) → ((p : ℕ) (s b : List ℕ) (m : ℕ) → G.At p s → Raw n s b m → t b ≡ true → P (make p b)) →
      Gives G (piece t make n) P
  gives_part t make n P h = record { law = λ p s x m a e. let d = piece_inv t make n p s x m e in (omega (arith, d.is_raw.used, d.is_raw.fits), subst P d.is (h p s d.b m a d.is_raw d.passes)) }

  pub gives_sized : {A : Type 0} (b a : Bool) (e : ℕ) (len : Reader ℕ) (r : ℕ → Reader A) (L : ℕ → Type 0) (P : A → Type 0) → Gives G len L → ((n : ℕ) → L n → Gives G (r (n - 1)) P) → Gives G (sized b a e len r) (EveryMaybe P b)
  unfolding sized
  gives_sized {A} b a e len r L P l g = go b
    where
      counted : (a : Bool) → Gives G (checked a e len) L
      counted a = record { law = λ p s x n c h. l.law p s x n c (checked_inv a e len p s x n h) }

      go : (b : Bool) → Gives G (sized b a e len r) (EveryMaybe P b)
      go true = gives_then _ _ L _ (counted true) (λ n h. gives_pick _ _ _ _ (λ d. gives_give none (EveryMaybe P true) tt) (λ d. gives_then _ _ P _ (g n h) (λ x k. gives_give (some x) (EveryMaybe P true) k)))
      go false = gives_then _ _ L _ (counted a) g
