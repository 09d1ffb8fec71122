-- A loop that counts up: after i turns, what is left to read is what was asked at the start. And the refusal that a `?` hands up, as what a walk comes to.
use mathlib.Core.Path.{◌∙◌, ◌≡◌, subst}
use mathlib.Core.List.{List}
use Prim.Native.Nat.{◌+◌, ◌-◌, ◌<◌, ◌≤◌, ℕ}
use native.Mathlib.Omega.{arith}
use Rattle.std.specs.Prelude.{Result, Err, IsErr, IsErrAnd}
use Rattle.layout.specs.Reading.{Reader, Refusal, Res, bad, loop, ok}
use Rattle.primitives.proofs.Up.{up}
use Rattle.body_reading.specs.Store.{State}
use Rattle.body_reading.specs.Walk.{Runs}
use Rattle.body_reading.proofs.Chains.{Going, going_done, going_next, going_no, going_start}

pub runs_up : {E T D : Type 0} {x : E → State → Reader State} {s : List ℕ} {p : ℕ} {b : E → State} (f : Result T D → E → Res State) (r : Result T D) (d : D) → IsErr r × IsErrAnd r (λ c. c ≡ d) → Runs x s p b (f (Err d)) → Runs x s p b (f r)
runs_up f r d h w = record { law = λ e. up (λ y. f y e) r d h ∙ w.law e }

module _ {E : Type 0} (x : E → State → Reader State) (s : List ℕ) (count at : ℕ) (b₀ : E → State) where
  abbrev pub Turned : ℕ → ℕ → (E → State) → Type 0
  Turned i p b = Going x s count at b₀ (count - i) p b

  pub turned_start : Turned 0 at b₀
  turned_start = let m : count ≡ count - 0 = omega arith in subst (λ (n : ℕ). Going x s count at b₀ n at b₀) m (going_start x s count at b₀)

  module _ (i p : ℕ) (b : E → State) (w : Turned i p b) where
    pub turned_end : count ≤ i → Runs (λ e. loop count (x e)) s at b₀ (λ e. ok (b e) p)
    turned_end l = going_done x s count at b₀ (count - i) p b w (omega arith)

    -- one more turn, which comes to f
    module _ (l : i < count) (f : E → Res State) (c : Runs x s p b f) where
      pub turned_no : {d : Refusal} → ((e : E) → f e ≡ bad d) → Runs (λ e. loop count (x e)) s at b₀ (λ e. bad d)
      turned_no g = going_no x s count at b₀ (count - i) p b w (omega arith) f c g

      pub turned_next : {q : ℕ} (b' : E → State) → ((e : E) → f e ≡ ok (b' e) q) → Turned (i + 1) q b'
      turned_next {q} b' g =
          let m : count - i - 1 ≡ count - (i + 1) = omega arith in
          subst (λ (n : ℕ). Going x s count at b₀ n q b') m (going_next x s count at b₀ (count - i) p b w (omega arith) f c b' g)
