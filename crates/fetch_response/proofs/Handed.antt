-- What a `?` hands up in a walk, and the turns of a walk over an array, as a `for` counts them.
use mathlib.Core.List.{List}
use mathlib.Core.Path.{◌≡◌, refl, subst, sym}
use Prim.Native.Nat.{◌+◌, ◌-◌, ◌<◌, ◌≤◌, ℕ}
use native.Mathlib.Omega.{arith}
use Rattle.std.specs.Prelude.{Result, Err, IsErr, IsErrAnd}
use Rattle.layout.specs.Reading.{Reader, Res, bad, loop, ok}
use Rattle.layout.specs.Reading as Reading
use Rattle.primitives.proofs.Up.{is_err_of}
use Rattle.primitives.specs.declared.Refusal.{Refusal}
use Rattle.body_reading.specs.Store.{State}
use Rattle.body_reading.specs.Walk.{Runs}
use Rattle.body_reading.proofs.Chains.{Going, going_done, going_next, going_no, going_start}

-- where the call refused, the walk promises of its answer what it promises of that refusal: f says what an answer means
pub handed : {E T : Type 0} {x : E → State → Reader State} {s : List ℕ} {p : ℕ} {b : E → State} (f : Result T Refusal → E → Res State) (r : Result T Refusal) (d : Refusal) → IsErr r × IsErrAnd r (λ y. y ≡ d) → Runs x s p b (f (Err d)) → Runs x s p b (f r)
handed {x = x} {s = s} {p = p} {b = b} f r d h k = subst (λ y. Runs x s p b (f y)) (sym (is_err_of r d h)) k

-- at the start
pub for_start : {E : Type 0} (x : E → State → Reader State) (s : List ℕ) (count at : ℕ) (b₀ : E → State) → Going x s count at b₀ (count - 0) at b₀
for_start x s count at b₀ =
    let m : count ≡ count - 0 = omega arith in
    subst (λ (n : ℕ). Going x s count at b₀ n at b₀) m (going_start x s count at b₀)

-- k items are read
module _ {E : Type 0} (x : E → State → Reader State) (s : List ℕ) (count at : ℕ) (b₀ : E → State) (k p : ℕ) (b : E → State) (w : Going x s count at b₀ (count - k) p b) where
  pub for_done : count ≤ k → Runs (λ e. loop count (x e)) s at b₀ (λ e. ok (b e) p)
  for_done h = going_done x s count at b₀ (count - k) p b w (omega arith)

  module _ (h : k < count) where
    pub for_no : (d : Reading.Refusal) → Runs x s p b (λ e. bad d) → Runs (λ e. loop count (x e)) s at b₀ (λ e. bad d)
    for_no d c = going_no x s count at b₀ (count - k) p b w (omega arith) (λ e. bad d) c (λ e. refl)

    pub for_next : (q : ℕ) (b' : E → State) → Runs x s p b (λ e. ok (b' e) q) → Going x s count at b₀ (count - (k + 1)) q b'
    for_next q b' c =
        let m : count - k - 1 ≡ count - (k + 1) = omega arith in
        subst (λ (n : ℕ). Going x s count at b₀ n q b') m (going_next x s count at b₀ (count - k) p b w (omega arith) (λ e. ok (b' e) q) c b' (λ e. refl))
