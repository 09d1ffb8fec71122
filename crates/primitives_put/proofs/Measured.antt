-- One walk, run twice: first over no room, where it only counts, and then over the output. What a call answers of the bytes that both promise.
use mathlib.Core.List.{List, [], ◌++◌}
use mathlib.Core.Path.{◌∙◌, ◌≡◌, ap, sym}
use Prim.Native.Nat.{◌<◌, ◌≤◌, ℕ}
use native.Mathlib.Omega.{arith}
use lib.ListN.{drop, length}
use Rattle.layout.specs.Answers.{Answer, accepted, most, refused, write_alone}
use Rattle.layout.specs.Reading.{Refusal, because, no_room}
use Rattle.layout.proofs.Tests.{le-false, le-true}
use Rattle.primitives_put.specs.Step.{Capped}
use Rattle.layout.proofs.Chunks.{nil}
use Rattle.primitives_put.proofs.Capped.{capped_count, capped_over}

-- n counts the bytes, and e is what the walk left of no room
module _ {bs e : List ℕ} {n : ℕ} (s : Capped bs [] n e) (out : List ℕ) where
  same : e ++ out ≡ out
  same = ap (λ (x : List ℕ). x ++ out) (nil e s.long)

  pub measured_long : (r : Refusal) → r ≡ because 2 0 → most < n → ◌≡◌ {A = Answer × List ℕ} (refused r, e ++ out) (write_alone 0 bs out)
  unfolding write_alone
  measured_long r i h = (λ t. (refused (i t), same t)) ∙ sym (rw (le-false (length bs) most (capped_over s h)))

  module _ (h : n ≤ most) where
    is : n ≡ length bs
    is = capped_count s h

    pub measured_short : (r : Refusal) → r ≡ no_room n → length (e ++ out) < n → ◌≡◌ {A = Answer × List ℕ} (refused r, e ++ out) (write_alone 0 bs out)
    unfolding write_alone
    measured_short r i k = (λ t. (refused ((i ∙ ap no_room is) t), same t)) ∙ sym (rw (le-true (length bs) most (omega (arith, is)), le-false (length bs) (length out) (omega (arith, is, ap length same))))

    pub measured_written : {m : ℕ} {d : List ℕ} → n ≤ length (e ++ out) → Capped bs (e ++ out) m d → ◌≡◌ {A = Answer × List ℕ} (accepted [] n, d) (write_alone 0 bs out)
    unfolding write_alone
    measured_written {m} {d} k w =
        (λ t. (accepted [] (is t), (w.stored (omega (arith, is)) (omega (arith, is)) ∙ ap (λ (x : List ℕ). bs ++ drop (length bs) x) same) t))
        ∙ sym (rw (le-true (length bs) most (omega (arith, is)), le-true (length bs) (length out) (omega (arith, is, ap length same))))

-- where the room is enough for certain the walk is run once
pub written_once : {bs out d : List ℕ} {n : ℕ} → Capped bs out n d → length bs ≤ most → length bs ≤ length out → ◌≡◌ {A = Answer × List ℕ} (accepted [] n, d) (write_alone 0 bs out)
unfolding write_alone
written_once {bs} {out} {d} {n} s h k =
    let is : n ≡ length bs = omega (arith, s.count) in
    (λ t. (accepted [] (is t), s.stored h k t)) ∙ sym (rw (le-true (length bs) most h, le-true (length bs) (length out) k))
