-- What a writer leaves in the output that it is lent, and the loop of the lowest bytes of a number: one law for all widths.
use mathlib.Core.Bool.{Bool, false, true}
use mathlib.Core.List.{List, ◌++◌, ◌∷◌}
use mathlib.Core.Path.{◌∙◌, ◌≡◌, ap, refl, subst, sym}
use Prim.Native.Nat.{◌%◌, ◌+◌, ◌-◌, ◌/◌, ◌<◌, ◌≤◌, min, suc, zero, ℕ}
use native.Mathlib.Decide.{dec_lt}
use native.Mathlib.Omega.{arith}
use lib.ListN.{drop, length, length-append, length-drop, length-set, set, take}
use lib.Seq.{append_snoc, drop_at, length-take-le, set_split}
use borrow.Rule.Slice.PartMut.{mid_of, put_mid}
use mir.Val.{bool_byte}
use Rattle.layout.specs.Primitives.{bytes, flag_bytes}
use Rattle.layout.proofs.Back.{length_bytes_lem}
use Rattle.layout.proofs.Tests.{le-false, le-true}
use Rattle.primitives_put.specs.Step.{Capped, Step, cap}
use Rattle.primitives_put.proofs.Capped.{capped, capped_behind}
use Rattle.primitives_put.specs.Put.{Put}

module _ (bs d : List ℕ) (r : ℕ) (e : r ≡ length bs) where
  -- there is no room, and nothing is stored
  pub put_none : length d < r → Put bs d r d
  put_none h = record { count = e; left = sym (rw (le-false (length bs) (length d) (omega arith))) }

  -- there is, and the bytes stand at the front
  pub put_all : (d' : List ℕ) → r ≤ length d → d' ≡ bs ++ drop (length bs) d → Put bs d r d'
  put_all d' h i = record { count = e; left = i ∙ sym (rw (le-true (length bs) (length d) (omega arith))) }

-- all or nothing is a step
pub put_step : {bs d d' : List ℕ} {r : ℕ} → Put bs d r d' → Step bs d r d'
put_step {bs} {d} {d'} {r} p =
    elim (dec_lt (length d) (length bs)) [
      | yes l ↦
          let e : d' ≡ d = p.left ∙ rw (le-false (length bs) (length d) l) in
          record { count = p.count; long = ap length e; stored = λ h. absurd (omega arith) }
      | no l ↦
          let e : d' ≡ bs ++ drop (length bs) d = p.left ∙ rw (le-true (length bs) (length d) (omega arith)) in
          record { count = p.count; long = ap length e ∙ length-append bs (drop (length bs) d) ∙ omega (arith, length-drop (length bs) d); stored = λ h. e }
    ]

-- where there is room a step has stored all
pub step_put : {bs d d' : List ℕ} {r : ℕ} → length bs ≤ length d → Step bs d r d' → Put bs d r d'
step_put {bs} {d} {d'} {r} h s = put_all bs d r s.count d' (omega (arith, s.count)) (s.stored h)

-- one behind another, as a call with `&mut out[at..]` leaves it
pub two_put : {d d₁ e : List ℕ} {n m : ℕ} (at : ℕ) → at ≡ min n (length d₁) → (r : ℕ) → cap r ≡ cap (n + m) → (x y : List ℕ) → Put x d n d₁ → Put y (mid_of at (length d₁ - at) d₁) m e → Capped (x ++ y) d r (put_mid at (length d₁ - at) d₁ e)
two_put at h r k x y p q = capped_behind (capped (put_step p)) at h (capped (put_step q)) r k

-- a Boolean's byte is the number that it is cast to
pub put_flag : (b : Bool) (d : List ℕ) (r : ℕ) (d' : List ℕ) → Put (bytes 1 (bool_byte b)) d r d' → Put (flag_bytes b) d r d'
unfolding flag_bytes
put_flag true d r d' p = p
put_flag false d r d' p = p

-- a list from an element that was stored on
drop_set : (l : List ℕ) (i a : ℕ) → i < length l → drop i (set l i a) ≡ a ∷ drop (suc i) l
drop_set l i a h = ap (drop i) (set_split l i a h) ∙ drop_at (take i l) (a ∷ drop (suc i) l) i (length-take-le i l (omega arith))

-- p bytes are still to be stored, those of `left`: in front of what stands from p on, they make what was asked
pub record Down (d : List ℕ) (n k : ℕ) (out : List ℕ) (left p : ℕ) : Type 0 where
  pub below : p ≤ k
  pub long : length out ≡ length d
  pub same : bytes p left ++ drop p out ≡ bytes k n ++ drop k d

module _ (d : List ℕ) (n k : ℕ) (r : k ≤ length d) where
  pub down_start : Down d n k d n k
  down_start = record { below = omega arith; long = refl; same = refl }

  module _ (out : List ℕ) (left p : ℕ) where
    next_down : Down d n k out left (suc p) → Down d n k (set out p (left % 256)) (left / 256) p
    unfolding bytes
    next_down a =
        let i : p < length out = omega (arith, a.below, a.long) in
        record {
          below = omega (arith, a.below);
          long = length-set out p (left % 256) ∙ a.long;
          same = ap (λ (s : List ℕ). bytes p (left / 256) ++ s) (drop_set out p (left % 256) i) ∙ sym (append_snoc (bytes p (left / 256)) (left % 256) (drop (suc p) out)) ∙ a.same;
        }

  pub down_again : (out : List ℕ) (left p : ℕ) → 0 < p → Down d n k out left p → Down d n k (set out (p - 1) (left % 256)) (left / 256) (p - 1)
  down_again out left zero h a = absurd (omega arith)
  down_again out left (suc p) h a = subst (λ (j : ℕ). Down d n k (set out j (left % 256)) (left / 256) j) (omega arith) (next_down out left p a)

  pub down_end : (out : List ℕ) (left p : ℕ) → p ≤ 0 → Down d n k out left p → Put (bytes k n) d k out
  unfolding bytes
  down_end out left zero h a = put_all (bytes k n) d k (sym (length_bytes_lem k n)) out r (a.same ∙ ap (λ (j : ℕ). bytes k n ++ drop j d) (sym (length_bytes_lem k n)))
  down_end out left (suc p) h a = absurd (omega arith)
