-- What a reader accepts rests on the bytes that it used, and on no other: for every shape and every codec whose own readers are so.
use mathlib.Core.Bool.{Bool, false, true}
use mathlib.Core.List.{List, ◌++◌, append_assoc}
use mathlib.Core.Path.{◌∙◌, ◌≡◌, ap, sym}
use Prim.Native.Nat.{◌+◌, ◌≤◌, ℕ}
use native.Mathlib.Omega.{arith}
use lib.ListN.{drop, length, length-append, length-drop, take}
use lib.Seq.{drop_at, length-take-le, take-add, take_at}
use Rattle.layout.specs.Reading.{Reader, fail, fail_at, give, here, ok, pick, placed, raw, single, then}
use Rattle.layout.specs.Primitives.{checked, flag, unsigned}
use Rattle.layout.specs.Rows.{Basic, Shape}
use Rattle.layout.specs.Read.{Codec, read, read_basic}
use Rattle.layout.proofs.Kept.{Kept, kept_basic, kept_flag, kept_read, kept_unsigned}
use Rattle.layout.proofs.Steps.{piece, raw_inv, single_inv, split}
pub use Rattle.layout.proofs.Steps.{not_ok, raw_ok}

pub record Same {A : Type 0} (r : Reader A) (p : ℕ) (s : List ℕ) (x : A) (n : ℕ) : Type 0 where
  pub fits : n ≤ length s
  pub same : (t : List ℕ) → r p (take n s ++ t) ≡ ok x n

pub record Local {A : Type 0} (r : Reader A) : Type 0 where
  pub law : (p : ℕ) (s : List ℕ) (x : A) (n : ℕ) → r p s ≡ ok x n → Same r p s x n

pub local_give : {A : Type 0} (x : A) → Local (give x)
unfolding give
local_give x = record { law = λ p s y n e. record { fits = (let z : 0 ≡ n = cc in omega arith); same = λ t. e } }

pub local_fail : {A : Type 0} (e : ℕ) → Local (fail {A = A} e)
unfolding fail
local_fail {A} e = record { law = λ p s y n h. not_ok h }

pub local_pick : {A : Type 0} (b : Bool) (r q : Reader A) → Local r → Local q → Local (pick b r q)
unfolding pick
local_pick true r q hr hq = hr
local_pick false r q hr hq = hq

pub local_single : {A : Type 0} (t : Bool) (r : Reader A) → Local r → Local (single t r)
unfolding single
local_single t r h = record { law = λ p s x n e. let k = h.law p s x n (single_inv t r p s x n e) in record { fits = k.fits; same = λ u. ap (placed t p) (k.same u) } }

pub local_raw : (n : ℕ) → Local (raw n)
local_raw n = record {
  law = λ p s x m e.
      let r = raw_inv n p s x m e in
      let l = length-take-le n s r.fits in
      rw (r.is, r.used)
      (record { fits = r.fits; same = λ t. raw_ok n p (take n s ++ t) (rw length-append (omega arith)) ∙ ap (λ (u : List ℕ). ok u n) (take_at (take n s) t n l) });
}

pub local_then : {A B : Type 0} (r : Reader A) (f : A → Reader B) → Local r → ((x : A) → Local (f x)) → Local (then r f)
unfolding then
local_then r f hr hf = record {
  law = λ p s y m e.
      let d = split r f p s y m e in
      let a = hr.law p s d.x d.n d.first in
      let b = (hf d.x).law (p + d.n) (drop d.n s) y d.k d.second in
      record {
        fits = omega (arith, d.sum, a.fits, b.fits, length-drop d.n s);
        same = λ t.
            let w = take d.k (drop d.n s) ++ t in
            let c : take m s ++ t ≡ take d.n s ++ w = ap (λ (j : ℕ). take j s ++ t) d.sum ∙ rw (take-add, append_assoc) in
            let l = length-take-le d.n s a.fits in
            rw (c, a.same w, drop_at (take d.n s) w d.n l, b.same t) (ap (λ (j : ℕ). ok y j) (sym d.sum));
      };
}

local_part : {X : Type 0} (t : List ℕ → Bool) (make : ℕ → List ℕ → X) (n : ℕ) → Local (piece t make n)
unfolding here fail_at
local_part t make n = record {
  law = λ p s x m e.
      let l = (local_then (raw n) _ (local_raw n) (λ b. local_pick (t b) _ _ (local_give (make p b)) (record { law = λ q u y k h. not_ok h }))).law p s x m e in
      record { fits = l.fits; same = l.same };
}

-- every step is local, and so is what is made of steps
pub locals : Kept (λ A r q. Local r)
unfolding here
locals = record {
  on_give = local_give;
  on_fail = λ e h g. local_fail e;
  on_raw = local_raw;
  on_pick = λ b r r' q q' h g. local_pick b r q h g;
  on_here = λ r r' h. record { law = λ p s x n e. let k = (h p).law p s x n e in record { fits = k.fits; same = k.same } };
  on_single = λ t r r' h. local_single t r h;
  on_part = λ t make n. local_part t make n;
  on_then = λ r r' f f' h g. local_then r f h g;
}

pub local_unsigned : Local unsigned
local_unsigned = kept_unsigned locals

pub local_flag : Local flag
local_flag = kept_flag locals

-- a length, with whatever number null is refused
pub local_checked : (a : Bool) (e : ℕ) (len : Reader ℕ) → Local len → Local (checked a e len)
unfolding checked
local_checked a e len h = local_single _ _ (local_then _ _ h (λ n. local_pick _ _ _ (local_pick _ _ _ (local_give 0) (local_fail e)) (local_give n)))

module _ (c : Codec) (hv : Local c.varint) (hf : Local c.flag) where
  pub local_basic : (k : Basic) → Local (read_basic c k)
  local_basic = kept_basic locals c.make c.whole c.varint c.varint c.flag c.flag hv hf

  -- the theorem, for every shape
  pub local_read : (l : Shape) → Local (read c l)
  local_read = kept_read locals c.make c.whole c.varint c.varint c.flag c.flag hv hf
