-- What a refused read tells: a number from 1 to 9, a place in the message, and no need. For every shape and message; so 10 is given for room alone.
use mathlib.Core.Bool.{Bool, ◌&&◌, cond, false, true}
use mathlib.Core.List.{List, []}
use mathlib.Core.Path.{◌∙◌, ◌≡◌, ap, refl, subst, sym}
use Prim.Native.Nat.{◌+◌, ◌≤◌, suc, ℕ}
use native.Mathlib.Omega.{arith}
use lib.Dec.{eqb, leb, ltb}
use lib.IntN.{negsuc, pos, ℤ}
use lib.ListN.{drop, length, length-drop, replicate}
use lib.Seq.{length-take-le}
use Rattle.layout.specs.Reading.{Reader, Refusal, Res, bad, because, fail, fail_at, give, here, more, ok, pick, raw, single, then}
use Rattle.layout.specs.Primitives.{Size, checked, flag, length_of, refusal, unsigned}
use Rattle.layout.specs.Utf8.{well_formed}
use Rattle.layout.specs.Rows.{Basic, Shape}
use Rattle.layout.specs.Read.{by_place, read, read_basic}
use Rattle.layout.specs.Tables.{Tables, append, read_rows}
use Rattle.layout.specs.Answers.{Message, ended, most, seen, shape}
use Rattle.layout.proofs.Kept.{Kept, kept_basic, kept_checked, kept_flag, kept_length, kept_read, kept_unsigned}
use Rattle.layout.proofs.Link.{link}
use Rattle.layout.proofs.Local.{Local, locals, not_ok}
use Rattle.layout.proofs.Tests.{by_test, of_lt}
use Rattle.layout.proofs.Steps.{by_result, piece, raw_inv}
use Rattle.layout.proofs.Text.{front_fits}

-- a refusal of a reader that stands at p before s
pub record Told (p : ℕ) (s : List ℕ) (e : Refusal) : Type 0 where
  pub least : 3 ≤ e.number
  pub greatest : e.number ≤ 8
  pub behind : p ≤ e.place
  pub before_end : e.place ≤ p + length s
  pub no_need : e.need ≡ 0

pub record Tells {A : Type 0} (r : Reader A) : Type 0 where
  pub law : (p : ℕ) (s : List ℕ) (e : Refusal) → r p s ≡ bad e → Told p s e

told : (p : ℕ) (s : List ℕ) (n : ℕ) → 3 ≤ n → n ≤ 8 → (e : Refusal) → because n p ≡ e → Told p s e
told p s n h g e x =
    subst (Told p s) x (record { least = h; greatest = g; behind = omega arith; before_end = omega arith; no_need = refl })

-- a refusal is the same whatever would have been read
same_bad : {A B : Type 0} {c e : Refusal} → ◌≡◌ {A = Res A} (bad c) (bad e) → ◌≡◌ {A = Res B} (bad c) (bad e)
same_bad {A} {B} {c} {e} h = let x : c ≡ e = cc in ap bad x

tells_single : {A : Type 0} (t : Bool) (r : Reader A) → Tells r → Tells (single t r)
unfolding single
tells_single {A} t r h = record {
  law = λ p s e d. by_result (r p s) (λ x n i. not_ok (sym (rw i at d))) (λ c i. kept p s c e (h.law p s c i) (t && eqb c.number 7) (rw i at d));
}
  where
    kept : (p : ℕ) (s : List ℕ) (c e : Refusal) → Told p s c → (b : Bool) → ◌≡◌ {A = Res A} (bad (cond b c (because c.number p))) (bad e) → Told p s e
    kept p s c e k true d = let x : c ≡ e = cc in subst (Told p s) x k
    kept p s c e k false d = let x : because c.number p ≡ e = cc in told p s c.number k.least k.greatest e x

tells_then : {A B : Type 0} (r : Reader A) (f : A → Reader B) → Local r → Tells r → ((x : A) → Tells (f x)) → Tells (then r f)
unfolding then
tells_then r f l hr hf = record {
  law = λ p s e d.
      by_result (r p s)
      (λ x n i. by_result (f x (p + n) (drop n s)) (λ y k c. not_ok (sym (rw (i, c) at d)))
      (λ c k.
      let t = (hf x).law (p + n) (drop n s) e (k ∙ (rw (i, k) at d)) in
      record { least = t.least; greatest = t.greatest; behind = omega (arith, t.behind); before_end = omega (arith, t.before_end, (l.law p s x n i).fits, length-drop n s); no_need = t.no_need }))
      (λ c i. hr.law p s e (i ∙ same_bad (rw i at d)));
}

tells_raw : (n : ℕ) → Tells (raw n)
unfolding raw
tells_raw n = record {
  law = λ p s e d. by_test (leb n (length s)) (λ t. not_ok (sym (rw t at d))) (λ t. let g : bad (because 3 p) ≡ bad e = rw t at d in told p s 3 (omega arith) (omega arith) e (cc));
}

-- bytes that fail the test are refused where their longest well-formed beginning ends
tells_part : {X : Type 0} (t : List ℕ → Bool) (make : ℕ → List ℕ → X) (n : ℕ) → Tells (piece t make n)
unfolding here then give pick fail_at
tells_part {X} t make n = record {
  law = λ p s e d.
      by_result (raw n p s)
      (λ b m i. let r = raw_inv n p s b m i in inside p s e b m (omega (arith, r.fits, ap length r.is, length-take-le n s r.fits)) (t b) (rw i at d))
      (λ c i. (tells_raw n).law p s e (i ∙ same_bad (rw i at d)));
}
  where
    inside : (p : ℕ) (s : List ℕ) (e : Refusal) (b : List ℕ) (m : ℕ) → length b ≤ length s → (c : Bool) → more m (pick c (give (make p b)) (fail_at 7 (p + well_formed b)) (p + m) (drop m s)) ≡ bad e → Told p s e
    inside p s e b m l true d = not_ok (sym d)
    inside p s e b m l false d =
        let x : because 7 (p + well_formed b) ≡ e = cc in
        subst (Told p s) x (record { least = omega arith; greatest = omega arith; behind = omega arith; before_end = omega (arith, front_fits b); no_need = refl })

-- readers that are local and tell so: every step keeps it
pub telling : Kept (λ A r q. Local r × Tells r)
unfolding give fail here pick
telling = record {
  on_give = λ x. (locals.on_give x, record { law = λ p s e d. not_ok (sym d) });
  on_fail = λ n h g. (locals.on_fail n h g, record { law = λ p s e d. told p s n h g e (cc) });
  on_raw = λ n. (locals.on_raw n, tells_raw n);
  on_pick = λ b r r' q q' h g. (locals.on_pick b r r q q h.0 g.0, elim b as (λ b. Tells (pick b r q)) [ true ↦ h.1 | false ↦ g.1 ]);
  on_here = λ r r' h. (locals.on_here r r (λ p. (h p).0), record { law = λ p s e d. (h p).1.law p s e d });
  on_single = λ t r r' h. (locals.on_single t r r h.0, tells_single t r h.1);
  on_part = λ t make n. (locals.on_part t make n, tells_part t make n);
  on_then = λ r r' f f' h g. (locals.on_then r r f f h.0 (λ x. (g x).0), tells_then r f h.0 h.1 (λ x. (g x).1));
}

pub tells_basic : (w : Bool) (k : Basic) → Tells (read_basic (by_place w) k)
tells_basic w k = (kept_basic telling _ w _ unsigned _ flag (kept_unsigned telling) (kept_flag telling) k).1

pub tells_checked : (a : Bool) (z : Size) → Tells (checked a (refusal z) (length_of unsigned z))
tells_checked a z = (kept_checked telling a z (length_of unsigned z) (length_of unsigned z) (kept_length telling unsigned unsigned (kept_unsigned telling) z)).1

tells_read : (w : Bool) (l : Shape) → Tells (read (by_place w) l)
tells_read w l = (kept_read telling _ w _ unsigned _ flag (kept_unsigned telling) (kept_flag telling) l).1

pub tells_rows : (w : Bool) {S : Type 0} (add : ℕ → List ℕ → S → S) (l : Shape) (o : ℕ) (st : S) → Tells (read_rows w add l o st)
tells_rows w add l o st = record {
  law = λ p s e d.
      let q = sym ((link w add l o st).law p s tt) ∙ d in
      by_result (read (by_place w) l p s) (λ x n i. not_ok (sym (rw i at q))) (λ c i. (tells_read w l).law p s e (i ∙ same_bad (rw i at q)));
}

-- what a call refuses before it asks for room: a number up to `top`, and a place in the message
pub record Refuses (top : ℕ) (s : List ℕ) (e : Refusal) : Type 0 where
  pub least : 1 ≤ e.number
  pub greatest : e.number ≤ top
  pub place_in : e.place ≤ length s
  pub no_need : e.need ≡ 0

pub early : (top : ℕ) (s : List ℕ) (n : ℕ) → 1 ≤ n → n ≤ top → (e : Refusal) → because n 0 ≡ e → Refuses top s e
early top s n h g e x = subst (Refuses top s) x (record { least = h; greatest = g; place_in = omega arith; no_need = refl })

pub seen_refuses : (w : Bool) (m : Message) (v : ℤ) (s : List ℕ) (e : Refusal) → seen w m v s ≡ bad e → Refuses 9 s e
unfolding seen
seen_refuses w m (negsuc v) s e d = early 9 s 1 (omega arith) (omega arith) e (cc)
seen_refuses w m (pos v) s e d =
    by_test (leb v m.last)
    (λ a. by_test (leb (length s) most)
    (λ b. by_result (read_rows w append (shape m v) 0 (replicate (suc m.tables) []) 0 s) (λ st n i. over_end st n w (rw (a, b, i) at d)) (λ c i. inside c ((tells_rows w append (shape m v) 0 _).law 0 s c i) (rw (a, b, i) at d)))
    (λ b. let g : ◌≡◌ {A = Res Tables} (bad (because 2 0)) (bad e) = rw (a, b) at d in early 9 s 2 (omega arith) (omega arith) e (cc)))
    (λ a. let g : ◌≡◌ {A = Res Tables} (bad (because 1 0)) (bad e) = rw a at d in early 9 s 1 (omega arith) (omega arith) e (cc))
  where
    over_end : (st : Tables) (n : ℕ) (q : Bool) → ended q (length s) (ok st n) ≡ bad e → Refuses 9 s e
    over_end st n false d = not_ok (sym d)
    over_end st n true d =
        by_test (ltb n (length s))
        (λ h. let g : ◌≡◌ {A = Res Tables} (bad (because 9 n)) (bad e) = rw h at d in let x : because 9 n ≡ e = cc in subst (Refuses 9 s) x (record { least = omega arith; greatest = omega arith; place_in = omega (arith, of_lt n (length s) h); no_need = refl }))
        (λ h. not_ok (sym (rw h at d)))

    inside : (c : Refusal) → Told 0 s c → ◌≡◌ {A = Res Tables} (bad c) (bad e) → Refuses 9 s e
    inside c t d = let x : c ≡ e = cc in subst (Refuses 9 s) x (record { least = omega (arith, t.least); greatest = omega (arith, t.greatest); place_in = omega (arith, t.before_end); no_need = t.no_need })
