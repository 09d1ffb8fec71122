-- From what is checked before a walk to what the measure of a message says.
use mathlib.Core.Bool.{Bool, false}
use mathlib.Core.List.{List}
use mathlib.Core.Logic.{◌⊎◌, inl, inr}
use mathlib.Core.Path.{◌≡◌, ◌∙◌, ap, refl, subst, sym}
use Prim.Native.Nat.{◌<◌, ◌≤◌, ℕ}
use lib.IntN.{pos, ℤ}
use lib.ListN.{length}
use native.Mathlib.Omega.{arith}
use mir.Facts.{to_z-of_z}
use mir.Syntax.{w64}
use mir.Val.{SFits, of_z, to_z}
use Rattle.layout.specs.Answers.{Message, most, read_answer, refused, seen}
use Rattle.layout.specs.Tables.{Tables}
use Rattle.layout.specs.Reading.{Res, bad, because}
use Rattle.primitives.specs.Answers.{of_refusal, version_of}
use Rattle.primitives.specs.declared.Refusal.{Refusal}
use Rattle.primitives.proofs.Unique.{refusal_of}
use Rattle.primitives.proofs.Versions.{known, passed, unknown}
use Rattle.body_reading.specs.Meter.{metered}
use Rattle.body_reading.proofs.Reply.{answers_long}
use Rattle.body_reading.proofs.Metered.{metered_long, metered_same, metered_unknown}
use Rattle.body_reading.specs.Admission.{Judged}
use Rattle.std.specs.Prelude.{Result, Ok, Err}

-- ---- the three ways out, of a version that passed an argument

module _ (z : ℤ) (f : SFits w64 z) (last n v : ℕ) (e : v ≡ version_of (to_z w64 (of_z w64 z))) where
  pub no_version : (c : Refusal) → last < v → of_refusal c ≡ because 1 0 → Judged z last n (Err c)
  unfolding Judged
  no_version c h d = inl (subst (λ (k : ℕ). last < k) (passed z f v e) h, d)

  pub no_size : (c : Refusal) → v ≤ last → most < n → of_refusal c ≡ because 2 0 → Judged z last n (Err c)
  unfolding Judged
  no_size c h l d = inr (subst (λ (k : ℕ). k ≤ last) (passed z f v e) h, (l, d))

  pub admits : v ≤ last → n ≤ most → Judged z last n (Ok v)
  unfolding Judged
  admits h l = (passed z f v e, (h, l))

-- ---- a message that was judged

module _ (m : Message) (few : m.last < 65536) (z : ℤ) (f : SFits w64 z) (s : List ℕ) (r : Result ℕ Refusal) (j : Judged (to_z w64 (of_z w64 z)) m.last (length s) r) where
  told : (x : Result ℕ Refusal) → r ≡ x → Judged z m.last (length s) x
  told x e = subst (λ (y : Result ℕ Refusal). Judged z m.last (length s) y) e (subst (λ (y : ℤ). Judged y m.last (length s) r) (to_z-of_z f) j)

  pub within : (v : ℕ) → r ≡ Ok v → (v ≤ m.last) × (length s ≤ most)
  unfolding Judged
  within v e = (told (Ok v) e).1

  pub known_as : (v : ℕ) → r ≡ Ok v → pos v ≡ z
  unfolding Judged
  known_as v e = known m z v (told (Ok v) e).0 (told (Ok v) e).1.0 few

  -- what is answered where no byte is looked at
  pub unread : (c : Refusal) → r ≡ Err c → (w : Bool) (olds : Tables) → (refused (of_refusal c), olds) ≡ read_answer w m z olds s
  unfolding Judged
  unread c e w olds = go (told (Err c) e)
    where
      go : ((m.last < version_of z) × (of_refusal c ≡ because 1 0)) ⊎ ((version_of z ≤ m.last) × ((most < length s) × (of_refusal c ≡ because 2 0))) → (refused (of_refusal c), olds) ≡ read_answer w m z olds s
      go (inl x) = unknown m z (version_of z) refl x.0 w s olds (of_refusal c) x.1
      go (inr x) = answers_long m w (version_of z) s olds (of_refusal c) x.1.1 x.0 x.1.0 ∙ ap (λ (y : ℤ). read_answer w m y olds s) (known m z (version_of z) refl x.0 few)

  pub metered_within : (v : ℕ) → r ≡ Ok v → (o : Res (List ℕ × List ℕ)) → o ≡ metered (seen false m (pos v) s) → o ≡ metered (seen false m z s)
  unfolding Judged
  metered_within v e = metered_same m s (pos v) z (known m z v (told (Ok v) e).0 (told (Ok v) e).1.0 few)

  pub metered_without : (c : Refusal) → r ≡ Err c → bad (of_refusal c) ≡ metered (seen false m z s)
  unfolding Judged
  metered_without c e = go (told (Err c) e)
    where
      go : ((m.last < version_of z) × (of_refusal c ≡ because 1 0)) ⊎ ((version_of z ≤ m.last) × ((most < length s) × (of_refusal c ≡ because 2 0))) → bad (of_refusal c) ≡ metered (seen false m z s)
      go (inl x) = metered_unknown m z s (of_refusal c) (version_of z) (λ n i. ap version_of i) x.0 x.1
      go (inr x) = metered_long m z s (of_refusal c) (version_of z) (known m z (version_of z) refl x.0 few) x.0 x.1.0 x.1.1

-- ---- any two answers that are allowed are equal

module _ (z : ℤ) (last n : ℕ) where
  pub admit_unique : (r r' : Result ℕ Refusal) → Judged z last n r → Judged z last n r' → r ≡ r'
  unfolding Judged
  admit_unique (Ok v) (Ok w) (p, _) (q, _) = ap Ok (p ∙ sym q)
  admit_unique (Ok v) (Err d) (p, (h, l)) (inl (k, _)) = absurd (omega (arith, p, h, k))
  admit_unique (Ok v) (Err d) (p, (h, l)) (inr (k, (m, _))) = absurd (omega (arith, l, m))
  admit_unique (Err e) (Ok w) (inl (k, _)) (p, (h, l)) = absurd (omega (arith, p, h, k))
  admit_unique (Err e) (Ok w) (inr (k, (m, _))) (p, (h, l)) = absurd (omega (arith, l, m))
  admit_unique (Err e) (Err d) (inl (k, p)) (inl (h, q)) = ap (λ x. Err (refusal_of x)) (p ∙ sym q)
  admit_unique (Err e) (Err d) (inl (k, p)) (inr (h, q)) = absurd (omega (arith, k, h))
  admit_unique (Err e) (Err d) (inr (h, q)) (inl (k, p)) = absurd (omega (arith, k, h))
  admit_unique (Err e) (Err d) (inr (h, (k, p))) (inr (l, (m, q))) = ap (λ x. Err (refusal_of x)) (p ∙ sym q)
