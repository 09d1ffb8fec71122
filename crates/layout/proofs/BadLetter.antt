-- Where text that is not well-formed is refused: the bytes of it before that place are well-formed, and no longer beginning of it is.
use mathlib.Core.Bool.{Bool, cond, false, true, true≢false}
use mathlib.Core.List.{List}
use mathlib.Core.Logic.{◌≢◌}
use mathlib.Core.Option.{none, some}
use mathlib.Core.Path.{◌∙◌, ◌≡◌, ap, refl, subst, sym}
use Prim.Native.Nat.{◌+◌, ◌-◌, ◌<◌, ◌≤◌, suc, zero, ℕ}
use native.Mathlib.Nat.{add_assoc}
use native.Mathlib.Omega.{arith}
use lib.Dec.{T, eqb, eqb_refl, leb}
use lib.ListN.{drop, length, take}
use lib.Seq.{length-take-le}
use borrow.Author.Tests.{eq-eqb}
use Rattle.layout.specs.Reading.{Reader, Refusal, Res, bad, because, fail, fail_at, give, here, more, next, ok, pick, placed, raw, single, then}
use Rattle.layout.specs.Primitives.{Null, Size, checked, compact, empty, fixed, groups, int, keeps, kept, length_of, never, plain, refusal, sized, unsigned}
use Rattle.layout.specs.Rows.{text}
use Rattle.layout.specs.Read.{by_place, counted, read_basic, read_text}
use Rattle.layout.specs.Utf8.{utf8, well_formed}
use Rattle.layout.proofs.Steps.{checked_inv, not_ok, raw_inv}
use Rattle.layout.proofs.Text.{front_fits, front_good, front_longest}

-- ---- a length is refused with another number

record Never {A : Type 0} (r : Reader A) : Type 0 where
  law : (p : ℕ) (s : List ℕ) (e : Refusal) → r p s ≡ bad e → e.number ≢ 7

never_give : {A : Type 0} (x : A) → Never (give x)
unfolding give
never_give x = record { law = λ p s e h. not_ok (sym h) }

never_fail : {A : Type 0} (n : ℕ) → n ≢ 7 → Never (fail {A = A} n)
unfolding fail
never_fail n k = record { law = λ p s e h i. let x : because n p ≡ e = cc in k (ap (λ (c : Refusal). c.number) x ∙ i) }

never_pick : {A : Type 0} (b : Bool) (r q : Reader A) → Never r → Never q → Never (pick b r q)
unfolding pick
never_pick true r q h k = h
never_pick false r q h k = k

never_raw : (n : ℕ) → Never (raw n)
unfolding raw
never_raw n = record { law = λ p s e h. go p s e (leb n (length s)) h }
  where
    go : (p : ℕ) (s : List ℕ) (e : Refusal) (b : Bool) → cond b (ok (take n s) n) (bad (because 3 p)) ≡ bad e → e.number ≢ 7
    go p s e true h = not_ok (sym h)
    go p s e false h = let x : because 3 p ≡ e = cc in λ i. absurd (omega (arith, ap (λ (c : Refusal). c.number) x ∙ i))

-- a refused pair of steps: the first is refused, or the second
then_refused : {A B X : Type 0} (r : Reader A) (f : A → Reader B) (p : ℕ) (s : List ℕ) (e : Refusal) → then r f p s ≡ bad e → (r p s ≡ bad e → X) → ((x : A) (n : ℕ) → r p s ≡ ok x n → f x (p + n) (drop n s) ≡ bad e → X) → X
unfolding then
then_refused {A} {B} {X} r f p s e h first second = go (r p s) refl h
  where
    inner : (x : A) (n : ℕ) → r p s ≡ ok x n → (o : Res B) → f x (p + n) (drop n s) ≡ o → more n o ≡ bad e → X
    inner x n i (ok y m) j d = not_ok (sym d)
    inner x n i (bad c) j d = let z : c ≡ e = cc in second x n i (j ∙ ap bad z)

    go : (o : Res A) → r p s ≡ o → next o f p s ≡ bad e → X
    go (ok x n) i d = inner x n i (f x (p + n) (drop n s)) refl d
    go (bad c) i d = let z : c ≡ e = cc in first (i ∙ ap bad z)

never_then : {A B : Type 0} (r : Reader A) (f : A → Reader B) → Never r → ((x : A) → Never (f x)) → Never (then r f)
never_then r f h k = record { law = λ p s e d. then_refused r f p s e d (h.law p s e) (λ x n i j. (k x).law (p + n) (drop n s) e j) }

never_single : {A : Type 0} (r : Reader A) → Never r → Never (single false r)
unfolding single
never_single {A} r h = record { law = λ p s e d. go p s e (r p s) refl d }
  where
    go : (p : ℕ) (s : List ℕ) (e : Refusal) (o : Res A) → r p s ≡ o → placed false p o ≡ bad e → e.number ≢ 7
    go p s e (ok x n) i d = not_ok (sym d)
    go p s e (bad c) i d = let z : because c.number p ≡ e = cc in λ j. h.law p s c i (ap (λ (c : Refusal). c.number) z ∙ j)

never_int : (k : ℕ) → Never (int k)
unfolding int
never_int k = never_then _ _ (never_raw k) (λ b. never_give _)

never_groups : (k m a : ℕ) → Never (groups k m a)
unfolding groups
never_groups zero m a = never_then _ _ (never_int 1) (λ b. never_pick _ _ _ (never_give _) (never_fail 5 (λ h. absurd (omega (arith, h)))))
never_groups (suc k) m a = never_then _ _ (never_int 1) (λ b. never_pick _ _ _ (never_give _) (never_groups k _ _))

never_unsigned : Never unsigned
unfolding unsigned
never_unsigned = never_single _ (never_groups 9 1 0)

never_length : (z : Size) → Never (length_of unsigned z)
unfolding length_of
never_length (fixed w m) = never_then _ _ (never_int _) (λ n. never_pick _ _ _ (never_give _) (never_pick _ _ _ (never_give _) (never_fail 4 (λ h. absurd (omega (arith, h))))))
never_length (compact m) = never_unsigned
never_length plain = never_then _ _ never_unsigned (λ n. never_give _)

never_null : (z : Size) → refusal z ≢ 7
never_null (fixed w never) h = absurd (omega (arith, h))
never_null (fixed w kept) h = absurd (omega (arith, h))
never_null (fixed w empty) h = absurd (omega (arith, h))
never_null (compact never) h = absurd (omega (arith, h))
never_null (compact kept) h = absurd (omega (arith, h))
never_null (compact empty) h = absurd (omega (arith, h))
never_null plain h = absurd (omega (arith, h))

never_checked : (a : Bool) (z : Size) → Never (checked a (refusal z) (length_of unsigned z))
unfolding checked
never_checked a z = never_single _ (never_then _ _ (never_length z) (λ n. never_pick _ _ _ (never_pick _ _ _ (never_give _) (never_fail (refusal z) (never_null z))) (never_give _)))

-- ---- the place of number 7

-- text t goes wrong after k bytes
pub record WrongAfter (t : List ℕ) (k : ℕ) : Type 0 where
  pub inside : k < length t
  pub well_formed_lem : utf8 (take k t) ≡ true
  pub longest : (n : ℕ) → n ≤ length t → utf8 (take n t) ≡ true → n ≤ k

pub wrong_after : (t : List ℕ) → utf8 t ≡ false → WrongAfter t (well_formed t)
unfolding utf8
wrong_after t e =
    let not_all : well_formed t ≢ length t = λ y. true≢false (sym (eq-eqb (well_formed t) (length t) y) ∙ e) in
    record { inside = omega (arith, front_fits t, not_all); well_formed_lem = front_good t; longest = front_longest t }

-- the text of size z that is read at p before s goes wrong at q: its length says so many bytes, and takes so many itself
pub record Letter (z : Size) (p : ℕ) (s : List ℕ) (q : ℕ) : Type 0 where
  pub bytes : ℕ
  pub used : ℕ
  pub counted : length_of unsigned z p s ≡ ok (bytes + 1) used
  pub there : bytes ≤ length (drop used s)
  pub good : ℕ
  pub place : q ≡ p + used + good
  pub wrong : WrongAfter (take bytes (drop used s)) good

-- a text keeps the place of a 7
kept_place : {A : Type 0} (p : ℕ) (o : Res A) (e : Refusal) → placed true p o ≡ bad e → e.number ≡ 7 → o ≡ bad e
kept_place p (ok x n) e h i = not_ok (sym h)
kept_place {A} p (bad c) e h i = go (eqb c.number 7) refl h
  where
    go : (b : Bool) → eqb c.number 7 ≡ b → ◌≡◌ {A = Res A} (bad (cond b c (because c.number p))) (bad e) → ◌≡◌ {A = Res A} (bad c) (bad e)
    go true j d = d
    go false j d =
        let z : because c.number p ≡ e = cc in
        absurd (true≢false (sym (eq-eqb c.number 7 (ap (λ (c : Refusal). c.number) z ∙ i)) ∙ j))

module _ (w : Bool) (z : Size) (p : ℕ) (s : List ℕ) (e : Refusal) (i : e.number ≡ 7) where
  -- n bytes after the u of the length
  in_text : (n u : ℕ) → read_text (by_place w) n (p + u) (drop u s) ≡ bad e → (n ≤ length (drop u s)) × (utf8 (take n (drop u s)) ≡ false) × (e.place ≡ p + u + well_formed (take n (drop u s)))
  unfolding read_text here fail_at pick give
  in_text n u d = then_refused (raw n) _ (p + u) (drop u s) e d (λ c. absurd ((never_raw n).law _ _ e c i)) (λ b m r c. go b m r (utf8 b) refl c)
    where
      go : (b : List ℕ) (m : ℕ) → raw n (p + u) (drop u s) ≡ ok b m → (t : Bool) → utf8 b ≡ t → pick t (give ((by_place w).make (p + u) b)) (fail_at 7 (p + u + well_formed b)) (p + u + m) (drop m (drop u s)) ≡ bad e → (n ≤ length (drop u s)) × (utf8 (take n (drop u s)) ≡ false) × (e.place ≡ p + u + well_formed (take n (drop u s)))
      go b m r true j c = not_ok (sym c)
      go b m r false j c =
          let x : because 7 (p + u + well_formed b) ≡ e = cc in
          let k = raw_inv n (p + u) (drop u s) b m r in
          (k.fits, ap utf8 (sym k.is) ∙ j, sym (ap (λ (c : Refusal). c.place) x) ∙ ap (λ (t : List ℕ). p + u + well_formed t) k.is)

  letter : (x u : ℕ) → length_of unsigned z p s ≡ ok x u → read_text (by_place w) (x - 1) (p + u) (drop u s) ≡ bad e → Letter z p s e.place
  letter zero u h d = let t = wrong_after _ (in_text (0 - 1) u d).1 in let k = t.inside in absurd (omega arith)
  letter (suc n) u h d =
      let t = in_text (suc n - 1) u d in
      record { bytes = suc n - 1; used = u; counted = h ∙ ap (λ (x : ℕ). ok x u) (omega arith); there = t.0; good = _; place = t.2; wrong = wrong_after _ t.1 }

  -- null is no text
  some_text : (x u : ℕ) → length_of unsigned z p s ≡ ok x u → (b : Bool) → pick b (give none) (then (read_text (by_place w) (x - 1)) (λ y. give (some y))) (p + u) (drop u s) ≡ bad e → Letter z p s e.place
  unfolding pick give
  some_text x u h true c = not_ok (sym c)
  some_text x u h false c = then_refused _ _ (p + u) (drop u s) e c (letter x u h) (λ y n r d. not_ok (sym d))

  in_sized : (t a : Bool) → sized t a (refusal z) (length_of unsigned z) (read_text (by_place w)) p s ≡ bad e → Letter z p s e.place
  unfolding sized pick give
  in_sized true a d =
      then_refused _ _ p s e d (λ c. absurd ((never_checked true z).law p s e c i)) (λ x u h c. some_text x u (checked_inv true _ _ p s x u h) (eqb x 0) c)
  in_sized false a d =
      then_refused _ _ p s e d (λ c. absurd ((never_checked a z).law p s e c i)) (λ x u h c. letter x u (checked_inv a _ _ p s x u h) c)

-- a text is refused at its start, but for 7
as_text : (w : Bool) (z : Size) (p : ℕ) (s : List ℕ) → read_basic (by_place w) (text z) p s ≡ placed true p (counted (by_place w) z (read_text (by_place w)) p s)
unfolding read_basic single
as_text w z p s = refl

pub bad_letter : (w : Bool) (z : Size) (p : ℕ) (s : List ℕ) (e : Refusal) → read_basic (by_place w) (text z) p s ≡ bad e → e.number ≡ 7 → Letter z p s e.place
bad_letter w z p s e h i = in_sized w z p s e i (keeps z) _ (kept_place p _ e (sym (as_text w z p s) ∙ h) i)
