-- Lengths and counts, and what stands behind them: what each step answers, and what a field's reader makes of it. One law over the form of the length and the kind of contents.
use mathlib.Core.Bool.{Bool, ◌&&◌, cond, false, true}
use mathlib.Core.List.{List}
use mathlib.Core.Logic.{◌≢◌}
use mathlib.Core.Path.{◌∙◌, ◌≡◌, ap, refl, subst, sym}
use mathlib.Core.Option.{none, some}
use Prim.Native.Nat.{◌+◌, ◌-◌, ◌<◌, ◌^◌, ◌≤◌, suc, zero, ℕ}
use native.Mathlib.Nat.{add-zero, zero-add}
use native.Mathlib.Omega.{arith}
use lib.Dec.{eqb, ltb}
use lib.ListN.{drop, drop_of_length-le, length, length-drop, take}
use lib.Seq.{length-take-le, take_all}
use borrow.Author.Tests.{eq-eqb, ne_eqb}
use Rattle.layout.specs.Reading.{Reader, Refusal, Res, bad, because, fail, fail_at, give, here, more, next, ok, pick, placed, raw, single, then}
use Rattle.layout.specs.Primitives.{Null, Width, bits, checked, compact, fixed, int, length_of, size, sized, unsigned}
use Rattle.layout.specs.Read.{read_blob, read_text}
use Rattle.layout.specs.Utf8.{utf8, well_formed}
use Rattle.layout.specs.Tables.{Span}
use Rattle.primitives.specs.Answers.{Read, of_number, of_refusal, taken}
use Rattle.std.specs.Option.{unwrap_or}
use Rattle.std.specs.Prelude.{Ok, Err, Some, None, Option as Maybe}
use Rattle.primitives.specs.Parts.{counted, counted_as, data_behind, kept_behind, kept_or, of_count, of_length, shown_behind, shown_or, some_part, text_behind}
use Rattle.layout.proofs.Steps.{checked_inv, raw_bad, then_bad, then_ok}
use Rattle.layout.proofs.Tests.{lt-false, lt-true, one_more}
use Rattle.layout.proofs.Local.{raw_ok}
use Rattle.layout.proofs.Text.{front_fits}
use Rattle.primitives.proofs.Cells.{int_refuses}

-- ---- a length that may be null or not

module _ (len : Reader ℕ) (s : List ℕ) where
  pub checked_some : (a : Bool) (e n u : ℕ) → len 0 s ≡ ok (n + 1) u → checked a e len 0 s ≡ ok (n + 1) u
  unfolding checked single pick give
  checked_some a e n u h = ap (placed false 0) (then_ok len _ 0 s (n + 1) u h) ∙ rw (one_more n) (ap (λ (k : ℕ). ok (n + 1) k) (add-zero u))

  pub checked_null : (e u : ℕ) → len 0 s ≡ ok 0 u → checked true e len 0 s ≡ ok 0 u
  unfolding checked single pick give
  checked_null e u h = ap (placed false 0) (then_ok len _ 0 s 0 u h ∙ ap (λ (k : ℕ). ok 0 k) (add-zero u))

  pub checked_never : (e u : ℕ) → len 0 s ≡ ok 0 u → checked false e len 0 s ≡ bad (because e 0)
  unfolding checked single pick fail
  checked_never e u h = ap (placed false 0) (then_ok len _ 0 s 0 u h)

  pub checked_bad : (a : Bool) (e : ℕ) (c : Refusal) → len 0 s ≡ bad c → checked a e len 0 s ≡ bad (because c.number 0)
  unfolding checked single
  checked_bad a e c h = ap (placed false 0) (then_bad len _ 0 s c h)

  -- what a length with its null refuses was refused by the length
  pub length_bad : (e : ℕ) (c : Refusal) → checked true e len 0 s ≡ bad c → (d : Refusal) × (len 0 s ≡ bad d) × (c ≡ because d.number 0)
  length_bad e c h = go (len 0 s) refl
    where
      go : (o : Res ℕ) → len 0 s ≡ o → (d : Refusal) × (len 0 s ≡ bad d) × (c ≡ because d.number 0)
      go (ok zero u) i = let k = checked_null e u i in let z : ◌≡◌ {A = ℕ} 0 1 = cc in absurd (omega arith)
      go (ok (suc n) u) i = let k = checked_some true e n u (i ∙ ap (λ (m : ℕ). ok m u) (omega arith)) in let z : ◌≡◌ {A = ℕ} 0 1 = cc in absurd (omega arith)
      go (bad d) i = let k = checked_bad true e d i in (d, i, cc)

-- ---- a number of the width w, looked at as not negative

-- one case each
module _ (n : Read ℕ) (half null v u : ℕ) (i : n ≡ taken v u) where
  pub length_some : v < half → ok (v + 1) u ≡ of_length half null n
  length_some h = sym (ap (of_length half null) i ∙ rw (lt-true v half h))

  pub length_null : half ≤ v → v ≡ null → ok 0 u ≡ of_length half null n
  length_null h g = sym (ap (of_length half null) i ∙ rw (lt-false v half h, eq-eqb v null g))

  pub length_below : half ≤ v → v ≢ null → (c : Refusal) → c ≡ because 4 0 → bad c ≡ of_length half null n
  length_below h g c e = ap bad e ∙ sym (ap (of_length half null) i ∙ rw (lt-false v half h, ne_eqb v null g))

module _ (w : Width) (m : Null) (s : List ℕ) where
  -- what a length judged with its null makes of the number
  judged_is : (v u : ℕ) → int (size w) 0 s ≡ ok v u → cond (ltb v (2 ^ (bits w - 1))) (ok (v + 1) u) (cond (eqb v (2 ^ bits w - 1)) (ok 0 u) (bad (because 4 0))) ≡ counted (fixed w m) 0 s
  unfolding counted length_of pick give fail
  judged_is v u h = go (ltb v (2 ^ (bits w - 1))) (eqb v (2 ^ bits w - 1)) (then_ok (int (size w)) _ 0 s v u h)
    where
      go : (a b : Bool) → length_of unsigned (fixed w m) 0 s ≡ more u (pick a (give (v + 1)) (pick b (give 0) (fail 4)) (0 + u) (drop u s)) → cond a (ok (v + 1) u) (cond b (ok 0 u) (bad (because 4 0))) ≡ counted (fixed w m) 0 s
      go true b e = sym (checked_some (length_of unsigned (fixed w m)) s true 4 v u (e ∙ ap (λ (k : ℕ). ok (v + 1) k) (add-zero u)))
      go false true e = sym (checked_null (length_of unsigned (fixed w m)) s 4 u (e ∙ ap (λ (k : ℕ). ok 0 k) (add-zero u)))
      go false false e = sym (checked_bad (length_of unsigned (fixed w m)) s true 4 _ e)

  pub length_is : (n : Read ℕ) (o : Res ℕ) → of_number n ≡ int (size w) 0 s → o ≡ of_length (2 ^ (bits w - 1)) (2 ^ bits w - 1) n → o ≡ counted (fixed w m) 0 s
  unfolding counted length_of
  length_is n o e d = d ∙ go n e
    where
      go : (n : Read ℕ) → of_number n ≡ int (size w) 0 s → of_length (2 ^ (bits w - 1)) (2 ^ bits w - 1) n ≡ counted (fixed w m) 0 s
      go (Ok t) e = judged_is t.value t.next (sym e)
      go (Err c) e =
          ap bad (int_refuses (size w) s _ (sym e))
          ∙ sym (checked_bad (length_of unsigned (fixed w m)) s true 4 _ (then_bad (int (size w)) _ 0 s _ (sym e)) ∙ ap (λ (c : Refusal). bad (because c.number 0)) (int_refuses (size w) s _ (sym e)))

-- ---- an unsigned varint, one more than the length

module _ (m : Null) (s : List ℕ) where
  pub compact_null : (n u : ℕ) → unsigned 0 s ≡ ok n u → n ≡ 0 → ok 0 u ≡ counted (compact m) 0 s
  unfolding counted length_of
  compact_null n u h e = sym (checked_null (length_of unsigned (compact m)) s 4 u (h ∙ ap (λ (k : ℕ). ok k u) e))

  pub compact_some : (n u : ℕ) → unsigned 0 s ≡ ok n u → n ≢ 0 → ok (n - 1 + 1) u ≡ counted (compact m) 0 s
  unfolding counted length_of
  compact_some n u h e = sym (checked_some (length_of unsigned (compact m)) s true 4 (n - 1) u (h ∙ ap (λ (k : ℕ). ok k u) (omega arith)))

  pub compact_bad : (c : Refusal) → unsigned 0 s ≡ bad c → c ≡ because c.number 0 → bad c ≡ counted (compact m) 0 s
  unfolding counted length_of
  compact_bad c h e = ap bad e ∙ sym (checked_bad (length_of unsigned (compact m)) s true 4 c h)

-- what is refused at the start stays there
at_start : {A : Type 0} (t : Bool) (n : ℕ) → placed {A = A} t 0 (bad (because n 0)) ≡ bad (because n 0)
at_start {A} t n = go (t && eqb n 7)
  where
    go : (b : Bool) → ◌≡◌ {A = Res A} (bad (cond b (because n 0) (because n 0))) (bad (because n 0))
    go true = refl
    go false = refl

-- the contents behind the u bytes of the length
abbrev behind : Bool → (ℕ → Reader Span) → ℕ → ℕ → List ℕ → Res Span
behind t F u n s = placed t 0 (more u (F n u (drop u s)))

module _ (t : Bool) (len : Reader ℕ) (F : ℕ → Reader Span) (s : List ℕ) where
  from_0 : (n m u : ℕ) → n ≡ m → more u (F n (0 + u) (drop u s)) ≡ more u (F m u (drop u s))
  from_0 n m u e = λ i. more u (F (e i) (zero-add u i) (drop u s))

  plain_some : (a : Bool) (e n u : ℕ) → len 0 s ≡ ok (n + 1) u → single t (sized false a e len F) 0 s ≡ behind t F u n s
  unfolding sized single
  plain_some a e n u h = ap (placed t 0) (then_ok (checked a e len) _ 0 s (n + 1) u (checked_some len s a e n u h) ∙ from_0 (n + 1 - 1) n u (omega arith))

  plain_null : (a : Bool) (e u : ℕ) → len 0 s ≡ ok 0 u → cond a (behind t F u 0 s) (bad (because e 0)) ≡ single t (sized false a e len F) 0 s
  unfolding sized single
  plain_null true e u h = sym (ap (placed t 0) (then_ok (checked true e len) _ 0 s 0 u (checked_null len s e u h) ∙ from_0 0 0 u refl))
  plain_null false e u h = sym (ap (placed t 0) (then_bad (checked false e len) _ 0 s (because e 0) (checked_never len s e u h)) ∙ at_start t e)

  plain_bad : (a : Bool) (e : ℕ) (d : Refusal) → len 0 s ≡ bad d → single t (sized false a e len F) 0 s ≡ bad (because d.number 0)
  unfolding sized single
  plain_bad a e d h = ap (placed t 0) (then_bad (checked a e len) _ 0 s _ (checked_bad len s a e d h)) ∙ at_start t d.number

  kept_bad : (a : Bool) (e : ℕ) (d : Refusal) → len 0 s ≡ bad d → single t (sized true a e len F) 0 s ≡ bad (because d.number 0)
  unfolding sized single
  kept_bad a e d h = ap (placed t 0) (then_bad (checked true e len) _ 0 s _ (checked_bad len s true e d h)) ∙ at_start t d.number

  kept_null : (a : Bool) (e u : ℕ) → len 0 s ≡ ok 0 u → single t (sized true a e len F) 0 s ≡ ok none u
  unfolding single sized pick give
  kept_null a e u h = ap (placed t 0) (then_ok (checked true e len) _ 0 s 0 u (checked_null len s e u h) ∙ ap (λ (k : ℕ). ok none k) (add-zero u))

  -- `some` on the inside is `some` on the outside
  some_out : (u : ℕ) (o : Res Span) → placed t 0 (more u (next o (λ x. give (some x)) u (drop u s))) ≡ some_part (placed t 0 (more u o))
  unfolding give
  some_out u (ok x n) = ap (λ (k : ℕ). ok (some x) (u + k)) (add-zero n)
  some_out u (bad c) = refl

  kept_some : (a : Bool) (e n u : ℕ) → len 0 s ≡ ok (n + 1) u → single t (sized true a e len F) 0 s ≡ some_part (behind t F u n s)
  unfolding single sized pick then
  kept_some a e n u h =
      let m : n + 1 - 1 ≡ n = omega arith in
      ap (placed t 0) (then_ok (checked true e len) _ 0 s (n + 1) u (checked_some len s true e n u h))
      ∙ rw (one_more n) ((λ i. placed t 0 (more u (then (F (m i)) (λ x. give (some x)) (zero-add u i) (drop u s)))) ∙ some_out u (F n u (drop u s)))

-- ---- and so what the field's reader gives: r is the length that was read, and k what it was

module _ (t : Bool) (len : Reader ℕ) (s : List ℕ) (F : ℕ → Reader Span) (a : Bool) (e : ℕ) where
  shown_or_lem : (c : Maybe ℕ) (u : ℕ) → ok (counted_as c) u ≡ checked true 4 len 0 s → shown_or (behind t F) a e s u c ≡ single t (sized false a e len F) 0 s
  shown_or_lem (Some n) u h = sym (plain_some t len F s a e n u (checked_inv true 4 len 0 s (n + 1) u (sym h)))
  shown_or_lem None u h = plain_null t len F s a e u (checked_inv true 4 len 0 s 0 u (sym h))

  shown_of_lem : (r : Read (Maybe ℕ)) → of_count r ≡ checked true 4 len 0 s → shown_behind (behind t F) a e s r ≡ single t (sized false a e len F) 0 s
  shown_of_lem (Ok r) h = shown_or_lem r.value r.next h
  shown_of_lem (Err c) h = let b = length_bad len s 4 (of_refusal c) (sym h) in ap bad b.2 ∙ sym (plain_bad t len F s a e b.0 b.1)

  pub shown_is : (r : Read (Maybe ℕ)) → of_count r ≡ checked true 4 len 0 s → (k : Read (Maybe ℕ)) → r ≡ k → shown_behind (behind t F) a e s k ≡ single t (sized false a e len F) 0 s
  shown_is r h k i = ap (shown_behind (behind t F) a e s) (sym i) ∙ shown_of_lem r h

  kept_or_lem : (c : Maybe ℕ) (u : ℕ) → ok (counted_as c) u ≡ checked true 4 len 0 s → kept_or (behind t F) s u c ≡ single t (sized true a e len F) 0 s
  kept_or_lem (Some n) u h = sym (kept_some t len F s a e n u (checked_inv true 4 len 0 s (n + 1) u (sym h)))
  kept_or_lem None u h = sym (kept_null t len F s a e u (checked_inv true 4 len 0 s 0 u (sym h)))

  kept_of : (r : Read (Maybe ℕ)) → of_count r ≡ checked true 4 len 0 s → kept_behind (behind t F) s r ≡ single t (sized true a e len F) 0 s
  kept_of (Ok r) h = kept_or_lem r.value r.next h
  kept_of (Err c) h = let b = length_bad len s 4 (of_refusal c) (sym h) in ap bad b.2 ∙ sym (kept_bad t len F s a e b.0 b.1)

  pub kept_is : (r : Read (Maybe ℕ)) → of_count r ≡ checked true 4 len 0 s → (k : Read (Maybe ℕ)) → r ≡ k → kept_behind (behind t F) s k ≡ single t (sized true a e len F) 0 s
  kept_is r h k i = ap (kept_behind (behind t F) s) (sym i) ∙ kept_of r h

-- ---- the contents

good_text : (x : List ℕ) → well_formed x ≡ length x → utf8 x ≡ true
unfolding utf8
good_text x e = eq-eqb (well_formed x) (length x) e

bad_text : (x : List ℕ) → well_formed x ≢ length x → utf8 x ≡ false
unfolding utf8
bad_text x e = ne_eqb (well_formed x) (length x) e

-- g: the longest well-formed beginning of n bytes
pub front_inside : (left : List ℕ) (n : ℕ) → n ≤ length left → (g : ℕ) → g ≡ well_formed (take n left) → g ≤ n
front_inside left n h g e = let f = front_fits (take n left) in let l : length (take n left) ≡ n = length-take-le n left h in omega arith

module _ (s left : List ℕ) (u n : ℕ) (i : left ≡ drop u s) where
  -- made by G of the place and the bytes
  abbrev part : (ℕ → List ℕ → Reader Span) → Res Span
  part G = more u (here (λ p. then (raw n) (G p)) u (drop u s))

  part_short : (G : ℕ → List ℕ → Reader Span) → length left < n → part G ≡ bad (because 3 u)
  unfolding here
  part_short G h = ap (more u) (then_bad (raw n) _ u (drop u s) (because 3 u) (raw_bad n u (drop u s) (subst (λ (t : List ℕ). length t < n) i h)))

  part_is : (G : ℕ → List ℕ → Reader Span) → n ≤ length left → part G ≡ more u (more n (G u (take n (drop u s)) (u + n) (drop n (drop u s))))
  unfolding here
  part_is G h = ap (more u) (then_ok (raw n) _ u (drop u s) (take n (drop u s)) n (raw_ok n u (drop u s) (subst (λ (t : List ℕ). n ≤ length t) i h)))

  shown : n ≤ length left → ◌≡◌ {A = Res Span} (ok (u, length (take n (drop u s))) (u + (n + 0))) (ok (u, n) (u + n))
  shown h = λ t. ok (u, length-take-le n (drop u s) (subst (λ (q : List ℕ). n ≤ length q) i h) t) (u + add-zero n t)

  pub data_short : (p : ℕ) (c : Refusal) → c ≡ because 3 p → length left < n → bad c ≡ data_behind p u n s
  unfolding data_behind read_blob
  data_short p c e h = ap bad e ∙ sym (ap (placed false p) (part_short (λ p b. give (p, length b)) h))

  pub data_is : (p : ℕ) → n ≤ length left → ok (u, n) (u + n) ≡ data_behind p u n s
  unfolding data_behind read_blob give
  data_is p h = sym (ap (placed false p) (part_is (λ p b. give (p, length b)) h) ∙ shown h)

  -- text, well-formed or not
  abbrev judge : ℕ → List ℕ → Reader Span
  judge p b = pick (utf8 b) (give (p, length b)) (fail_at 7 (p + well_formed b))

  pub text_short : (c : Refusal) → c ≡ because 3 0 → length left < n → bad c ≡ text_behind u n s
  unfolding text_behind read_text
  text_short c e h = ap bad e ∙ sym (ap (placed true 0) (part_short judge h))

  pub text_is : n ≤ length left → well_formed (take n left) ≡ n → ok (u, n) (u + n) ≡ text_behind u n s
  unfolding text_behind read_text pick give
  text_is h w =
      let l : length (take n left) ≡ n = length-take-le n left h in
      let b : utf8 (take n left) ≡ true = good_text (take n left) (w ∙ sym l) in
      sym (ap (placed true 0) (part_is judge h) ∙ rw (ap (λ (t : List ℕ). utf8 (take n t)) (sym i) ∙ b) (shown h))

  -- g: its longest well-formed beginning
  module _ (h : n ≤ length left) (g : ℕ) (e : g ≡ well_formed (take n left)) where
    pub text_not : g ≢ n → (c : Refusal) → c ≡ because 7 (u + g) → bad c ≡ text_behind u n s
    unfolding text_behind read_text pick fail_at
    text_not w c d =
        let l : length (take n left) ≡ n = length-take-le n left h in
        let b : utf8 (take n left) ≡ false = bad_text (take n left) (λ z. w (e ∙ z ∙ l)) in
        ap bad (d ∙ ap (λ (k : ℕ). because 7 (u + k)) e ∙ ap (λ (t : List ℕ). because 7 (u + well_formed (take n t))) i) ∙ sym (ap (placed true 0) (part_is judge h) ∙ rw (ap (λ (t : List ℕ). utf8 (take n t)) (sym i) ∙ b))

pub rest_in : (s : List ℕ) (n : ℕ) → take (length s - n) (drop n s) ≡ drop n s
rest_in s n = take_all (length s - n) (drop n s) (omega (arith, length-drop n s))

pub rest_out : (s : List ℕ) (n : ℕ) → length s ≤ n → take (length s - length s) (drop (length s) s) ≡ drop n s
rest_out s n h = rest_in s (length s) ∙ drop_of_length-le s {i = length s} (omega arith) ∙ sym (drop_of_length-le s {i = n} h)

-- a null that is shown as empty
pub shown_empty : (b : ℕ → ℕ → List ℕ → Res Span) (e : ℕ) (s : List ℕ) (n : ℕ) (c : Maybe ℕ) (k : ℕ) → k ≡ unwrap_or c 0 → b n k s ≡ shown_or b true e s n c
shown_empty b e s n None k h = ap (λ (j : ℕ). b n j s) h
shown_empty b e s n (Some j) k h = ap (λ (j : ℕ). b n j s) h
