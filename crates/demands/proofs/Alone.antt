-- Primitives by themselves: what they refuse is fair, read or written. A primitive stands as the first field of some shape, and the reader of that shape refuses as it does.
use mathlib.Core.Bool.{Bool, cond, false, true}
use mathlib.Core.List.{List, []}
use mathlib.Core.Option.{Option, none, some}
use mathlib.Core.Path.{◌∙◌, ◌≡◌, ap, refl, subst}
use Prim.Native.Nat.{◌^◌, ◌≤◌, ℕ}
use native.Mathlib.Omega.{arith}
use lib.Dec.{eqb, leb, ltb}
use lib.ListN.{get_elem?, length}
use Rattle.layout.specs.Reading.{Reader, Refusal, Res, bad, because, fail, give, next, ok, pick, placed, single, then}
use Rattle.layout.specs.Primitives as Kafka
use Rattle.layout.specs.Primitives.{Size, Width, admits, cell, checked, holds, int, keeps, length_of, limit, refusal, signed, size, unzigzag, zigzag}
use Rattle.layout.specs.Read.{by_place, read_basic}
use Rattle.layout.specs.Rows.{Basic, array, end, field}
use Rattle.layout.specs.Rows as Rows
use Rattle.layout.specs.Tables.{Tables, read_rows}
use Rattle.layout.specs.Answers.{Answer, alone, most, offered, write_alone}
use Rattle.layout.proofs.Refusals.{Told, tells_rows}
use Rattle.layout.proofs.Steps.{then_bad}
use Rattle.primitives.specs.Parts.{counted}
use Rattle.primitives_put.specs.Answers.{count_fault}
use Rattle.gateway_primitives.specs.Kinds.{Primitive, blob, boolean, count, given, given_count, integer, kinds, read_if, read_kind, read_of, shown, text, unsigned, varint, varlong, write_if, write_kind, write_of}
use Rattle.demands.specs.Refusals.{Answered, Fair}
use Rattle.demands.proofs.Faults.{at_zero, basic_most, of_offered, stored_answered, unless_most}

-- ---- read

abbrev skip : ℕ → List ℕ → List ℕ → List ℕ
skip t cs st = st

given_bad : {A B : Type 0} (r : Reader A) (g : A → B) (s : List ℕ) (e : Refusal) → then r (λ x. give (g x)) 0 s ≡ bad e → r 0 s ≡ bad e
unfolding then give
given_bad {A} {B} r g s e h = go (r 0 s) refl h
  where
    go : (o : Res A) → r 0 s ≡ o → next o (λ x. give (g x)) 0 s ≡ bad e → r 0 s ≡ bad e
    go (ok x n) d h = let z : ◌≡◌ {A = ℕ} 0 1 = cc in absurd (omega arith)
    go (bad c) d h = let x : c ≡ e = cc in d ∙ ap bad x

basic_told : (k : Basic) (s : List ℕ) (e : Refusal) → read_basic (by_place false) k 0 s ≡ bad e → Told 0 s e
unfolding read_rows
basic_told k s e h = (tells_rows false skip (field k end) 0 []).law 0 s e (then_bad (read_basic (by_place false) k) _ 0 s e h)

fair_told : (s : List ℕ) (e : Refusal) → Told 0 s e → Fair (length s) e
fair_told s e t = record { least = (let h = t.least in omega arith); greatest = (let h = t.greatest in omega arith); place_in = (let h = t.before_end in omega arith); no_need = λ n. t.no_need }

-- of a reader alone
abbrev FairRead : {A : Type 0} → Reader A → Type 0
FairRead r = (s : List ℕ) (e : Refusal) → r 0 s ≡ bad e → Fair (length s) e

fair_basic : (k : Basic) → FairRead (read_basic (by_place false) k)
fair_basic k s e h = fair_told s e (basic_told k s e h)

cell_bad : (w : Width) (s : List ℕ) (e : Refusal) → int (size w) 0 s ≡ bad e → read_basic (by_place false) (Rows.number w) 0 s ≡ bad e
unfolding read_basic cell
cell_bad w s e h = then_bad (int (size w)) (λ n. give (Kafka.cell_of (signed w n))) 0 s e h

fair_integer : (w : Width) → FairRead (Kafka.integer w)
unfolding Kafka.integer
fair_integer w s e h = fair_basic (Rows.number w) s e (cell_bad w s e (given_bad (int (size w)) (signed w) s e h))

fair_unsigned : FairRead Kafka.unsigned
unfolding read_basic
fair_unsigned s e h = fair_basic Rows.natural s e h

fair_flag : FairRead Kafka.flag
unfolding read_basic
fair_flag s e h = fair_basic Rows.boolean s e h

fair_varlong : FairRead Kafka.varlong
unfolding Kafka.varlong
fair_varlong s e h = fair_unsigned s e (given_bad Kafka.unsigned unzigzag s e h)

-- a primitive refuses at its start
at_start : (s : List ℕ) (n : ℕ) (e : Refusal) → 1 ≤ n → n ≤ 14 → because n 0 ≡ e → Fair (length s) e
at_start s n e a b x = subst (Fair (length s)) x (record { least = a; greatest = b; place_in = omega arith; no_need = λ h. refl })

fair_varint : FairRead Kafka.varint
unfolding Kafka.varint single then give fail pick
fair_varint s e h = go (Kafka.unsigned 0 s) refl h
  where
    at_limit : (n m : ℕ) (c : Bool) → placed false 0 (next (ok n m) (λ n. pick c (give (unzigzag n)) (fail 11)) 0 s) ≡ bad e → Fair (length s) e
    at_limit n m true h = let z : ◌≡◌ {A = ℕ} 0 1 = cc in absurd (omega arith)
    at_limit n m false h = at_start s 11 e (omega arith) (omega arith) (cc)

    go : (o : Res ℕ) → Kafka.unsigned 0 s ≡ o → placed false 0 (next o (λ n. pick (ltb n (2 ^ 32)) (give (unzigzag n)) (fail 11)) 0 s) ≡ bad e → Fair (length s) e
    go (ok n m) d h = at_limit n m (ltb n (2 ^ 32)) h
    go (bad c) d h = let t = fair_unsigned s c d in at_start s c.number e t.least t.greatest (cc)

count_told : (z : Size) (s : List ℕ) (e : Refusal) → checked (admits false z) (refusal z) (length_of Kafka.unsigned z) 0 s ≡ bad e → Told 0 s e
unfolding read_rows
count_told z s e h = (tells_rows false skip (array z 1 end end) 0 []).law 0 s e (then_bad (checked (admits false z) (refusal z) (length_of Kafka.unsigned z)) _ 0 s e h)

fair_count : (z : Size) → FairRead (counted z)
unfolding counted checked single then give fail pick
fair_count z s e h = go (length_of Kafka.unsigned z 0 s) refl h
  where
    at_null : (n m : ℕ) (c : Bool) → placed false 0 (next (ok n m) (λ n. pick c (pick true (give 0) (fail 4)) (give n)) 0 s) ≡ bad e → Fair (length s) e
    at_null n m true h = let z : ◌≡◌ {A = ℕ} 0 1 = cc in absurd (omega arith)
    at_null n m false h = let z : ◌≡◌ {A = ℕ} 0 1 = cc in absurd (omega arith)

    go : (o : Res ℕ) → length_of Kafka.unsigned z 0 s ≡ o → placed false 0 (next o (λ n. pick (eqb n 0) (pick true (give 0) (fail 4)) (give n)) 0 s) ≡ bad e → Fair (length s) e
    go (ok n m) d h = at_null n m (eqb n 0) h
    go (bad c) d h =
        let x : checked (admits false z) (refusal z) (length_of Kafka.unsigned z) 0 s ≡ bad (because c.number 0) = ap (λ (o : Res ℕ). placed false 0 (next o (λ n. pick (eqb n 0) (pick (admits false z) (give 0) (fail (refusal z))) (give n)) 0 s)) d in
        subst (Fair (length s)) (cc) (fair_told s (because c.number 0) (count_told z s (because c.number 0) x))

fair_alone : {A : Type 0} (r : Reader A) → FairRead r → (s : List ℕ) (e : Refusal) → alone r s ≡ bad e → Fair (length s) e
unfolding alone
fair_alone {A} r f s e h = go (leb (length s) most) h
  where
    go : (c : Bool) → cond c (r 0 s) (bad (because 2 0)) ≡ bad e → Fair (length s) e
    go true h = f s e h
    go false h = at_start s 2 e (omega arith) (omega arith) (cc)

-- nothing is lent
abbrev Alone : List ℕ → Answer → Type 0
Alone s a = Answered {A = Tables} (length s) [] [] a

of_shown_lem : {A : Type 0} (f : A → List ℕ) (r : Reader A) → FairRead r → (s : List ℕ) → Alone s (shown f (alone r s))
of_shown_lem {A} f r h s = go (alone r s) (fair_alone r h s)
  where
    go : (o : Res A) → ((e : Refusal) → o ≡ bad e → Fair (length s) e) → Alone s (shown f o)
    go (ok x n) h = tt
    go (bad e) h = (h e refl, refl)

read_of_lem : (p : Primitive) (s : List ℕ) → Alone s (read_of p s)
unfolding read_of
read_of_lem (integer w) s = of_shown_lem _ (Kafka.integer w) (fair_integer w) s
read_of_lem boolean s = of_shown_lem _ Kafka.flag fair_flag s
read_of_lem unsigned s = of_shown_lem _ Kafka.unsigned fair_unsigned s
read_of_lem varint s = of_shown_lem _ Kafka.varint fair_varint s
read_of_lem varlong s = of_shown_lem _ Kafka.varlong fair_varlong s
read_of_lem (count z) s = of_shown_lem _ (counted z) (fair_count z) s
read_of_lem (blob z) s = of_shown_lem _ (read_basic (by_place false) (Rows.blob z)) (fair_basic (Rows.blob z)) s
read_of_lem (text z) s = of_shown_lem _ (read_basic (by_place false) (Rows.text z)) (fair_basic (Rows.text z)) s

pub read_kind_lem : (k : ℕ) (s : List ℕ) → Answered {A = Tables} (length s) [] [] (read_kind k s)
unfolding read_kind
read_kind_lem k s = go (get_elem? kinds k)
  where
    go : (o : Option Primitive) → Alone s (read_if o s)
    go none = (at_start s 1 (because 1 0) (omega arith) (omega arith) refl, refl)
    go (some p) = read_of_lem p s

-- ---- written

count_most : (z : Size) (null : Bool) (n : ℕ) → count_fault z (given_count null n) ≤ 11
unfolding count_fault
count_most z true n = omega arith
count_most z false n = unless_most (ltb n (limit z)) 2 11 (omega arith)

write_alone_lem : (f : ℕ) → f ≤ 11 → (bs out : List ℕ) → Answered 0 out (write_alone f bs out).1 (write_alone f bs out).0
unfolding write_alone
write_alone_lem f h bs out = stored_answered out (offered f bs) (of_offered f h bs)

write_of_lem : (p : Primitive) (null : Bool) (c : ℕ) (x out : List ℕ) → Answered 0 out (write_of p null c x out).1 (write_of p null c x out).0
unfolding write_of
write_of_lem (integer w) null c x out = write_alone_lem _ (unless_most (holds w (Kafka.cell_of (signed Kafka.w64 c))) 11 11 (omega arith)) _ out
write_of_lem boolean null c x out = write_alone_lem 0 (omega arith) _ out
write_of_lem unsigned null c x out = write_alone_lem 0 (omega arith) _ out
write_of_lem varint null c x out = write_alone_lem _ (unless_most (ltb (zigzag (signed Kafka.w64 c)) (2 ^ 32)) 11 11 (omega arith)) _ out
write_of_lem varlong null c x out = write_alone_lem 0 (omega arith) _ out
write_of_lem (count z) null c x out = write_alone_lem _ (count_most z null c) _ out
write_of_lem (blob z) null c x out = write_alone_lem _ (basic_most (Rows.blob z) (given (keeps z) null x)) _ out
write_of_lem (text z) null c x out = write_alone_lem _ (basic_most (Rows.text z) (given (keeps z) null x)) _ out

pub write_kind_lem : (k : ℕ) (null : Bool) (c : ℕ) (x out : List ℕ) → Answered 0 out (write_kind k null c x out).1 (write_kind k null c x out).0
unfolding write_kind
write_kind_lem k null c x out = go (get_elem? kinds k)
  where
    go : (o : Option Primitive) → Answered 0 out (write_if o null c x out).1 (write_if o null c x out).0
    go none = (at_zero 1 (omega arith) (omega arith), refl)
    go (some p) = write_of_lem p null c x out
