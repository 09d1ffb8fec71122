-- What a write refuses is fair: a fault is 7 or 11, and the place is 0.
use mathlib.Core.Bool.{Bool, cond, false, true}
use mathlib.Core.List.{List, [], ◌++◌, ◌∷◌}
use mathlib.Core.Option.{none, some}
use mathlib.Core.Path.{◌≡◌, refl, subst, sym}
use Prim.Native.Nat.{◌^◌, ◌≤◌, suc, zero, ℕ}
use native.Mathlib.Omega.{arith}
use lib.Dec.{leb, ltb}
use lib.IntN.{ℤ, negsuc, pos}
use lib.ListN.{drop, length}
use Rattle.layout.specs.Reading.{Refusal, Res, bad, because, no_room, ok}
use Rattle.layout.specs.Primitives.{Maybe, Size, holds, keeps, limit}
use Rattle.layout.specs.Utf8.{utf8}
use Rattle.layout.specs.Rows.{Basic, BasicValue, Shape, Value, absent, array, blob, boolean, end, field, lacking, level, natural, number, optional, text}
use Rattle.layout.specs.Write.{basic_fault, fault, first_of, or, sized_fault, too_long, unless}
use Rattle.layout.specs.Tables.{Tables, good}
use Rattle.layout.specs.Answers.{Answer, Message, accepted, body, judged_good, made, meant, most, offered, refused, shape, stored, write_answer}
use Rattle.demands.specs.Refusals.{Answered, Fair}

pub no_room_lem : (size k : ℕ) → Fair size (no_room k)
no_room_lem size k = record { least = omega arith; greatest = omega arith; place_in = omega arith; no_need = λ n. absurd (n refl) }

or_most : (k a b : ℕ) → a ≤ k → b ≤ k → or a b ≤ k
unfolding or
or_most k zero b h g = g
or_most k (suc a) b h g = h

pub unless_most : (b : Bool) (e k : ℕ) → e ≤ k → unless b e ≤ k
unfolding unless
unless_most true e k h = omega arith
unless_most false e k h = h

first_most : {A : Type 0} (k : ℕ) (g : A → ℕ) → ((x : A) → g x ≤ k) → (xs : List A) → first_of g xs ≤ k
unfolding first_of
first_most k g h [] = omega arith
first_most k g h (x ∷ xs) = or_most k (g x) (first_of g xs) (h x) (first_most k g h xs)

long_most : (z : Size) (n : ℕ) → too_long z n ≤ 11
unfolding too_long
long_most z n = go (leb (limit z) 32768)
  where
    go : (b : Bool) → cond b (unless (ltb n (limit z)) 11) 0 ≤ 11
    go true = unless_most (ltb n (limit z)) 11 11 (omega arith)
    go false = omega arith

sized_most : {A : Type 0} (b : Bool) (z : Size) (g : List A → ℕ) → ((xs : List A) → g xs ≤ 11) → (x : Maybe b (List A)) → sized_fault b z g x ≤ 11
unfolding sized_fault
sized_most true z g h none = omega arith
sized_most true z g h (some xs) = or_most 11 _ (g xs) (long_most z (length xs)) (h xs)
sized_most false z g h xs = or_most 11 _ (g xs) (long_most z (length xs)) (h xs)

pub basic_most : (k : Basic) (x : BasicValue (List ℕ) k) → basic_fault k x ≤ 11
unfolding basic_fault
basic_most (number w) x = unless_most (holds w x) 11 11 (omega arith)
basic_most boolean x = omega arith
basic_most level x = unless_most (leb x 1) 11 11 (omega arith)
basic_most natural x = unless_most (ltb x (2 ^ 64)) 11 11 (omega arith)
basic_most (text z) x = sized_most (keeps z) z (λ y. unless (utf8 y) 7) (λ y. unless_most (utf8 y) 7 11 (omega arith)) x
basic_most (blob z) x = sized_most (keeps z) z (λ y. 0) (λ y. omega arith) x
basic_most (optional d k) x = basic_most k x

pub fault_most : (l : Shape) (x : Value (List ℕ) l) → fault l x ≤ 11
unfolding fault
fault_most end x = omega arith
fault_most (field k r) x = or_most 11 (basic_fault k x.0) (fault r x.1) (basic_most k x.0) (fault_most r x.1)
fault_most (absent k r) x = fault_most r x
fault_most (array z t i r) x =
    or_most 11 (sized_fault (keeps z) z (λ xs. first_of (fault i) xs) x.0) (fault r x.1) (sized_most (keeps z) z (λ xs. first_of (fault i) xs) (λ xs. first_most 11 (fault i) (fault_most i) xs) x.0) (fault_most r x.1)
fault_most (lacking z t i r) x = fault_most r x

pub at_zero : (n : ℕ) → 1 ≤ n → n ≤ 14 → Fair 0 (because n 0)
at_zero n a b = record { least = a; greatest = b; place_in = omega arith; no_need = λ h. refl }

pub is_bad : {A : Type 0} (n : ℕ) (e : Refusal) → 1 ≤ n → n ≤ 14 → ◌≡◌ {A = Res A} (bad (because n 0)) (bad e) → Fair 0 e
is_bad n e a b h = let x : because n 0 ≡ e = cc in subst (Fair 0) x (at_zero n a b)

-- what is offered: 2 where it is too long, and else its first fault
pub of_offered : (f : ℕ) → f ≤ 11 → (bs : List ℕ) (e : Refusal) → offered f bs ≡ bad e → Fair 0 e
of_offered zero g bs e h = at_size (leb (length bs) most) h
  where
    at_size : (c : Bool) → cond c (ok bs (length bs)) (bad (because 2 0)) ≡ bad e → Fair 0 e
    at_size true h = let z : ◌≡◌ {A = ℕ} 0 1 = cc in absurd (omega arith)
    at_size false h = is_bad 2 e (omega arith) (omega arith) h
of_offered (suc f) g bs e h = is_bad (suc f) e (omega arith) (omega arith) h

of_made : (m : Message) (v : ℤ) (lent : List ℕ) (st : Tables) (e : Refusal) → made m v lent st ≡ bad e → Fair 0 e
unfolding made
of_made m (negsuc v) lent st e h = is_bad 1 e (omega arith) (omega arith) h
of_made m (pos v) lent st e h = at_version_lem (leb v m.last) h
  where
    l : Shape
    l = shape m v

    at_tables : (c : Bool) → cond c (offered (fault l (meant lent st l)) (body lent st l)) (bad (because 13 0)) ≡ bad e → Fair 0 e
    at_tables true h = of_offered (fault l (meant lent st l)) (fault_most l (meant lent st l)) (body lent st l) e h
    at_tables false h = is_bad 13 e (omega arith) (omega arith) h

    at_version_lem : (c : Bool) → cond c (judged_good m lent st (offered (fault l (meant lent st l)) (body lent st l))) (bad (because 1 0)) ≡ bad e → Fair 0 e
    at_version_lem true h = at_tables (good (length lent) m.tables (shape m 0) st) h
    at_version_lem false h = is_bad 1 e (omega arith) (omega arith) h

-- what is stored, or refused: 10 where it does not fit
pub stored_answered : (out : List ℕ) (o : Res (List ℕ)) → ((e : Refusal) → o ≡ bad e → Fair 0 e) → Answered 0 out (stored out o).1 (stored out o).0
stored_answered out (bad e) h = (h e refl, refl)
stored_answered out (ok bs n) h = go (leb n (length out)) (stored out (ok bs n)) refl
  where
    go : (c : Bool) (x : Answer × List ℕ) → x ≡ cond c (accepted [] n, bs ++ drop n out) (refused (no_room n), out) → Answered 0 out x.1 x.0
    go true x e = subst (λ (y : Answer × List ℕ). Answered 0 out y.1 y.0) (sym e) tt
    go false x e = subst (λ (y : Answer × List ℕ). Answered 0 out y.1 y.0) (sym e) (no_room_lem 0 n, refl)

pub write_answered : (m : Message) (v : ℤ) (lent : List ℕ) (st : Tables) (out : List ℕ) → Answered 0 out (write_answer m v lent st out).1 (write_answer m v lent st out).0
unfolding write_answer
write_answered m v lent st out = stored_answered out (made m v lent st) (of_made m v lent st)
