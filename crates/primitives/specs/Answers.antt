-- What the answers about numbers say in the definition's words: the number and values of docs/RULES.md for each case of each enum. And refusals, versions and Booleans, which all calls share.
use Rattle.std.specs.Prelude.{◌%◌, ◌*◌, ◌+◌, ◌<◌, ◌^◌, suc, zero, ℕ, ltb, negsuc, pos, ℤ, length, Bool, cond, false, true, List, Result, Ok, Err}
use Rattle.layout.specs.Answers.{limited}
use Rattle.layout.specs.Reading.{Res, bad, because, nowhere, ok}
use Rattle.layout.specs.Reading as Reading
use Rattle.layout.specs.Primitives.{signed, unzigzag, w64}
use Rattle.primitives.specs.declared.Refusal.{Refusal}
use Rattle.primitives.specs.declared.Taken.{Taken}

-- a refusal without a name: of a primitive, or inside a walk over a body
abbrev pub of_refusal : Refusal → Reading.Refusal
of_refusal e = record { number = e.number; place = e.place; need = e.need; message = 0; row = nowhere; field = nowhere }

-- what a reader of this crate answers
abbrev pub Read : Type 0 → Type 0
Read A = Result (Taken A) Refusal

-- the value v, and the place n after it
abbrev pub taken : {A : Type 0} → A → ℕ → Read A
taken v n = Ok (record { value = v; next = n })

-- a value is shown by f
abbrev pub of_read : {A B : Type 0} → (A → B) → Read A → Res B
of_read f (Ok t) = ok (f t.value) t.next
of_read f (Err e) = bad (of_refusal e)

abbrev pub of_number : Read ℕ → Res ℕ
of_number r = of_read (λ v. v) r

abbrev pub of_integer : Read ℤ → Res ℤ
of_integer r = of_read (λ v. v) r

abbrev pub of_flag : Read Bool → Res Bool
of_flag r = of_read (λ v. v) r

-- ---- what private functions promise of a number that was read

-- 2 first, where the message s is over the size; else what its reader answers
unfoldable pub unless_long : {A : Type 0} → List ℕ → Res A → Res A
unless_long s o = limited (length s) o

-- a number below m, if there is one
abbrev pub Below : ℕ → Read ℕ → Type 0
Below m (Ok t) = t.value < m
Below m (Err e) = Unit {0}

-- the tenth byte b of a varint, behind those that say a: its lowest bit, and none may follow
abbrev pub tenth_byte : ℕ → ℕ → Res ℕ
tenth_byte a b = cond (ltb b 128) (ok (a + b % 2 * 2 ^ 63) 10) (bad (because 5 0))

-- from half on `fill` is added
abbrev pub of_extended : ℕ → ℕ → Read ℕ → Res ℕ
of_extended half fill r = of_read (λ v. cond (ltb v half) v (v + fill)) r

-- 11: more than 32 bits
abbrev pub of_narrow : Read ℕ → Res ℕ
of_narrow (Ok t) = cond (ltb t.value (2 ^ 32)) (ok t.value t.next) (bad (because 11 0))
of_narrow (Err e) = bad (of_refusal e)

-- the signed number that a cell shows, also in an answer
abbrev pub shown_of : ℕ → ℤ
shown_of c = signed w64 c

abbrev pub of_shown : Read ℕ → Res ℤ
of_shown r = of_read shown_of r

-- the number that n carries by zigzag
abbrev pub zigzagged : ℕ → ℤ
zigzagged n = unzigzag n

-- also in an answer
abbrev pub of_carried : Read ℕ → Res ℤ
of_carried r = of_read zigzagged r

-- a version as a number that is not negative: below 0 it is above all versions that there are
abbrev pub version_of : ℤ → ℕ
version_of (pos n) = n
version_of (negsuc n) = 65536

-- a Boolean as a number: 0 is false, any other number true
unfoldable pub is_set : ℕ → Bool
is_set zero = false
is_set (suc n) = true
