-- Readers, and why they refuse. A reader is given the place where it stands in the message and the bytes from there on:
-- the rest that the reader before it left. It gives a value and the number of bytes used, or it refuses. Assumes nothing.
use Rattle.std.specs.Prelude.{Bool, true, false, cond, ◌&&◌, List, [], ◌∷◌, ℕ, zero, suc, ◌+◌, ◌-◌, ◌^◌, length, take, drop, leb, eqb}

-- A number of docs/RULES.md, a place in the message, and for 10 the rows or bytes needed. Then its name: the message, 0 for none; the row in its table
-- and the field in that row, both from 0 and as cells, −1 for none.
pub record Refusal : Type 0 where
  pub number : ℕ
  pub place : ℕ
  pub need : ℕ
  pub message : ℕ
  pub row : ℕ
  pub field : ℕ

-- no row, no field
abbrev pub nowhere : ℕ
nowhere = 2 ^ 64 - 1

-- readers and writers say number, place and need; a call on a body adds the name
abbrev pub because : ℕ → ℕ → Refusal
because e p = record { number = e; place = p; need = 0; message = 0; row = nowhere; field = nowhere }

-- 10: n rows or bytes are needed
abbrev pub no_room : ℕ → Refusal
no_room n = record { number = 10; place = 0; need = n; message = 0; row = nowhere; field = nowhere }

-- the refusal e of message m, at a row and a field
abbrev pub naming : ℕ → ℕ → ℕ → Refusal → Refusal
naming m r f e = record { number = e.number; place = e.place; need = e.need; message = m; row = r; field = f }

pub data Res (A : Type 0) : Type 0 where
  ok : A → ℕ → Res A
  bad : Refusal → Res A

abbrev pub Reader : Type 0 → Type 0
Reader A = ℕ → List ℕ → Res A

-- n bytes were used before
abbrev pub more : {A : Type 0} → ℕ → Res A → Res A
more n (ok x m) = ok x (n + m)
more n (bad e) = bad e

abbrev pub next : {A B : Type 0} → Res A → (A → Reader B) → ℕ → List ℕ → Res B
next (ok x n) f p s = more n (f x (p + n) (drop n s))
next (bad e) f p s = bad e

-- one reader, and then one that may look at what the first gave
unfoldable pub then : {A B : Type 0} → Reader A → (A → Reader B) → Reader B
then r f p s = next (r p s) f p s

unfoldable pub give : {A : Type 0} → A → Reader A
give x p s = ok x 0

unfoldable pub fail : {A : Type 0} → ℕ → Reader A
fail e p s = bad (because e p)

-- refuses at the place q
unfoldable pub fail_at : {A : Type 0} → ℕ → ℕ → Reader A
fail_at e q p s = bad (because e q)

unfoldable pub pick : {A : Type 0} → Bool → Reader A → Reader A → Reader A
pick true r q = r
pick false r q = q

-- a reader that is told where it stands
unfoldable pub here : {A : Type 0} → (ℕ → Reader A) → Reader A
here r p s = r p p s

-- a primitive: refused at its own start, whatever is wrong in it; a text (t) that is not well-formed (7) at the place found
abbrev pub placed : {A : Type 0} → Bool → ℕ → Res A → Res A
placed t p (ok x n) = ok x n
placed t p (bad e) = bad (cond (t && eqb e.number 7) e (because e.number p))

unfoldable pub single : {A : Type 0} → Bool → Reader A → Reader A
single t r p s = placed t p (r p s)

abbrev pub primitive : {A : Type 0} → Reader A → Reader A
primitive r = single false r

abbrev pub textual : {A : Type 0} → Reader A → Reader A
textual r = single true r

-- n bytes
unfoldable pub raw : ℕ → Reader (List ℕ)
raw n p s = cond (leb n (length s)) (ok (take n s) n) (bad (because 3 p))

unfoldable pub pair : {A B : Type 0} → Reader A → Reader B → Reader (A × B)
pair r q = then r (λ x. then q (λ y. give (x, y)))

-- n times the same
unfoldable pub many : {A : Type 0} → ℕ → Reader A → Reader (List A)
many zero r = give []
many (suc n) r = then r (λ x. then (many n r) (λ xs. give (x ∷ xs)))

-- n times, each on what the one before it left
unfoldable pub loop : {S : Type 0} → ℕ → (S → Reader S) → S → Reader S
loop zero r st = give st
loop (suc n) r st = then (r st) (λ st'. loop n r st')
