-- The kinds of primitives: from what the reader or the writer of a kind promises to the answer of `read_kind` or `write_kind`.
use mathlib.Core.Bool.{Bool, false, true}
use mathlib.Core.List.{List, [], ◌∷◌}
use mathlib.Core.Option.{Option, none}
use mathlib.Core.Path.{◌∙◌, ◌≡◌, ap, refl, sym}
use Prim.Native.Nat.{◌<◌, ◌^◌, ◌≤◌, suc, zero, ℕ}
use native.Mathlib.Omega.{arith}
use lib.IntN.{ℤ}
use lib.ListN.{get_elem?, length}
use lib.Dec.{ltb}
use mir.Syntax.{w64}
use mir.Val.{of_z, to_z}
use Rattle.layout.specs.Reading.{Res, bad, because, ok}
use Rattle.layout.specs.Reading as Reading
use Rattle.layout.specs.Primitives.{Width, cell_of, holds, integer_bytes, signed, zigzag, zigzag_bytes}
use Rattle.layout.specs.Tables.{Span}
use Rattle.layout.specs.Answers.{Answer, refused, write_alone}
use denote.Ref.{Bor}
use Rattle.std.specs.Prelude.{not, Option as Maybe}
use Rattle.std.specs.Bool.{then_some}
use Rattle.primitives_put.specs.Answers.{null_or}
use Rattle.primitives.specs.Parts.{there}
use Rattle.layout.specs.Primitives as Kafka
use Rattle.layout.specs.Write.{unless}
use Rattle.gateway_primitives.specs.Kinds.{Primitive, given, given_count, field_cells, kinds, nullable_cells, read_if, read_kind, shown, write_if, write_kind, write_of}
use Rattle.primitives.proofs.Signed.{back}
use Rattle.primitives.proofs.Versions.{between, up_to}

-- behind the last kind there is none
pub beyond : {A : Type 0} (xs : List A) (k : ℕ) → length xs ≤ k → get_elem? xs k ≡ none
beyond [] k h = refl
beyond (x ∷ xs) zero h = absurd (omega arith)
beyond (x ∷ xs) (suc k) h = beyond xs k (omega arith)

module _ (kind k : ℕ) (e : kind ≡ k) (s : List ℕ) (r : Answer) where
  -- what the reader x answers, by the definition o of kind k
  pub read_by : {A : Type 0} (cells : A → List ℕ) (x o : Res A) → x ≡ o → read_kind k s ≡ shown cells o → r ≡ shown cells x → r ≡ read_kind kind s
  read_by {A} cells x o h d t = t ∙ ap (λ (y : Res A). shown cells y) h ∙ sym d ∙ ap (λ (j : ℕ). read_kind j s) (sym e)

  -- a field that the version has is null or a part
  is_there : (o : Res (Option Span)) → shown field_cells (there o) ≡ shown (nullable_cells true) o
  is_there (ok x n) = refl
  is_there (bad c) = refl

  pub nullable_by : (x : Res (Option (Option Span))) (o : Res (Option Span)) → x ≡ there o → read_kind k s ≡ shown (nullable_cells true) o → r ≡ shown field_cells x → r ≡ read_kind kind s
  nullable_by x o h d t = read_by field_cells x (there o) h (d ∙ sym (is_there o)) t

pub no_kind : (kind : ℕ) → 18 ≤ kind → (s : List ℕ) (c : Reading.Refusal) → c ≡ because 1 0 → refused c ≡ read_kind kind s
unfolding read_kind
no_kind kind h s c d = ap refused d ∙ ap (λ (o : Option Primitive). read_if o s) (sym (beyond kinds kind h))

-- what is given unless it is null
pub given_or : (null : Bool) (x : Bor (List ℕ)) (v : Maybe (Bor (List ℕ))) → v ≡ then_some (not null) x → null_or v ≡ given true null x.now
given_or true x v e = ap null_or e
given_or false x v e = ap null_or e

pub given_counted : (null : Bool) (n : ℕ) (v : Maybe ℕ) → v ≡ then_some (not null) n → v ≡ given_count null n
given_counted true n v e = e
given_counted false n v e = e

module _ (kind k : ℕ) (e : kind ≡ k) (n : Bool) (c : ℕ) (x out : List ℕ) (r : Answer × List ℕ) where
  -- what the writer of kind k promises
  pub write_by : (o : Answer × List ℕ) → write_kind k n c x out ≡ o → r ≡ o → r ≡ write_kind kind n c x out
  write_by o d h = h ∙ sym d ∙ ap (λ (j : ℕ). write_kind j n c x out) (sym e)

  -- the number that the cell shows, which passed an argument
  pub signed_by : (f : ℤ → Answer × List ℕ) → write_kind k n c x out ≡ f (signed Kafka.w64 c) → c < 2 ^ 64 → (z : ℤ) → z ≡ signed Kafka.w64 c → r ≡ f (to_z w64 (of_z w64 z)) → r ≡ write_kind kind n c x out
  signed_by f d s z i h = write_by (f (signed Kafka.w64 c)) d (h ∙ ap f (back c z s i))

abbrev pub integer_written : Width → List ℕ → ℤ → Answer × List ℕ
integer_written w out z = write_alone (unless (holds w (cell_of z)) 11) (integer_bytes w z) out

abbrev pub varint_written : List ℕ → ℤ → Answer × List ℕ
varint_written out z = write_alone (unless (ltb (zigzag z) (2 ^ 32)) 11) (zigzag_bytes z) out

abbrev pub varlong_written : List ℕ → ℤ → Answer × List ℕ
varlong_written out z = write_alone 0 (zigzag_bytes z) out

-- what a kind does not take has no part in the answer: numbers take a cell, counts null and a cell, data and texts null and their bytes
module _ (k : ℕ) (n : Bool) (c : ℕ) (x out : List ℕ) where
  pub numbers_take : k < 8 → write_kind k false c [] out ≡ write_kind k n c x out
  unfolding write_kind write_of
  numbers_take h = up_to 7 (λ j. write_kind j false c [] out ≡ write_kind j n c x out) (refl, (refl, (refl, (refl, (refl, (refl, (refl, refl))))))) k (omega arith)

  pub counts_take : 8 ≤ k → k < 10 → write_kind k n c [] out ≡ write_kind k n c x out
  unfolding write_kind write_of
  counts_take l h = between 8 1 (λ j. write_kind j n c [] out ≡ write_kind j n c x out) (refl, refl) k l (omega arith)

  pub parts_take : 10 ≤ k → k < 18 → write_kind k n 0 x out ≡ write_kind k n c x out
  unfolding write_kind write_of
  parts_take l h = between 10 7 (λ j. write_kind j n 0 x out ≡ write_kind j n c x out) (refl, (refl, (refl, (refl, (refl, (refl, (refl, refl))))))) k l (omega arith)

pub no_write : (kind : ℕ) → 18 ≤ kind → (n : Bool) (v : ℕ) (x out : List ℕ) (c : Reading.Refusal) → c ≡ because 1 0 → ◌≡◌ {A = Answer × List ℕ} (refused c, out) (write_kind kind n v x out)
unfolding write_kind
no_write kind h n v x out c d = (λ i. (refused (d i), out)) ∙ ap (λ (o : Option Primitive). write_if o n v x out) (sym (beyond kinds kind h))
