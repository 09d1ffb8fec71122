-- A body lays few cells: at most 16 for each of its bytes, and its own row. So no mark stops. For all shapes whose items read a field for every 16 cells of their row.
use mathlib.Core.Bool.{Bool, ◌&&◌, false, true}
use mathlib.Core.List.{List}
use mathlib.Core.Path.{◌≡◌}
use Prim.Native.Nat.{◌*◌, ◌+◌, ◌-◌, ◌≤◌, suc, zero, ℕ}
use native.Mathlib.Omega.{arith}
use lib.Dec.{leb}
use lib.ListN.{length}
use Rattle.layout.specs.Reading.{Reader, give, loop, ok, single, then}
use Rattle.layout.specs.Primitives.{Size, Width, admits, cell, checked, compact, fixed, flag, int, keeps, length_of, plain, refusal, size, sized, unsigned, w8, w16, w32, w64}
use Rattle.layout.specs.Rows.{Basic, Shape, absent, array, blob, boolean, end, field, lacking, level, natural, number, optional, text}
use Rattle.layout.specs.Read.{by_place, read_basic}
use Rattle.layout.specs.Tables.{all, from, read_rows, row_width}
use Rattle.layout.specs.Answers.{Message, shape}
use Rattle.layout.proofs.Decode.{absent_width, cells_width}
use Rattle.layout.proofs.Parts.{unsigned_small}
use Rattle.layout.proofs.Proper.{all_from, both}
use Rattle.layout.proofs.Steps.{int_inv, single_inv, split}
use Rattle.layout.proofs.Tests.{of_le}

-- ---- a reader that takes a byte

record Takes {A : Type 0} (r : Reader A) : Type 0 where
  law : (p : ℕ) (s : List ℕ) (x : A) (n : ℕ) → r p s ≡ ok x n → 1 ≤ n

takes_then : {A B : Type 0} (r : Reader A) (f : A → Reader B) → Takes r → Takes (then r f)
takes_then r f h = record { law = λ p s y m e. let d = split r f p s y m e in let k = h.law p s d.x d.n d.first in omega (arith, d.sum) }

takes_single : {A : Type 0} (t : Bool) (r : Reader A) → Takes r → Takes (single t r)
takes_single t r h = record { law = λ p s x n e. h.law p s x n (single_inv _ r p s x n e) }

takes_int : (k : ℕ) → 1 ≤ k → Takes (int k)
takes_int k h = record { law = λ p s x n e. let u = (int_inv k p s x n e).used in omega arith }

takes_unsigned : Takes unsigned
takes_unsigned = record { law = λ p s x n e. (unsigned_small p s x n e).1 }

pub some_bytes : (w : Width) → 1 ≤ size w
some_bytes w8 = omega arith
some_bytes w16 = omega arith
some_bytes w32 = omega arith
some_bytes w64 = omega arith

takes_length : (z : Size) → Takes (length_of unsigned z)
unfolding length_of
takes_length (fixed w m) = takes_then _ _ (takes_int (size w) (some_bytes w))
takes_length (compact m) = takes_unsigned
takes_length plain = takes_then _ _ takes_unsigned

takes_checked : (a : Bool) (e : ℕ) (z : Size) → Takes (checked a e (length_of unsigned z))
unfolding checked
takes_checked a e z = takes_single _ _ (takes_then _ _ (takes_length z))

takes_sized : {A : Type 0} (b a : Bool) (e : ℕ) (z : Size) (r : ℕ → Reader A) → Takes (sized b a e (length_of unsigned z) r)
unfolding sized
takes_sized true a e z r = takes_then _ _ (takes_checked true e z)
takes_sized false a e z r = takes_then _ _ (takes_checked a e z)

takes_cell : (w : Width) → Takes (cell w)
unfolding cell
takes_cell w = takes_then _ _ (takes_int (size w) (some_bytes w))

takes_basic : (w : Bool) (k : Basic) → Takes (read_basic (by_place w) k)
unfolding read_basic flag
takes_basic w (number b) = takes_cell b
takes_basic w boolean = takes_then _ _ (takes_int 1 (omega arith))
takes_basic w level = takes_cell w8
takes_basic w natural = takes_unsigned
takes_basic w (text z) = takes_single _ _ (takes_sized (keeps z) _ _ z _)
takes_basic w (blob z) = takes_single _ _ (takes_sized (keeps z) _ _ z _)
takes_basic w (optional d k) = takes_basic w k

-- ---- cells for bytes

-- the fields and counts that a row reads, each of which takes a byte
unfoldable pub taken : Shape → ℕ
taken end = 0
taken (field k r) = suc (taken r)
taken (absent k r) = taken r
taken (array z t i r) = suc (taken r)
taken (lacking z t i r) = taken r

unfoldable pub lean : Shape → Bool
lean end = true
lean (field k r) = lean r
lean (absent k r) = lean r
lean (array z t i r) = leb (row_width i) (16 * taken i) && (lean i && lean r)
lean (lacking z t i r) = lean r

-- rows kept as the number of their cells
abbrev pub tally : ℕ → List ℕ → ℕ → ℕ
tally t cs k = k + length cs

module _ (w : Bool) where
  few_loop : (r : ℕ → Reader ℕ) → ((k p : ℕ) (s : List ℕ) (k' n : ℕ) → r k p s ≡ ok k' n → k' ≤ k + 16 * n) → (c k p : ℕ) (s : List ℕ) (k' n : ℕ) → loop c r k p s ≡ ok k' n → k' ≤ k + 16 * n
  unfolding loop give
  few_loop r h zero k p s k' n e = let a : k ≡ k' = cc in omega arith
  few_loop r h (suc c) k p s k' n e =
      let d = split (r k) _ p s k' n e in
      let a = h k p s d.x d.n d.first in
      let b = few_loop r h c d.x _ _ k' d.k d.second in
      omega (arith, d.sum)

  pub few : (l : Shape) → lean l ≡ true → (o k p : ℕ) (s : List ℕ) (k' n : ℕ) → read_rows w tally l o k p s ≡ ok k' n → k' + 16 * taken l ≤ k + 16 * n + row_width l
  unfolding read_rows taken lean row_width give
  few end h o k p s k' n e = let a : k ≡ k' = cc in omega arith
  few (field b r) h o k p s k' n e =
      let d = split (read_basic (by_place w) b) _ p s k' n e in
      let a = (takes_basic w b).law p s d.x d.n d.first in
      let c = few r h o _ _ _ k' d.k d.second in
      omega (arith, d.sum, cells_width b d.x)
  few (absent b r) h o k p s k' n e = let c = few r h o _ p s k' n e in omega (arith, absent_width b)
  few (array z t i r) h o k p s k' n e =
      let x = both (leb (row_width i) (16 * taken i)) (lean i && lean r) h in
      let y = both (lean i) (lean r) x.1 in
      let q : row_width i ≤ 16 * taken i = of_le (row_width i) (16 * taken i) x.0 in
      let d = split (checked (admits w z) (refusal z) (length_of unsigned z)) _ p s k' n e in
      let a = (takes_checked (admits w z) (refusal z) z).law p s d.x d.n d.first in
      let f = split (loop (d.x - 1) (read_rows w tally i t) _) _ _ _ k' d.k d.second in
      let g = few_loop (read_rows w tally i t) (λ k₁ p₁ s₁ k₂ n₁ e₁. let u = few i y.0 t k₁ p₁ s₁ k₂ n₁ e₁ in omega arith) (d.x - 1) _ _ _ f.x f.n f.first in
      let c = few r y.1 o f.x _ _ k' f.k f.second in
      omega (arith, d.sum, f.sum)
  few (lacking z t i r) h o k p s k' n e = let c = few r h o _ p s k' n e in omega arith

-- ---- a message at all its versions, in one computed test

unfoldable pub slim : Message → Bool
slim m = all (λ v. lean (shape m v) && leb (row_width (shape m v)) 1000) (from 0 (suc m.last))

pub slim_at : (m : Message) → slim m ≡ true → (v : ℕ) → v ≤ m.last → (lean (shape m v) ≡ true) × (row_width (shape m v) ≤ 1000)
unfolding slim
slim_at m h v k =
    let c = both (lean (shape m v)) (leb (row_width (shape m v)) 1000) (all_from (λ v. lean (shape m v) && leb (row_width (shape m v)) 1000) 0 (suc m.last) v h (omega arith) (omega arith)) in
    (c.0, of_le (row_width (shape m v)) 1000 c.1)
