-- What every step of a reader keeps, the reader of every shape keeps: a relation of two readers, which differ at most in how they read varints and Booleans.
use mathlib.Core.Bool.{Bool, false, true}
use mathlib.Core.List.{List}
use Prim.Native.Nat.{◌-◌, ◌≤◌, suc, zero, ℕ}
use native.Mathlib.Omega.{arith}
use Rattle.layout.specs.Reading.{Reader, fail, give, here, many, pair, pick, raw, single, then}
use Rattle.layout.specs.Utf8.{utf8}
use Rattle.layout.specs.Primitives.{Size, Width, cell, checked, compact, empty, fixed, flag, groups, int, keeps, kept, length_of, never, plain, refusal, sized, unsigned, w8}
use Rattle.layout.specs.Rows.{Basic, Shape, absent, array, blob, boolean, end, field, lacking, level, natural, number, optional, text}
use Rattle.layout.specs.Read.{Codec, read, read_basic, read_blob, read_text}
use Rattle.layout.proofs.Steps.{piece}

pub record Kept (P : (A : Type 0) → Reader A → Reader A → Type 0) : Type 1 where
  pub on_give : {A : Type 0} (x : A) → P _ (give x) (give x)
  pub on_fail : {A : Type 0} (e : ℕ) → 3 ≤ e → e ≤ 8 → P _ (fail {A = A} e) (fail e)
  pub on_raw : (n : ℕ) → P _ (raw n) (raw n)
  pub on_pick : {A : Type 0} (b : Bool) (r r' q q' : Reader A) → P _ r r' → P _ q q' → P _ (pick b r q) (pick b r' q')
  pub on_here : {A : Type 0} (r r' : ℕ → Reader A) → ((p : ℕ) → P _ (r p) (r' p)) → P _ (here r) (here r')
  pub on_single : {A : Type 0} (t : Bool) (r r' : Reader A) → P _ r r' → P _ (single t r) (single t r')
  pub on_part : {X : Type 0} (t : List ℕ → Bool) (make : ℕ → List ℕ → X) (n : ℕ) → P _ (piece t make n) (piece t make n)
  pub on_then : {A B : Type 0} (r r' : Reader A) (f f' : A → Reader B) → P _ r r' → ((x : A) → P _ (f x) (f' x)) → P _ (then r f) (then r' f')

-- the number that refuses null
refusal_known : (z : Size) → (3 ≤ refusal z) × (refusal z ≤ 8)
refusal_known (fixed w never) = omega arith
refusal_known (fixed w kept) = omega arith
refusal_known (fixed w empty) = omega arith
refusal_known (compact never) = omega arith
refusal_known (compact kept) = omega arith
refusal_known (compact empty) = omega arith
refusal_known plain = omega arith

module _ {P : (A : Type 0) → Reader A → Reader A → Type 0} (k : Kept P) where
  pub kept_int : (n : ℕ) → P _ (int n) (int n)
  unfolding int
  kept_int n = k.on_then _ _ _ _ (k.on_raw n) (λ b. k.on_give _)

  pub kept_many : {A : Type 0} (r r' : Reader A) → P _ r r' → (n : ℕ) → P _ (many n r) (many n r')
  unfolding many
  kept_many r r' h zero = k.on_give _
  kept_many r r' h (suc n) = k.on_then _ _ _ _ h (λ x. k.on_then _ _ _ _ (kept_many r r' h n) (λ xs. k.on_give _))

  pub kept_pair : {A B : Type 0} (r r' : Reader A) (q q' : Reader B) → P _ r r' → P _ q q' → P _ (pair r q) (pair r' q')
  unfolding pair
  kept_pair r r' q q' h g = k.on_then _ _ _ _ h (λ x. k.on_then _ _ _ _ g (λ y. k.on_give _))

  pub kept_cell : (w : Width) → P _ (cell w) (cell w)
  unfolding cell
  kept_cell w = k.on_then _ _ _ _ (kept_int _) (λ n. k.on_give _)

  pub kept_flag : P _ flag flag
  unfolding flag
  kept_flag = k.on_then _ _ _ _ (kept_int 1) (λ n. k.on_give _)

  kept_groups : (n m a : ℕ) → P _ (groups n m a) (groups n m a)
  unfolding groups
  kept_groups zero m a = k.on_then _ _ _ _ (kept_int 1) (λ b. k.on_pick _ _ _ _ _ (k.on_give _) (k.on_fail 5 (omega arith) (omega arith)))
  kept_groups (suc n) m a = k.on_then _ _ _ _ (kept_int 1) (λ b. k.on_pick _ _ _ _ _ (k.on_give _) (kept_groups n _ _))

  pub kept_unsigned : P _ unsigned unsigned
  unfolding unsigned
  kept_unsigned = k.on_single _ _ _ (kept_groups 9 1 0)

  pub kept_length : (v v' : Reader ℕ) → P _ v v' → (z : Size) → P _ (length_of v z) (length_of v' z)
  unfolding length_of
  kept_length v v' h (fixed w m) = k.on_then _ _ _ _ (kept_int _) (λ n. k.on_pick _ _ _ _ _ (k.on_give _) (k.on_pick _ _ _ _ _ (k.on_give _) (k.on_fail 4 (omega arith) (omega arith))))
  kept_length v v' h (compact m) = h
  kept_length v v' h plain = k.on_then _ _ _ _ h (λ n. k.on_give _)

  pub kept_checked : (a : Bool) (z : Size) (len len' : Reader ℕ) → P _ len len' → P _ (checked a (refusal z) len) (checked a (refusal z) len')
  unfolding checked
  kept_checked a z len len' h =
      let e = refusal_known z in
      k.on_single _ _ _ (k.on_then _ _ _ _ h (λ n. k.on_pick _ _ _ _ _ (k.on_pick _ _ _ _ _ (k.on_give _) (k.on_fail (refusal z) e.0 e.1)) (k.on_give _)))

  pub kept_sized : {A : Type 0} (b a : Bool) (z : Size) (len len' : Reader ℕ) (r r' : ℕ → Reader A) → P _ len len' → ((n : ℕ) → P _ (r n) (r' n)) → P _ (sized b a (refusal z) len r) (sized b a (refusal z) len' r')
  unfolding sized
  kept_sized true a z len len' r r' h g = k.on_then _ _ _ _ (kept_checked true z len len' h) (λ n. k.on_pick _ _ _ _ _ (k.on_give _) (k.on_then _ _ _ _ (g (n - 1)) (λ x. k.on_give _)))
  kept_sized false a z len len' r r' h g = k.on_then _ _ _ _ (kept_checked a z len len' h) (λ n. g (n - 1))

  module _ {X : Type 0} (make : ℕ → List ℕ → X) (w : Bool) (v v' : Reader ℕ) (fl fl' : Reader Bool) (hv : P _ v v') (hf : P _ fl fl') where
    abbrev one : Codec
    one = record { Text = X; make = make; varint = v; flag = fl; whole = w }

    abbrev other : Codec
    other = record { Text = X; make = make; varint = v'; flag = fl'; whole = w }

    pub kept_basic : (b : Basic) → P _ (read_basic one b) (read_basic other b)
    unfolding read_basic read_blob read_text pick
    kept_basic (number b) = kept_cell b
    kept_basic boolean = hf
    kept_basic level = kept_cell w8
    kept_basic natural = hv
    kept_basic (text z) = k.on_single _ _ _ (kept_sized (keeps z) _ z _ _ _ _ (kept_length v v' hv z) (k.on_part utf8 make))
    kept_basic (blob z) = k.on_single _ _ _ (kept_sized (keeps z) _ z _ _ _ _ (kept_length v v' hv z) (k.on_part (λ b. true) make))
    kept_basic (optional d b) = kept_basic b

    pub kept_read : (l : Shape) → P _ (read one l) (read other l)
    unfolding read
    kept_read end = k.on_give tt
    kept_read (field b r) = kept_pair _ _ _ _ (kept_basic b) (kept_read r)
    kept_read (absent b r) = kept_read r
    kept_read (array z t i r) = kept_pair _ _ _ _ (kept_sized (keeps z) _ z _ _ _ _ (kept_length v v' hv z) (kept_many _ _ (kept_read i))) (kept_read r)
    kept_read (lacking z t i r) = kept_read r
