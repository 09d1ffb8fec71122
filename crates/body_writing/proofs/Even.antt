-- What writers leave of a row, in the words of its layout: a STRING, an array's items behind their number, and null. And rows that all have k bytes: three numbers at their places, row behind row in an output of just their size, and such an output as the front of another.
use mathlib.Core.Bool.{◌&&◌}
use mathlib.Core.List.{List, [], ◌++◌, ◌∷◌, append_assoc, append-nil}
use mathlib.Core.Path.{◌∙◌, ◌≡◌, ap, ap₂, refl, sym}
use Prim.Native.Nat.{◌*◌, ◌+◌, ◌-◌, ◌/◌, ◌<◌, ◌≤◌, min, suc, ℕ}
use native.Mathlib.Nat.{add-zero, mul-le-mul_right}
use native.Mathlib.Omega.{arith}
use native.Mathlib.Decide.{dec_lt}
use lib.ListN.{drop, drop_of_length-le, get_or, length, length-append, length-drop, take}
use lib.Seq.{get_or-take, length-take-le}
use borrow.Rule.Slice.PartMut.{mid_of, put_mid}
use Rattle.layout.specs.Primitives.{Null, Size, Width, bytes, compact, fixed, holds, length_bytes, never, null_bytes, size, sized_bytes, w16, w32}
use Rattle.layout.specs.Rows.{Shape, end, field, number, text}
use Rattle.layout.specs.Tables.{basic_of, pop, rows_of, slice, span_of, value_of, width}
use Rattle.layout.specs.Write.{basic_fault, each, fault, unless, write, write_basic}
use Rattle.primitives_put.specs.Step.{Capped, Step, cap}
use Rattle.primitives_put.specs.declared.Form.{Form}
use Rattle.primitives_put.specs.Put.{Put, behind_length, size_of}
use Rattle.body_writing.specs.Writes.{bytes_at, counted_bytes, fault_at, row_bytes, row_fault, rows_bytes}
use Rattle.primitives_put.proofs.Capped.{capped, capped_as, capped_behind, step_as, step_behind}
use Rattle.layout.proofs.Chunks.{row_cell, rows_many}
use Rattle.primitives_put.proofs.Stored.{put_step}
use Rattle.layout.proofs.Back.{length_bytes_lem}
use Rattle.body_writing.proofs.Faults.{or_three}
use Rattle.body_writing.proofs.Turns.{Walked, walked_end, walked_more, walked_start}

-- a length is carried alike whatever null is
abbrev pub formed : Form → Null → Size
formed Form.Int16 m = fixed w16 m
formed Form.Int32 m = fixed w32 m
formed Form.Compact m = compact m

length_form : (x : Form) (m : Null) (n : ℕ) → length_bytes (size_of x) n ≡ length_bytes (formed x m) n
unfolding length_bytes
length_form Form.Int16 m n = refl
length_form Form.Int32 m n = refl
length_form Form.Compact m n = refl

null_form : (x : Form) (m : Null) → null_bytes (size_of x) ≡ null_bytes (formed x m)
unfolding null_bytes
null_form Form.Int16 m = refl
null_form Form.Int32 m = refl
null_form Form.Compact m = refl

pub null_put : (x : Form) (m : Null) {d d' : List ℕ} {n : ℕ} → Put (null_bytes (size_of x)) d n d' → Capped (null_bytes (formed x m)) d n d'
null_put x m p = capped_as (null_form x m) (capped (put_step p))

-- rows of items behind their number
pub counted_put : (x : Form) (m : Null) (lent : List ℕ) (l : Shape) (w : ℕ) (table : List ℕ) {d d₁ e : List ℕ} {n k : ℕ} (at : ℕ) → at ≡ min n (length d₁) → (r : ℕ) → cap r ≡ cap (n + k) →
    Put (length_bytes (size_of x) (length table / w)) d n d₁ → Capped (rows_bytes lent l w table) (mid_of at (length d₁ - at) d₁) k e → Capped (counted_bytes lent l (formed x m) w table) d r (put_mid at (length d₁ - at) d₁ e)
unfolding counted_bytes
counted_put x m lent l w table at h r c p s = capped_as (ap (λ (y : List ℕ). y ++ rows_bytes lent l w table) (length_form x m (length table / w))) (capped_behind (capped (put_step p)) at h s r c)

-- ---- a STRING at the front of a row

abbrev pub string_shape : Shape
string_shape = field (text (fixed w16 never)) end

module _ (lent : List ℕ) where
  pub string_bytes : (r : List ℕ) → row_bytes lent string_shape r ≡ behind_length (size_of Form.Int16) (slice lent (get_or r 0 0, get_or r 1 0))
  unfolding row_bytes bytes_at write write_basic value_of pop width basic_of span_of sized_bytes behind_length
  string_bytes r = append-nil _ ∙ ap₂ (λ (a b : ℕ). behind_length (size_of Form.Int16) (slice lent (a, b))) (get_or-take 2 r 0 0 (omega arith)) (get_or-take 2 r 1 0 (omega arith))

  -- that of row i of a table
  pub string_put : (w : ℕ) → 1 < w → (table : List ℕ) (i : ℕ) → i < length table / w → (x : List ℕ) → x ≡ slice lent (get_or table (i * w) 0, get_or table (i * w + 1) 0) → {d d' : List ℕ} {n : ℕ} → Put (behind_length (size_of Form.Int16) x) d n d' →
      Capped (row_bytes lent string_shape (get_or (rows_of w table) i [])) d n d'
  string_put w v table i h x e p =
      capped_as
      (ap (behind_length (size_of Form.Int16)) (e ∙ sym (ap₂ (λ (a b : ℕ). slice lent (a, b)) (row_cell w table i h 0 (omega arith) ∙ ap (λ (k : ℕ). get_or table k 0) (add-zero (i * w))) (row_cell w table i h 1 v)))
      ∙ sym (string_bytes (get_or (rows_of w table) i [])))
      (capped (put_step p))

-- ---- a row of three numbers

abbrev pub numbers_shape : Width → Width → Width → Shape
numbers_shape i j k = field (number i) (field (number j) (field (number k) end))

module _ (lent : List ℕ) (i j k : Width) where
  pub numbers_bytes : (r : List ℕ) → row_bytes lent (numbers_shape i j k) r ≡ bytes (size i) (get_or r 0 0) ++ (bytes (size j) (get_or r 1 0) ++ bytes (size k) (get_or r 2 0))
  unfolding row_bytes bytes_at write write_basic value_of pop width basic_of
  numbers_bytes [] = simp append-nil
  numbers_bytes (a ∷ []) = simp append-nil
  numbers_bytes (a ∷ b ∷ []) = simp append-nil
  numbers_bytes (a ∷ b ∷ c ∷ r) = simp append-nil

  pub numbers_wide : (r : List ℕ) → length (row_bytes lent (numbers_shape i j k) r) ≡ size i + (size j + size k)
  numbers_wide r = simp (numbers_bytes, length-append, length_bytes_lem)

  pub numbers_fault : (r : List ℕ) → row_fault lent (numbers_shape i j k) r ≡ unless (holds i (get_or r 0 0) && (holds j (get_or r 1 0) && holds k (get_or r 2 0))) 11
  unfolding row_fault fault_at fault basic_fault value_of pop width basic_of
  numbers_fault [] = or_three (holds i 0) (holds j 0) (holds k 0) 10
  numbers_fault (a ∷ []) = or_three (holds i a) (holds j 0) (holds k 0) 10
  numbers_fault (a ∷ b ∷ []) = or_three (holds i a) (holds j b) (holds k 0) 10
  numbers_fault (a ∷ b ∷ c ∷ r) = or_three (holds i a) (holds j b) (holds k c) 10

-- three numbers of i, j and k bytes, as calls with `&mut out[i..]` and `&mut out[i + j..]` leave them
pub three_put : (i j k a b c : ℕ) {d d₁ e : List ℕ} {n m : ℕ} → i + j ≤ length d → Put (bytes i a) d n d₁ → Put (bytes j b) (mid_of i (length d₁ - i) d₁) m e →
    (d₂ : List ℕ) → d₂ ≡ put_mid i (length d₁ - i) d₁ e → {f : List ℕ} {l : ℕ} → Put (bytes k c) (mid_of (i + j) (length d₂ - (i + j)) d₂) l f →
    Capped (bytes i a ++ (bytes j b ++ bytes k c)) d (i + j + k) (put_mid (i + j) (length d₂ - (i + j)) d₂ f)
three_put i j k a b c {d} {d₁} {e} {n} {m} h p q d₂ u {f} {l} s =
    let t : Step (bytes i a ++ bytes j b) d (n + m) d₂ = rw u (step_behind (put_step p) i (omega (arith, p.count, (put_step p).long, length_bytes_lem i a)) (put_step q)) in
    let v : (n + m) + l ≡ i + j + k = omega (arith, p.count, q.count, s.count, length_bytes_lem i a, length_bytes_lem j b, length_bytes_lem k c) in
    rw v at (capped (step_as (append_assoc (bytes i a) (bytes j b) (bytes k c)) (step_behind t (i + j) (omega (arith, p.count, q.count, t.long, length_bytes_lem i a, length_bytes_lem j b)) (put_step s))))

-- n bytes that fill the front of d, or have no room in it
module _ {bs d : List ℕ} {n : ℕ} (w : length bs ≡ n) where
  pub front_all : n ≤ length d → {m : ℕ} {e : List ℕ} → Capped bs (take n d) m e → Capped bs d n (e ++ drop n d)
  front_all h {m} {e} s = record {
    count = ap cap (sym w);
    long = length-append e (drop n d) ∙ omega (arith, s.long, length-take-le n d h, length-drop n d);
    stored = λ i j.
        ap (λ (x : List ℕ). x ++ drop n d) (s.stored i (omega (arith, length-take-le n d h)) ∙ ap (λ (x : List ℕ). bs ++ x) (drop_of_length-le (take n d) {i = length bs} (omega (arith, length-take-le n d h))) ∙ append-nil bs)
        ∙ ap (λ (k : ℕ). bs ++ drop k d) (sym w);
  }

  pub front_none : length d < n → Capped bs d n d
  front_none h = record { count = ap cap (sym w); long = refl; stored = λ i j. absurd (omega arith) }

-- ---- row behind row

module _ (b : List ℕ → List ℕ) (k : ℕ) (wide : (r : List ℕ) → length (b r) ≡ k) where
  each_wide : (rs : List (List ℕ)) → length (each b rs) ≡ length rs * k
  unfolding each
  each_wide [] = let none : 0 ≡ 0 * k = omega arith in none
  each_wide (r ∷ rs) = let more : suc (length rs) * k ≡ k + length rs * k = omega arith in length-append (b r) (each b rs) ∙ omega (arith, wide r, each_wide rs, more)

  pub rows_wide : (w : ℕ) (table : List ℕ) → length (each b (rows_of w table)) ≡ length table / w * k
  rows_wide w table = each_wide (rows_of w table) ∙ ap (λ (n : ℕ). n * k) (rows_many w table)

-- before each turn the first i rows, of k bytes each, stand there, up to p
pub record Even (b : List ℕ → List ℕ) (k w : ℕ) (table d : List ℕ) (i p : ℕ) (d' : List ℕ) : Type 0 where
  pub place : p ≡ i * k
  pub walked : Walked b w table d i p d'

module _ {b : List ℕ → List ℕ} {k w : ℕ} {table d : List ℕ} where
  pub even_start : Even b k w table d 0 0 d
  even_start = let none : 0 ≡ 0 * k = omega arith in record { place = none; walked = walked_start b w table d }

  -- d has just the room of all
  module _ (full : length d ≡ length table / w * k) {i p : ℕ} {d₁ : List ℕ} (a : Even b k w table d i p d₁) where
    long : length d₁ ≡ length d
    long = a.walked.step.long

    next : (i + 1) * k ≡ p + k
    next = omega (arith, a.place)

    pub even_inside : p ≤ length d₁
    even_inside = omega (arith, full, a.place, long, mul-le-mul_right {m = i} {n = length table / w} k a.walked.below)

    pub even_end : length d₁ - p < k → Capped (each b (rows_of w table)) d p d₁
    even_end h =
        walked_end b w table d a.walked
        (elim (dec_lt i (length table / w)) [
          | yes l ↦ absurd (omega (arith, full, next, long, mul-le-mul_right {m = i + 1} {n = length table / w} k (omega arith)))
          | no l ↦ omega arith
        ])

    module _ (z : 0 < k) (h : k ≤ length d₁ - p) where
      pub even_left : i < length table / w
      even_left =
          elim (dec_lt i (length table / w)) [
            | yes l ↦ l
            | no l ↦ absurd (omega (arith, full, a.place, long, mul-le-mul_right {m = length table / w} {n = i} k (omega arith)))
          ]

      pub even_more : length (b (get_or (rows_of w table) i [])) ≡ k → {m : ℕ} {e : List ℕ} → Capped (b (get_or (rows_of w table) i [])) (mid_of p (length d₁ - p) d₁) m e → Even b k w table d (i + 1) (p + k) (put_mid p (length d₁ - p) d₁ e)
      even_more v s = record {
        place = sym next;
        walked = walked_more b w table d a.walked even_left p (omega (arith, even_inside)) s (p + k) (omega (arith, s.count, v));
      }
