-- Tagged fields written part by part, each from the law of its layout: a row, all rows of a table, 13, and the answer to the call.
use mathlib.Core.Bool.{Bool, ◌&&◌, and-true, false, true}
use mathlib.Core.List.{List, [], ◌++◌, ◌∷◌, append-nil}
use mathlib.Core.Logic.{◌≢◌}
use mathlib.Core.Path.{◌∙◌, ◌≡◌, ap, ap₂, refl, sym}
use Prim.Native.Nat.{◌*◌, ◌+◌, ◌-◌, ◌/◌, ◌<◌, ◌^◌, min, suc, zero, ℕ}
use native.Mathlib.Nat.{add-zero}
use native.Mathlib.Omega.{arith}
use lib.Dec.{eqb, lit<, lit≤}
use lib.IntN.{pos}
use lib.ListN.{drop, get_or, length, take}
use lib.Seq.{get_or-drop, get_or-take}
use borrow.Rule.Slice.PartMut.{mid_of, put_mid}
use Rattle.layout.specs.Answers.{Answer, refused, shape, tags_alone, write_alone, write_answer}
use Rattle.layout.specs.Primitives.{length_bytes, plain, sized_bytes, unsigned_bytes}
use Rattle.layout.specs.Reading.{Refusal, because}
use Rattle.layout.specs.Rows.{Shape, absent, at, blob, end, natural, standing, stands, tag_rows}
use Rattle.layout.specs.Tables.{Tables, arrays, asked, basic_of, chunks, count, good, good_cells, good_count, good_row, good_span, inside, kind_in, kind_of, pop, row_width, rows_of, slice, span_of, value_of, width}
use Rattle.layout.specs.Write.{basic_fault, fault, first_of, or, sized_fault, too_long, unless, write, write_basic}
use Rattle.layout.proofs.Proper.{both}
use Rattle.layout.proofs.Tests.{lt-true, of_eq}
use Rattle.primitives_put.specs.Step.{Capped, Step, cap}
use Rattle.body_reading.specs.Tagged.{tag_shape, tags_shape}
use Rattle.body_writing.specs.Writes.{bytes_at, counted_bytes, fault_at, refusal_of, row_bytes, row_fault, rows_bytes}
use Rattle.primitives_put.proofs.Capped.{capped, capped_as, capped_behind, step_behind}
use Rattle.layout.proofs.Chunks.{row_cell}
use Rattle.body_writing.proofs.Writes.{all_bytes, array_fault, row_value}
use Rattle.primitives_put.specs.Put.{Put, behind_length}
use Rattle.primitives_put.proofs.Stored.{put_step}
use Rattle.body_writing.specs.Asked.{all_ranged, ranged}
use Rattle.body_writing.proofs.Counts.{Cells, cells_drop, rows_other, rows_same}
use Rattle.body_writing.proofs.Lent.{good_one}
use Rattle.primitives_put.proofs.Answered.{refused_alone}
use Rattle.body_writing.proofs.Called.{called}

is_tags : shape tags_alone 0 ≡ tags_shape true 1
unfolding shape at tag_rows stands standing
is_tags = refl

pub tag_wide : row_width tag_shape ≡ 3
unfolding row_width width
tag_wide = refl

-- ---- a row

module _ (lent : List ℕ) where
  pub tag_value : (r : List ℕ) → row_value lent tag_shape r ≡ (get_or r 0 0, (slice lent (get_or r 1 0, get_or r 2 0), tt))
  unfolding value_of pop width basic_of span_of
  tag_value [] = refl
  tag_value (a ∷ []) = refl
  tag_value (a ∷ b ∷ []) = refl
  tag_value (a ∷ b ∷ c ∷ r) = refl

  tag_bytes : (r : List ℕ) → row_bytes lent tag_shape r ≡ unsigned_bytes (get_or r 0 0) ++ behind_length plain (slice lent (get_or r 1 0, get_or r 2 0))
  unfolding row_bytes bytes_at write write_basic sized_bytes behind_length
  tag_bytes r = ap (write tag_shape) (tag_value r) ∙ ap (λ (s : List ℕ). unsigned_bytes (get_or r 0 0) ++ s) (append-nil _)

  -- a cell is below 2^64, and so is the size of what is lent
  tag_clean : (r : List ℕ) → get_or r 0 0 < 2 ^ 64 → length lent < 2 ^ 64 → row_fault lent tag_shape r ≡ 0
  unfolding row_fault fault_at fault basic_fault sized_fault too_long unless or
  tag_clean r h l =
      ap (fault tag_shape) (tag_value r)
      ∙ rw (lt-true (get_or r 0 0) (2 ^ 64) h)

  rows_clean : (n : ℕ) (cs : List ℕ) → Cells cs → length lent < 2 ^ 64 → first_of (row_fault lent tag_shape) (chunks n 3 cs) ≡ 0
  unfolding first_of or chunks
  rows_clean zero cs h l = refl
  rows_clean (suc n) cs h l = rw (tag_clean (take 3 cs) (omega (arith, get_or-take 3 cs 0 0 (lit< tt), h 0)) l) (rows_clean n (drop 3 cs) (cells_drop 3 cs h) l)

-- its data are inside
pub tag_good : (size : ℕ) (r : List ℕ) → (good_span size false (drop 1 r) && true) ≡ ranged 1 size r
unfolding good_span ranged
tag_good size r = and-true _ ∙ ap₂ (inside size) (get_or-drop 1 r 0 0) (get_or-drop 1 r 1 0)

-- ---- rows of table t, whose number stands at the front of table o

module _ (lent : List ℕ) (o t : ℕ) (st : Tables) (apart : t ≢ o) (there : t < length st) where
  abbrev cell : ℕ
  cell = get_or (get_or st o []) 0 0

  -- all rows of the table
  pub tags_bytes : count cell ≡ length (get_or st t []) / 3 → bytes_at lent (tags_shape true t) o st ≡ counted_bytes lent tag_shape plain 3 (get_or st t [])
  tags_bytes n = all_bytes lent plain tag_shape o t st tt 3 tag_wide apart there n refl

  pub tags_clean : count cell < 2 ^ 64 → Cells (get_or st t []) → length lent < 2 ^ 64 → fault_at lent (tags_shape true t) o st ≡ 0
  unfolding or too_long
  tags_clean h f l = array_fault lent plain tag_shape o t st tt 3 tag_wide apart there ∙ rows_clean lent (count cell) (get_or st t []) f l

-- ---- bytes: data behind their length, a tag in front of them, and their number in front of all

module _ {d d₁ e : List ℕ} {n m : ℕ} (at : ℕ) (h : at ≡ min n (length d₁)) where
  pub data_put : (x : List ℕ) → Put (unsigned_bytes (length x)) d n d₁ → Put x (mid_of at (length d₁ - at) d₁) m e → Step (behind_length plain x) d (n + m) (put_mid at (length d₁ - at) d₁ e)
  unfolding behind_length length_bytes
  data_put x p q = step_behind (put_step p) at h (put_step q)

  pub tag_put : (lent : List ℕ) (tag start k : ℕ) (x : List ℕ) → x ≡ slice lent (start, k) → Put (unsigned_bytes tag) d n d₁ → Step (behind_length plain x) (mid_of at (length d₁ - at) d₁) m e → (r : ℕ) → cap r ≡ cap (n + m) → Capped (row_bytes lent tag_shape (tag ∷ start ∷ k ∷ [])) d r (put_mid at (length d₁ - at) d₁ e)
  tag_put lent tag start k x i p q r j =
      capped_as (ap (λ (y : List ℕ). unsigned_bytes tag ++ behind_length plain y) i ∙ sym (tag_bytes lent (tag ∷ start ∷ k ∷ []))) (capped_behind (capped (put_step p)) at h (capped q) r j)

  pub tags_put : (lent table : List ℕ) → Put (unsigned_bytes (length table / 3)) d n d₁ → Capped (rows_bytes lent tag_shape 3 table) (mid_of at (length d₁ - at) d₁) m e → (r : ℕ) → cap r ≡ cap (n + m) → Capped (counted_bytes lent tag_shape plain 3 table) d r (put_mid at (length d₁ - at) d₁ e)
  unfolding counted_bytes length_bytes
  tags_put lent table p q r k = capped_behind (capped (put_step p)) at h q r k

-- a row's cells stand in the table
pub row_put : (table : List ℕ) (i : ℕ) → i < length table / 3 → (lent : List ℕ) {d d' : List ℕ} {n : ℕ} → Capped (row_bytes lent tag_shape (get_or table (i * 3) 0 ∷ get_or table (i * 3 + 1) 0 ∷ get_or table (i * 3 + 2) 0 ∷ [])) d n d' → Capped (row_bytes lent tag_shape (get_or (rows_of 3 table) i [])) d n d'
row_put table i h lent s =
    capped_as
    (tag_bytes lent (get_or table (i * 3) 0 ∷ get_or table (i * 3 + 1) 0 ∷ get_or table (i * 3 + 2) 0 ∷ [])
    ∙ sym (λ t. unsigned_bytes ((row_cell 3 table i h 0 (lit< tt) ∙ ap (λ (k : ℕ). get_or table k 0) (add-zero (i * 3))) t) ++ behind_length plain (slice lent (row_cell 3 table i h 1 (lit< tt) t, row_cell 3 table i h 2 (lit< tt) t)))
    ∙ sym (tag_bytes lent (get_or (rows_of 3 table) i [])))
    s

-- ---- 13

module _ (size c : ℕ) (table : List ℕ) where
  abbrev judged : Bool
  judged = good size 1 (tags_shape true 1) ((c ∷ []) ∷ table ∷ [])

  pub is_good : judged ≡ (good_count true c && (all_ranged 3 1 size table && eqb (count c) (length table / 3)))
  unfolding kind_of kind_in arrays good_row good_cells asked width
  is_good = good_one size (tags_shape true 1) tag_shape 3 1 (count c) (good_count true c) (c ∷ []) table refl tag_wide (and-true _) (add-zero (count c)) (tag_good size) (λ r. refl)

  pub other_count : {k : ℕ} → k ≡ count c → k ≢ length table / 3 → false ≡ judged
  other_count e h = rows_other c (length table / 3) (all_ranged 3 1 size table) e h ∙ sym is_good

  pub same_count : {k : ℕ} → k ≡ count c → k ≡ length table / 3 → length table < 2 ^ 64 → (b : Bool) → b ≡ all_ranged 3 1 size table → b ≡ judged
  same_count e h l b i = rows_same c (length table / 3) (all_ranged 3 1 size table) e h (omega arith) b i ∙ sym is_good

  pub good_rows : judged ≡ true → count c ≡ length table / 3
  good_rows g = of_eq (count c) (length table / 3) (both (all_ranged 3 1 size table) _ (both (good_count true c) _ (sym is_good ∙ g)).1).1

pub and_assoc : (a b c : Bool) → ((a && b) && c) ≡ (a && (b && c))
and_assoc true b c = refl
and_assoc false b c = refl

-- 13 of a row that ends with tags which its version lacks, c of them; x is what is asked of its other fields
pub tagged_good : (size : ℕ) (l : Shape) (x : Bool) (c : ℕ) (row tags : List ℕ) → kind_of 1 l ≡ absent natural (absent (blob plain) end) → good_row size l row ≡ (x && good_count true c) → asked 1 l row ≡ count c →
    good size 1 l (row ∷ tags ∷ []) ≡ (x && good size 1 (tags_shape true 1) ((c ∷ []) ∷ tags ∷ []))
unfolding row_width width good_row good_cells asked
tagged_good size l x c row tags kind own_good own_told =
    good_one size l (absent natural (absent (blob plain) end)) 3 1 (count c) _ row tags kind refl own_good own_told (tag_good size) (λ r. refl)
    ∙ and_assoc x (good_count true c) (all_ranged 3 1 size tags && eqb (count c) (length tags / 3))
    ∙ ap (λ (y : Bool). x && y) (sym (is_good size c tags))

-- ---- the call

module _ (lent table : List ℕ) (c : ℕ) (out : List ℕ) (f : Cells table) (t : length table < 2 ^ 64) (l : length lent < 2 ^ 64) where
  abbrev lent_rows : Tables
  lent_rows = (c ∷ []) ∷ table ∷ []

  answer : (r : Answer × List ℕ) (e : ℕ) → r ≡ write_alone e (counted_bytes lent tag_shape plain 3 table) out → refusal_of lent 1 (tags_shape true 1) (tags_shape true 1) lent_rows ≡ e → r ≡ write_answer tags_alone (pos 0) lent lent_rows out
  answer r e w j =
      called tags_alone (pos 0) 0 refl (lit≤ tt) (lit< tt) lent lent_rows out r e (counted_bytes lent tag_shape plain 3 table) w (rw is_tags j)
      (rw is_tags (λ g. tags_bytes lent 0 1 lent_rows (λ u. omega arith) (lit< tt) (good_rows (length lent) c table g)))

  pub told_bad : (e : Refusal) → e ≡ because 13 0 → judged (length lent) c table ≡ false → ◌≡◌ {A = Answer × List ℕ} (refused e, out) (write_answer tags_alone (pos 0) lent lent_rows out)
  unfolding refusal_of
  told_bad e i g = answer (refused e, out) 13 (refused_alone 13 _ out e i (λ u. omega arith) refl) (rw g)

  pub told_good_lem : judged (length lent) c table ≡ true → (o : Answer × List ℕ) → o ≡ write_alone 0 (counted_bytes lent tag_shape plain 3 table) out → o ≡ write_answer tags_alone (pos 0) lent lent_rows out
  unfolding refusal_of
  told_good_lem g o e = answer o 0 e (rw g (tags_clean lent 0 1 lent_rows (λ u. omega arith) (lit< tt) (omega (arith, good_rows (length lent) c table g)) f l))
