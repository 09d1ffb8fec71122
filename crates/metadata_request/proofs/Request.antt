-- A request part by part, each from the law of its layout: names, the array of them or null, auto-creation, and the answer to the call.
use mathlib.Core.Bool.{Bool, ◌&&◌, and-true, cond, false, true}
use mathlib.Core.List.{List, [], ◌++◌, ◌∷◌, append-nil}
use mathlib.Core.Logic.{◌≢◌}
use mathlib.Core.Path.{◌∙◌, ◌≡◌, ap, refl, sym}
use Prim.Native.Nat.{◌*◌, ◌+◌, ◌-◌, ◌/◌, ◌<◌, ◌^◌, ◌≤◌, min, ℕ}
use native.Mathlib.Nat.{add-zero}
use native.Mathlib.Omega.{arith}
use lib.Dec.{eqb, leb, lit<, ltb}
use lib.IntN.{ℤ}
use lib.ListN.{get_or, length}
use borrow.Author.Tests.{eq-eqb, ne_eqb}
use borrow.Rule.Slice.PartMut.{mid_of, put_mid}
use Rattle.layout.specs.Answers.{Answer, shape, write_alone, write_answer}
use Rattle.layout.specs.Messages.Metadata.{name_rows, request, request_rows}
use Rattle.layout.specs.Primitives.{fixed, flag_bytes, kept, length_bytes, minus, null_bytes, w32}
use Rattle.layout.specs.Rows.{at, end, stands, standing}
use Rattle.layout.specs.Tables.{arrays, asked, basic_of, chosen, chunks, count, good, good_cells, good_count, good_row, good_span, kind_in, kind_of, pop, row_width, rows_of, slice, value_of, width}
use Rattle.layout.specs.Write.{basic_fault, fault, first_of, or, too_long, write, write_basic}
use Rattle.layout.proofs.Proper.{both}
use Rattle.layout.proofs.Tests.{of_eq}
use Rattle.primitives_put.specs.Step.{Capped, cap}
use Rattle.body_writing.specs.Writes.{bytes_at, counted_bytes, fault_at, refusal_of, row_bytes, row_fault, rows_bytes, rows_fault}
use Rattle.primitives_put.proofs.Capped.{capped, capped_as, capped_behind, step_nothing}
use Rattle.body_writing.proofs.Faults.{or_none}
use Rattle.body_reading.proofs.Front.{Flat}
use Rattle.body_reading.proofs.Reply.{up_to_four}
use Rattle.body_writing.proofs.Writes.{all_bytes, array_null, refusal_bad, refusal_good, refusal_none, then_bytes, then_fault}
use Rattle.primitives.specs.Answers.{version_of}
use Rattle.primitives_put.specs.declared.Form.{Form}
use Rattle.primitives_put.specs.Put.{Put, behind_length, size_of}
use Rattle.body_writing.proofs.Even.{counted_put, null_put, string_put}
use Rattle.primitives_put.proofs.Stored.{put_step}
use Rattle.body_writing.specs.Asked.{all_ranged, ranged, string_fault}
use Rattle.body_writing.proofs.Counts.{rows_other, rows_same}
use Rattle.body_writing.proofs.Judged.{always}
use Rattle.body_writing.proofs.Lent.{good_one, string_told}
use Rattle.body_writing.proofs.Called.{called}
use Rattle.metadata_request.specs.Answers.{flag_row, of_creation}
use Rattle.std.specs.Prelude.{Option, Some, None, is_some, unwrap_or}
use Rattle.std.specs.Bool.{then_some}
use Rattle.metadata_request.specs.Shapes.{creation_field, creation_shape, name_shape, request_shape, topics_shape}

pub is_shape : (v : ℕ) → v ≤ 4 → shape request v ≡ request_shape (leb 4 v)
unfolding shape at stands standing request_rows name_rows
is_shape = up_to_four (λ v. shape request v ≡ request_shape (leb 4 v)) refl refl refl refl refl

-- ---- names

module _ (topics : List ℕ) (i : ℕ) (h : i < length topics / 2) (lent x : List ℕ) (e : x ≡ slice lent (get_or topics (i * 2) 0, get_or topics (i * 2 + 1) 0)) where
  pub name_put : {d d' : List ℕ} {n : ℕ} → Put (behind_length (size_of Form.Int16) x) d n d' → Capped (row_bytes lent name_shape (get_or (rows_of 2 topics) i [])) d n d'
  name_put = string_put lent 2 (lit< tt) topics i h x e

  pub name_told : (r : ℕ) → r ≡ string_fault x → r ≡ row_fault lent name_shape (get_or (rows_of 2 topics) i [])
  name_told = string_told lent 2 (lit< tt) topics i h x e

-- ---- 13

module _ (size c : ℕ) (topics : List ℕ) where
  abbrev asks : Bool
  asks = good_count true c && (all_ranged 2 0 size topics && eqb (count c) (length topics / 2))

  -- whatever is said of auto-creation
  is_good : (k m : ℕ) → good size 1 (request_shape false) ((c ∷ k ∷ m ∷ []) ∷ topics ∷ []) ≡ asks
  unfolding kind_of kind_in arrays row_width width good_row good_cells good_span asked ranged
  is_good k m = good_one size (request_shape false) name_shape 2 0 (count c) (good_count true c) (c ∷ k ∷ m ∷ []) topics refl refl (rw (always (eqb k 0)) (and-true (good_count true c))) (add-zero (count c)) (λ r. and-true _) (λ r. refl)

  abbrev pub judged : Bool
  judged = good size 1 (request_shape false) ((c ∷ 2 ∷ 1 ∷ []) ∷ topics ∷ [])

  pub other_count : {k : ℕ} → k ≡ count c → k ≢ length topics / 2 → false ≡ judged
  other_count e h = rows_other c (length topics / 2) (all_ranged 2 0 size topics) e h ∙ sym (is_good 2 1)

  pub same_count : {k : ℕ} → k ≡ count c → k ≡ length topics / 2 → length topics < 2 ^ 64 → (b : Bool) → b ≡ all_ranged 2 0 size topics → b ≡ judged
  same_count e h l b i = rows_same c (length topics / 2) (all_ranged 2 0 size topics) e h (omega arith) b i ∙ sym (is_good 2 1)

  pub good_rows : judged ≡ true → count c ≡ length topics / 2
  good_rows g = of_eq (count c) (length topics / 2) (both (all_ranged 2 0 size topics) _ (both (good_count true c) _ (sym (is_good 2 1) ∙ g)).1).1

-- ---- 11 and 7

creation_flat : (f : Bool) → Flat (creation_shape f)
creation_flat true = tt
creation_flat false = tt

-- auto-creation has no fault
creation_clean : (lent cs : List ℕ) (f : Bool) → row_fault lent (creation_shape f) cs ≡ 0
unfolding row_fault fault_at fault basic_fault or
creation_clean lent cs true = refl
creation_clean lent cs false = refl

module _ (lent : List ℕ) (c : ℕ) (topics : List ℕ) where
  abbrev pub refusal : ℕ
  refusal = refusal_of lent 1 (request_shape false) (request_shape false) ((c ∷ 2 ∷ 1 ∷ []) ∷ topics ∷ [])

  fault_is : (f : Bool) (k m : ℕ) → fault_at lent (request_shape f) 0 ((c ∷ k ∷ m ∷ []) ∷ topics ∷ []) ≡ first_of (row_fault lent name_shape) (chunks (count c) 2 topics)
  unfolding row_width width too_long or
  fault_is f k m =
      let names : ℕ = first_of (row_fault lent name_shape) (chunks (count c) 2 topics) in
      then_fault lent (fixed w32 kept) name_shape tt 2 refl c topics (creation_shape f) (creation_flat f) (k ∷ m ∷ []) ∙ ap (or names) (creation_clean lent (k ∷ m ∷ []) f) ∙ or_none names

  module _ (a : Bool) (e : a ≡ good (length lent) 1 (request_shape false) ((c ∷ 2 ∷ 1 ∷ []) ∷ topics ∷ [])) where
    pub fault_bad : a ≡ false → 13 ≡ refusal
    fault_bad = refusal_bad lent 1 (request_shape false) (request_shape false) ((c ∷ 2 ∷ 1 ∷ []) ∷ topics ∷ []) e

    module _ (h : a ≡ true) where
      pub fault_names : (r : ℕ) → r ≡ rows_fault lent name_shape 2 topics → r ≡ refusal
      unfolding rows_fault rows_of
      fault_names r i = refusal_good lent 1 (request_shape false) (request_shape false) ((c ∷ 2 ∷ 1 ∷ []) ∷ topics ∷ []) e h r (i ∙ sym (fault_is false 2 1 ∙ ap (λ (j : ℕ). first_of (row_fault lent name_shape) (chunks j 2 topics)) (good_rows (length lent) c topics (sym e ∙ h))))

  -- no number is given: the count tells the rows
  pub all_told : {e : ℕ} → e ≡ refusal → e ≡ 0 → count c ≡ length topics / 2
  all_told i h = good_rows (length lent) c topics (refusal_none lent 1 (request_shape false) (request_shape false) ((c ∷ 2 ∷ 1 ∷ []) ∷ topics ∷ []) i h)

-- ---- the walk

module _ (lent : List ℕ) (c : ℕ) (topics : List ℕ) (n : count c ≡ length topics / 2) {d d' : List ℕ} {r : ℕ} where
  pub asked_null : c ≡ minus → Put (null_bytes (size_of Form.Int32)) d r d' → Capped (bytes_at lent (topics_shape end) 0 ((c ∷ []) ∷ topics ∷ [])) d r d'
  asked_null h p = capped_as (sym (array_null lent (fixed w32 kept) name_shape 0 1 ((c ∷ []) ∷ topics ∷ []) (eq-eqb c minus h))) (null_put Form.Int32 kept p)

  pub asked_names : c ≢ minus → Capped (counted_bytes lent name_shape (fixed w32 kept) 2 topics) d r d' → Capped (bytes_at lent (topics_shape end) 0 ((c ∷ []) ∷ topics ∷ [])) d r d'
  unfolding row_width width
  asked_names h s = capped_as (sym (all_bytes lent (fixed w32 kept) name_shape 0 1 ((c ∷ []) ∷ topics ∷ []) tt 2 refl (λ u. omega arith) (lit< tt) n (ne_eqb c minus h))) s

flag_is : (b : Bool) → b ≡ ltb 0 (cond b 1 0)
flag_is true = refl
flag_is false = refl

module _ (o : Option Bool) where
  pub creation_there : {flag : Bool} → o ≡ Some flag → {d d' : List ℕ} {n : ℕ} → Put (flag_bytes flag) d n d' → Capped (row_bytes [] (creation_shape (is_some o)) (flag_row o)) d n d'
  unfolding row_bytes bytes_at write write_basic value_of pop width basic_of chosen
  creation_there {flag} h p = rw h (capped_as (ap flag_bytes (flag_is flag) ∙ sym (append-nil _)) (capped (put_step p)))

  pub creation_lacking : o ≡ None → (d : List ℕ) → Capped (row_bytes [] (creation_shape (is_some o)) (flag_row o)) d 0 d
  unfolding row_bytes bytes_at write value_of pop
  creation_lacking h d = rw h (capped (step_nothing d))

-- the bytes of auto-creation are no part of those lent
creation_bytes : (lent cs : List ℕ) (f : Bool) → row_bytes lent (creation_shape f) cs ≡ row_bytes [] (creation_shape f) cs
unfolding row_bytes bytes_at write write_basic value_of pop basic_of
creation_bytes lent cs true = refl
creation_bytes lent cs false = refl

request_bytes : (lent : List ℕ) (c : ℕ) (topics : List ℕ) (f : Bool) (cs : List ℕ) → bytes_at lent (request_shape f) 0 ((c ∷ cs) ∷ topics ∷ []) ≡ bytes_at lent (topics_shape end) 0 ((c ∷ []) ∷ topics ∷ []) ++ row_bytes [] (creation_shape f) cs
unfolding row_width width
request_bytes lent c topics f cs = then_bytes lent (fixed w32 kept) name_shape tt 2 refl c topics (creation_shape f) (creation_flat f) cs ∙ ap (λ (x : List ℕ). bytes_at lent (topics_shape end) 0 ((c ∷ []) ∷ topics ∷ []) ++ x) (creation_bytes lent cs f)

module _ {d d₁ e : List ℕ} {n m : ℕ} (at : ℕ) (h : at ≡ min n (length d₁)) (r : ℕ) (k : cap r ≡ cap (n + m)) where
  pub array_put : (lent topics : List ℕ) → Put (length_bytes (size_of Form.Int32) (length topics / 2)) d n d₁ → Capped (rows_bytes lent name_shape 2 topics) (mid_of at (length d₁ - at) d₁) m e → Capped (counted_bytes lent name_shape (fixed w32 kept) 2 topics) d r (put_mid at (length d₁ - at) d₁ e)
  array_put lent topics p q = counted_put Form.Int32 kept lent name_shape 2 topics at h r k p q

  pub request_put : (f : Bool) (lent : List ℕ) (c : ℕ) (cs topics : List ℕ) → Capped (bytes_at lent (topics_shape end) 0 ((c ∷ []) ∷ topics ∷ [])) d n d₁ → Capped (row_bytes [] (creation_shape f) cs) (mid_of at (length d₁ - at) d₁) m e →
      Capped (bytes_at lent (request_shape f) 0 ((c ∷ cs) ∷ topics ∷ [])) d r (put_mid at (length d₁ - at) d₁ e)
  request_put f lent c cs topics p q = capped_as (sym (request_bytes lent c topics f cs)) (capped_behind p at h q r k)

-- ---- the call's promise from that of a known version

-- a row means what is written of it: where it is unset, the broker may create topics; and a version that lacks it writes nothing of it
flag_written : (q : Option Bool) → row_bytes [] (creation_shape true) (of_creation q) ≡ row_bytes [] (creation_shape true) (flag_row (Some (unwrap_or q true)))
unfolding row_bytes bytes_at write value_of pop width basic_of chosen
flag_written None = refl
flag_written (Some b) = refl

row_written : (f : Bool) (q o : Option Bool) → o ≡ then_some f (unwrap_or q true) → row_bytes [] (creation_shape f) (of_creation q) ≡ row_bytes [] (creation_shape (is_some o)) (flag_row o)
unfolding row_bytes bytes_at write value_of pop
row_written true q o e = flag_written q ∙ ap (λ (x : Option Bool). row_bytes [] (creation_shape (is_some x)) (flag_row x)) (sym e)
row_written false q o e = ap (λ (x : Option Bool). row_bytes [] (creation_shape (is_some x)) (flag_row x)) (sym e)

row_refusal : (lent : List ℕ) (c : ℕ) (topics : List ℕ) (f : Bool) (k m : ℕ) → refusal_of lent 1 (request_shape false) (request_shape f) ((c ∷ k ∷ m ∷ []) ∷ topics ∷ []) ≡ refusal lent c topics
unfolding refusal_of
row_refusal lent c topics f k m = λ t. cond ((is_good (length lent) c topics k m ∙ sym (is_good (length lent) c topics 2 1)) t) ((fault_is lent c topics f k m ∙ sym (fault_is lent c topics false 2 1)) t) 13

pub request_written : (lent : List ℕ) (c : ℕ) (topics out : List ℕ) (v : ℕ) → v ≤ 4 → (q : Option Bool) (z : ℤ) → v ≡ version_of z → (o : Option Bool) → o ≡ then_some (leb 4 v) (unwrap_or q true) → (r : Answer × List ℕ) →
    r ≡ write_alone (refusal lent c topics) (bytes_at lent (request_shape (is_some o)) 0 ((c ∷ flag_row o) ∷ topics ∷ [])) out → r ≡ write_answer request z lent ((c ∷ of_creation q) ∷ topics ∷ []) out
request_written lent c topics out v h q z e o j r w =
    called request z v e h (omega arith) lent ((c ∷ of_creation q) ∷ topics ∷ []) out r _ _ w (rw (is_shape v h, is_shape 0 (omega arith)) (refusals q))
    (λ g. rw (is_shape v h) (request_bytes lent c topics (leb 4 v) (of_creation q) ∙ ap (λ (x : List ℕ). bytes_at lent (topics_shape end) 0 ((c ∷ []) ∷ topics ∷ []) ++ x) (row_written (leb 4 v) q o j) ∙ sym (request_bytes lent c topics (is_some o) (flag_row o))))
  where
    refusals : (q : Option Bool) → refusal_of lent 1 (request_shape false) (request_shape (leb 4 v)) ((c ∷ of_creation q) ∷ topics ∷ []) ≡ refusal lent c topics
    refusals None = row_refusal lent c topics (leb 4 v) 0 0
    refusals (Some flag) = row_refusal lent c topics (leb 4 v) 2 (cond flag 1 0)
