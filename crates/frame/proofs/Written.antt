-- Frames written, whatever their header: a number that it does not have, the end with tags and body, and the answer from what the measuring and the filling walk came to.
use mathlib.Core.Bool.{Bool, cond, false, true}
use mathlib.Core.List.{List, [], ◌++◌, ◌∷◌, append_assoc}
use mathlib.Core.Logic.{◌≢◌}
use mathlib.Core.Path.{◌∙◌, ◌≡◌, ap, refl, sym}
use Prim.Native.Nat.{◌+◌, ◌-◌, ◌/◌, ◌<◌, ◌^◌, ◌≤◌, min, suc, zero, ℕ}
use native.Mathlib.Omega.{arith}
use lib.Dec.{lit<, ltb}
use lib.IntN.{negsuc, pos, ℤ}
use lib.ListN.{drop, length, length-append}
use borrow.Rule.Slice.PartMut.{mid_of, put_mid}
use Rattle.layout.specs.Answers.{Answer, Message, accepted, at_version, body, meant, most, refused, shape, stored}
use Rattle.layout.specs.Frames.{Header, frame_made, frame_written, framed, numbered}
use Rattle.layout.specs.Primitives.{bytes, plain}
use Rattle.layout.specs.Reading.{Refusal, Res, bad, because, no_room}
use Rattle.layout.specs.Rows.{Shape}
use Rattle.layout.specs.Tables.{Tables, count, good}
use Rattle.layout.specs.Write.{fault, write}
use Rattle.layout.proofs.Back.{length_bytes_lem}
use Rattle.layout.proofs.Chunks.{nil}
use Rattle.layout.proofs.Tests.{by_test, le-false, le-true, lt-false, lt-true}
use Rattle.primitives.specs.Answers.{version_of}
use Rattle.primitives.proofs.Versions.{known}
use Rattle.primitives_put.specs.Put.{Put}
use Rattle.primitives_put.specs.Step.{Capped, Step, cap}
use Rattle.primitives_put.proofs.Capped.{capped, capped_as, capped_behind, capped_count, capped_over, step_behind}
use Rattle.primitives_put.proofs.Stored.{put_step}
use Rattle.body_reading.specs.Tagged.{tag_shape, tags_shape}
use Rattle.body_writing.specs.Writes.{bytes_at, counted_bytes, fault_at, refusal_of}
use Rattle.body_writing.proofs.Counts.{Cells}
use Rattle.tagged_fields.proofs.Tags as Tags

-- ---- tags at the end of a header, c of them

module _ (lent : List ℕ) (c : ℕ) (tags : List ℕ) (same : count c ≡ length tags / 3) where
  pub tags_bytes : (t : Bool) → bytes_at lent (tags_shape t 1) 0 ((c ∷ []) ∷ tags ∷ []) ≡ cond t (counted_bytes lent tag_shape plain 3 tags) []
  unfolding bytes_at write
  tags_bytes true = Tags.tags_bytes lent 0 1 ((c ∷ []) ∷ tags ∷ []) (λ u. omega arith) (lit< tt) same
  tags_bytes false = refl

  pub tags_clean : length lent < 2 ^ 64 → Cells tags → length tags < 2 ^ 64 → (t : Bool) → fault_at lent (tags_shape t 1) 0 ((c ∷ []) ∷ tags ∷ []) ≡ 0
  unfolding fault_at fault
  tags_clean l f n true = Tags.tags_clean lent 0 1 ((c ∷ []) ∷ tags ∷ []) (λ u. omega arith) (lit< tt) (omega (arith, same)) f l
  tags_clean l f n false = refl

-- the body after tags that the header may lack
module _ (t : Bool) (x y : List ℕ) where
  pub end_lacking : t ≡ false → {d d' : List ℕ} {r : ℕ} → Put y d r d' → Capped (cond t x [] ++ y) d r d'
  end_lacking h p = rw h (capped (put_step p))

  pub end_there : t ≡ true → {d d₁ e : List ℕ} {n m : ℕ} (at : ℕ) → at ≡ min n (length d₁) → (r : ℕ) → cap r ≡ cap (n + m) → Capped x d n d₁ → Put y (mid_of at (length d₁ - at) d₁) m e → Capped (cond t x [] ++ y) d r (put_mid at (length d₁ - at) d₁ e)
  end_there h at i r k p q = rw h (capped_behind p at i (capped (put_step q)) r k)

-- and both after a header's fields
pub header_put : {header : List ℕ} (fs ts rest : List ℕ) → header ≡ fs ++ ts → {d d₁ e : List ℕ} {n m : ℕ} → Capped fs d n d₁ → (at : ℕ) → at ≡ min n (length d₁) → Capped (ts ++ rest) (mid_of at (length d₁ - at) d₁) m e → (r : ℕ) → cap r ≡ cap (n + m) → Capped (header ++ rest) d r (put_mid at (length d₁ - at) d₁ e)
header_put fs ts rest i p at h q r k = capped_as (sym (append_assoc fs ts rest) ∙ ap (λ (x : List ℕ). x ++ rest) (sym i)) (capped_behind p at h q r k)

-- ---- 1: a number that the header does not have

module _ {A : Type 0} (first : ℕ) (v : ℕ) where
  pub below : (z : ℤ) → v ≡ version_of z → v < first → (r : Res A) → numbered first z r ≡ bad (because 1 0)
  below (pos n) i l r = rw (lt-true n first (omega arith))
  below (negsuc n) i l r = refl

  pub above : (m : Message) (z : ℤ) → v ≡ version_of z → m.last < v → (f : Shape → Res A) → numbered first z (at_version m z f) ≡ bad (because 1 0)
  above m (pos n) i l f = by_test (ltb n first) (λ b. rw b) (λ b. rw (b, le-false n m.last (omega arith)))
  above m (negsuc n) i l f = refl

module _ (h : Header) (z : ℤ) (v : ℕ) (i : v ≡ version_of z) (lent : List ℕ) (st : Tables) (rest out : List ℕ) (c : Refusal) (d : c ≡ because 1 0) where
  unknown : frame_made h z lent st rest ≡ bad (because 1 0) → ◌≡◌ {A = Answer × List ℕ} (refused c, out) (frame_written h z lent st rest out)
  unfolding frame_written
  unknown e = (λ t. (refused (d t), out)) ∙ ap (stored out) (sym e)

  pub number_below : v < h.first → ◌≡◌ {A = Answer × List ℕ} (refused c, out) (frame_written h z lent st rest out)
  unfolding frame_made
  number_below l = unknown (below h.first v z i l _)

  pub number_above : h.rows.last < v → ◌≡◌ {A = Answer × List ℕ} (refused c, out) (frame_written h z lent st rest out)
  unfolding frame_made
  number_above l = unknown (above h.first v h.rows z i l _)

-- ---- a number that the header has

framed_good : (g : Bool) (e : ℕ) (header rest : List ℕ) → cond g (framed e header rest) (bad (because 13 0)) ≡ framed (cond g e 13) header rest
framed_good true e header rest = refl
framed_good false e header rest = refl

module _ (h : Header) (v : ℕ) (lent : List ℕ) (st : Tables) (rest out : List ℕ) where
  -- 13, 11, 7, or 0 for none of them
  abbrev refusal : ℕ
  refusal = refusal_of lent h.rows.tables (shape h.rows 0) (shape h.rows v) st

  abbrev header : List ℕ
  header = bytes_at lent (shape h.rows v) 0 st

  module _ (t : h.first ≤ v) (k : v ≤ h.rows.last) where
    is_framed : {e : ℕ} → e ≡ refusal → stored out (framed e header rest) ≡ frame_written h (pos v) lent st rest out
    unfolding frame_written frame_made refusal_of bytes_at fault_at meant body
    is_framed {e} i =
        ap (λ (n : ℕ). stored out (framed n header rest)) i
        ∙ sym (rw (lt-false v h.first t, le-true v h.rows.last k) (ap (stored out) (framed_good (good (length lent) h.rows.tables (shape h.rows 0) st) _ _ rest)))

    -- as it was asked for
    module _ (z : ℤ) (i : v ≡ version_of z) (l : h.rows.last < 65536) where
      pub number_known : (o : Answer × List ℕ) → o ≡ frame_written h (pos v) lent st rest out → o ≡ frame_written h z lent st rest out
      number_known o e = e ∙ ap (λ (y : ℤ). frame_written h y lent st rest out) (known h.rows z v i k l)

      pub number_refused : (e : ℕ) → e ≡ refusal → e ≢ 0 → (c : Refusal) → c ≡ because e 0 → ◌≡◌ {A = Answer × List ℕ} (refused c, out) (frame_written h z lent st rest out)
      number_refused zero j f c d = absurd (f refl)
      number_refused (suc e) j f c d = number_known (refused c, out) ((λ t. (refused (d t), out)) ∙ is_framed j)

    -- nothing is refused of the header; n counts its bytes and the body's, and e is what the walk left of no room
    module _ (clean : 0 ≡ refusal) {e : List ℕ} {n : ℕ} (s : Capped (header ++ rest) [] n e) where
      same : e ++ out ≡ out
      same = ap (λ (x : List ℕ). x ++ out) (nil e s.long)

      answer : (o : Answer × List ℕ) → o ≡ stored out (framed 0 header rest) → o ≡ frame_written h (pos v) lent st rest out
      answer o i = i ∙ is_framed clean

      pub frame_long : (c : Refusal) → c ≡ because 2 0 → most < n → ◌≡◌ {A = Answer × List ℕ} (refused c, e ++ out) (frame_written h (pos v) lent st rest out)
      frame_long c i l = answer (refused c, e ++ out) ((λ t. (refused (i t), same t)) ∙ sym (rw (le-false (length header + length rest) most (omega (arith, capped_over s l, length-append header rest)))))

      module _ (few : n ≤ most) where
        size_is : n ≡ length header + length rest
        size_is = capped_count s few ∙ length-append header rest

        pub frame_short : (c : Refusal) → c ≡ no_room (4 + n) → length (e ++ out) < 4 + n → ◌≡◌ {A = Answer × List ℕ} (refused c, e ++ out) (frame_written h (pos v) lent st rest out)
        frame_short c i l =
            answer (refused c, e ++ out)
            ((λ t. (refused ((i ∙ ap (λ (k : ℕ). no_room (4 + k)) size_is) t), same t))
            ∙ sym (rw (le-true (length header + length rest) most (omega (arith, size_is)), le-false (4 + (length header + length rest)) (length out) (omega (arith, size_is, ap length same)))))

        -- the size is stored, and header and body after it
        pub frame_stored : {d x : List ℕ} {k m : ℕ} → 4 + n ≤ length (e ++ out) → Put (bytes 4 n) (e ++ out) k d → Capped (header ++ rest) (mid_of 4 (length d - 4) d) m x →
            ◌≡◌ {A = Answer × List ℕ} (accepted [] (4 + n), put_mid 4 (length d - 4) d x) (frame_written h (pos v) lent st rest out)
        frame_stored {d} {x} {k} {m} room p w =
            let long : length (bytes 4 n ++ (header ++ rest)) ≡ 4 + n = length-append (bytes 4 n) (header ++ rest) ∙ omega (arith, length_bytes_lem 4 n, length-append header rest, size_is) in
            let walk : Step (header ++ rest) (mid_of 4 (length d - 4) d) (length (header ++ rest)) x = record { count = refl; long = w.long; stored = w.stored (omega (arith, length-append header rest, size_is)) } in
            let all = step_behind (put_step p) 4 (omega (arith, p.count, (put_step p).long, length_bytes_lem 4 n)) walk in
            answer (accepted [] (4 + n), put_mid 4 (length d - 4) d x)
            ((λ t. (accepted [] (4 + size_is t), (all.stored (omega (arith, long)) ∙ (λ t. (bytes 4 (size_is t) ++ (header ++ rest)) ++ drop ((long ∙ ap (λ (j : ℕ). 4 + j) size_is) t) (same t))) t))
            ∙ sym (rw (le-true (length header + length rest) most (omega (arith, size_is)), le-true (4 + (length header + length rest)) (length out) (omega (arith, size_is, ap length same)))))
