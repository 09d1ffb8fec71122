-- The name of a refusal: it is that of the field that refused, in a body and in a frame, and the number and the place alone decide it. So a prefix and a whole read of one
-- body that refuse with one number at one place name one row and one field.
use mathlib.Core.Bool.{Bool, ◌||◌, cond, false, true}
use mathlib.Core.List.{List, [], ◌∷◌}
use mathlib.Core.Path.{◌∙◌, ◌≡◌, ap, refl, sym}
use Prim.Native.Nat.{◌+◌, ◌<◌, ◌≤◌, ℕ}
use native.Mathlib.Omega.{arith}
use lib.Dec.{leb, ltb}
use lib.IntN.{ℤ, negsuc, pos}
use lib.ListN.{drop, length, take}
use lib.Seq.{length-take-le}
use borrow.Author.Tests.{leb-false}
use Rattle.layout.specs.Reading.{Refusal, Res, bad, because, more, naming, nowhere, ok}
use Rattle.layout.specs.Primitives.{be, cell, cell_of, int, signed, w32}
use Rattle.layout.specs.Read.{read_basic}
use Rattle.layout.specs.Rows.{Shape, field, number}
use Rattle.layout.specs.Tables.{Tables, append, cells, read_rows}
use Rattle.layout.specs.Names.{Sought, blame, blamed, fieldless, name_at, name_by, name_fault, past, seek, there}
use Rattle.layout.specs.Answers.{Message, ended, meant, most, named, named_fault, no_rows, none_yet, seen, shape}
use Rattle.layout.specs.Messages.ApiVersions as Api
use Rattle.layout.specs.Messages.Fetch as Fetch
use Rattle.layout.specs.Messages.Headers as Headers
use Rattle.layout.specs.Messages.Metadata as Metadata
use Rattle.layout.specs.Frames.{Header, frame_bytes, frame_named, frame_seen, frame_size, in_frame, size_of, with_body, with_size}
use Rattle.layout.proofs.Found.{Stops, reading, right}
use Rattle.layout.proofs.Frames.{number_is, size_inv, sized_shape}
use Rattle.layout.proofs.Refusals.{Refuses}
use Rattle.layout.proofs.Steps.{by_result, int_bad, not_ok, then_bad, then_ok}
use Rattle.layout.proofs.Tests.{by_test, lt-false, lt-true, of_le}

-- a refusal of the bytes s, which begin at p and have the fields of l: which field refused, and that it is named
pub record Right (w : Bool) (l : Shape) (c : List ℕ) (p : ℕ) (s : List ℕ) (m : ℕ) (e has-name : Refusal) : Type 0 where
  pub refuses : Stops (reading w l nowhere 0 c) (λ q. seek q l nowhere 0 c) p s e
  pub is : has-name ≡ naming m refuses.row refuses.field e

name_right : (w : Bool) (l : Shape) (c : List ℕ) (p : ℕ) (s : List ℕ) (m : ℕ) (e : Refusal) (o : ℕ) (st : Tables) → read_rows w append l o st p s ≡ bad e → fieldless e.number ≡ false → Right w l c p s m e (name_at m l c p s e)
unfolding name_at
name_right w l c p s m e o st d h =
    let r = right w append l o st nowhere 0 c p s e d in
    record { refuses = r; is = rw (h, lt-false e.place p r.after, r.finds) }

-- 1, 2, 9 and 14 are of no field
no_field_in : (fieldless 1 ≡ true) × (fieldless 2 ≡ true) × (fieldless 9 ≡ true) × (fieldless 14 ≡ true)
unfolding fieldless
no_field_in = (refl, refl, refl, refl)

module _ {A X : Type 0} (e : Refusal) (h : fieldless e.number ≡ false) where
  in_a_field : (n p : ℕ) → fieldless n ≡ true → ◌≡◌ {A = Res A} (bad (because n p)) (bad e) → X
  in_a_field n p t d =
      let x : because n p ≡ e = cc in
      let y : ◌≡◌ {A = Bool} true false = sym t ∙ ap (λ (u : Refusal). fieldless u.number) x ∙ h in
      let z : ◌≡◌ {A = ℕ} 0 1 = cc in
      absurd (omega arith)

-- every table has its count
few_tables : ((Api.request).tables < 8) × ((Api.response).tables < 8) × ((Metadata.request).tables < 8) × ((Metadata.response).tables < 8) × ((Fetch.request).tables < 8) × ((Fetch.response).tables < 8) × ((Headers.request).rows.tables < 8) × ((Headers.response).rows.tables < 8)
few_tables = (omega arith, omega arith, omega arith, omega arith, omega arith, omega arith, omega arith, omega arith)

-- ---- the rest of a refusal stays, and it is of message m; with a number that is of no field it has neither row nor field

pub record Keeps (m : ℕ) (e has_name : Refusal) : Type 0 where
  pub number_is : has_name.number ≡ e.number
  pub place_is : has_name.place ≡ e.place
  pub need_is : has_name.need ≡ e.need
  pub message_is : has_name.message ≡ m
  pub no_row : fieldless e.number ≡ true → has_name.row ≡ nowhere
  pub no_field : fieldless e.number ≡ true → has_name.field ≡ nowhere

keeps_none : (m : ℕ) (e : Refusal) → Keeps m e (naming m nowhere nowhere e)
keeps_none m e = record { number_is = refl; place_is = refl; need_is = refl; message_is = refl; no_row = λ h. refl; no_field = λ h. refl }

not_both : {X : Type 0} {b : Bool} → b ≡ true → b ≡ false → X
not_both {b = b} h g = let z : ◌≡◌ {A = ℕ} 0 1 = cc in absurd (omega arith)

keeps_field : (m r f : ℕ) (e : Refusal) → fieldless e.number ≡ false → Keeps m e (naming m r f e)
keeps_field m r f e g = record { number_is = refl; place_is = refl; need_is = refl; message_is = refl; no_row = λ h. not_both h g; no_field = λ h. not_both h g }

name_keeps : (m : ℕ) (l : Shape) (c : List ℕ) (p : ℕ) (s : List ℕ) (e : Refusal) → Keeps m e (name_at m l c p s e)
unfolding name_at
name_keeps m l c p s e = by_test (fieldless e.number || ltb e.place p) (λ d. rw d (keeps_none m e)) (λ d. rw d (of_walk (either (fieldless e.number) (ltb e.place p) d) (seek e.place l nowhere 0 c p s)))
  where
    either : (b a : Bool) → (b || a) ≡ false → b ≡ false
    either true a d = d
    either false a d = refl

    of_walk : fieldless e.number ≡ false → (o : Res (List ℕ)) → Keeps m e (name_by m e o)
    of_walk h (ok d n) = keeps_none m e
    of_walk h (bad x) = keeps_field m x.row x.field e h

pub named_keeps : (m : Message) (v : ℤ) (s : List ℕ) (e : Refusal) → Keeps m.number e (named m v s e)
unfolding named
named_keeps m (pos v) s e = name_keeps m.number (shape m v) none_yet 0 s e
named_keeps m (negsuc v) s e = keeps_none m.number e

pub frame_named_keeps : (h : Header) (v : ℤ) (s : List ℕ) (e : Refusal) → Keeps h.rows.number e (frame_named h v s e)
unfolding frame_named
frame_named_keeps h (pos v) s e = name_keeps h.rows.number (shape h.rows v) none_yet 4 (drop 4 (frame_bytes s (frame_size s))) e
frame_named_keeps h (negsuc v) s e = keeps_none h.rows.number e

pub named_fault_keeps : (m : Message) (v : ℤ) (lent : List ℕ) (st : Tables) (e : Refusal) → Keeps m.number e (named_fault m v lent st e)
unfolding named_fault name_fault
named_fault_keeps m (negsuc v) lent st e = keeps_none m.number e
named_fault_keeps m (pos v) lent st e =
    by_test (fieldless e.number) (λ d. rw d (keeps_none m.number e)) (λ d. rw d (of_walk d (blame e.number (shape m v) nowhere 0 none_yet (meant lent st (shape m v)))))
  where
    of_walk : fieldless e.number ≡ false → (o : Sought) → Keeps m.number e (blamed m.number e o)
    of_walk h (there row f) = keeps_field m.number row f e h
    of_walk h (past c) = keeps_none m.number e

pub refuses_named : (top : ℕ) (s : List ℕ) {m : ℕ} {e has_name : Refusal} → Keeps m e has_name → Refuses top s e → Refuses top s has_name
refuses_named top s k r = record { least = (let a = r.least in let b = k.number_is in omega arith); greatest = (let a = r.greatest in let b = k.number_is in omega arith); place_in = (let a = r.place_in in let b = k.place_is in omega arith); no_need = k.need_is ∙ r.no_need }

-- ---- a number that is of no field

pub no_field : (m : Message) (v : ℤ) (s : List ℕ) (e : Refusal) → fieldless e.number ≡ true → naming m.number nowhere nowhere e ≡ named m v s e
unfolding named name_at
no_field m (pos v) s e h = sym (rw h)
no_field m (negsuc v) s e h = refl

pub no_field_written : (m : Message) (v : ℤ) (lent : List ℕ) (st : Tables) (e : Refusal) → fieldless e.number ≡ true → naming m.number nowhere nowhere e ≡ named_fault m v lent st e
unfolding named_fault name_fault
no_field_written m (pos v) lent st e h = sym (rw h)
no_field_written m (negsuc v) lent st e h = refl

pub no_field_framed : (h : Header) (v : ℤ) (s : List ℕ) (e : Refusal) → fieldless e.number ≡ true → naming h.rows.number nowhere nowhere e ≡ frame_named h v s e
unfolding frame_named name_at
no_field_framed h (pos v) s e d = sym (rw d)
no_field_framed h (negsuc v) s e d = refl

-- ---- bodies

pub named_right : (w : Bool) (m : Message) (v : ℕ) (s : List ℕ) (e : Refusal) → seen w m (pos v) s ≡ bad e → fieldless e.number ≡ false → Right w (shape m v) none_yet 0 s m.number e (named m (pos v) s e)
unfolding seen named
named_right w m v s e d h =
    by_test (leb v m.last)
    (λ a. by_test (leb (length s) most)
    (λ b. by_result (read_rows w append (shape m v) 0 (no_rows m) 0 s) (λ st n i. over_end st n w (rw (a, b, i) at d)) (λ c i. inside c i (rw (a, b, i) at d)))
    (λ b. in_a_field {A = Tables} e h 2 0 no_field_in.1 (rw (a, b) at d)))
    (λ a. in_a_field {A = Tables} e h 1 0 no_field_in.0 (rw a at d))
  where
    over_end : (st : Tables) (n : ℕ) (q : Bool) → ended q (length s) (ok st n) ≡ bad e → Right w (shape m v) none_yet 0 s m.number e (name_at m.number (shape m v) none_yet 0 s e)
    over_end st n false d = not_ok (sym d)
    over_end st n true d = by_test (ltb n (length s)) (λ i. in_a_field {A = Tables} e h 9 n no_field_in.2 (rw i at d)) (λ i. not_ok (sym (rw i at d)))

    inside : (c : Refusal) → read_rows w append (shape m v) 0 (no_rows m) 0 s ≡ bad c → ◌≡◌ {A = Res Tables} (bad c) (bad e) → Right w (shape m v) none_yet 0 s m.number e (name_at m.number (shape m v) none_yet 0 s e)
    inside c i j = name_right w (shape m v) none_yet 0 s m.number e 0 (no_rows m) (i ∙ j) h

-- ---- one number and one place, one row and one field

abbrev row_of : Res (List ℕ) → ℕ
row_of (ok c n) = nowhere
row_of (bad x) = x.row

abbrev field_of : Res (List ℕ) → ℕ
field_of (ok c n) = nowhere
field_of (bad x) = x.field

pub record SameName (a b : Refusal) : Type 0 where
  pub same_row : a.row ≡ b.row
  pub same_field : a.field ≡ b.field

one_name_at : (m : ℕ) (l : Shape) (c : List ℕ) (p : ℕ) (s : List ℕ) (a b : Refusal) → a.number ≡ b.number → a.place ≡ b.place → SameName (name_at m l c p s a) (name_at m l c p s b)
unfolding name_at
one_name_at m l c p s a b i j = record { same_row = at_row a ∙ (λ k. decides row_of (i k) (j k)) ∙ sym (at_row b); same_field = at_field a ∙ (λ k. decides field_of (i k) (j k)) ∙ sym (at_field b) }
  where
    decides : (Res (List ℕ) → ℕ) → ℕ → ℕ → ℕ
    decides g n q = cond (fieldless n || ltb q p) nowhere (g (seek q l nowhere 0 c p s))

    row_by : (e : Refusal) (o : Res (List ℕ)) (t : Bool) → (cond t (naming m nowhere nowhere e) (name_by m e o)).row ≡ cond t nowhere (row_of o)
    row_by e o true = refl
    row_by e (ok c n) false = refl
    row_by e (bad x) false = refl

    field_by : (e : Refusal) (o : Res (List ℕ)) (t : Bool) → (cond t (naming m nowhere nowhere e) (name_by m e o)).field ≡ cond t nowhere (field_of o)
    field_by e o true = refl
    field_by e (ok c n) false = refl
    field_by e (bad x) false = refl

    at_row : (e : Refusal) → (name_at m l c p s e).row ≡ decides row_of e.number e.place
    at_row e = row_by e (seek e.place l nowhere 0 c p s) (fieldless e.number || ltb e.place p)

    at_field : (e : Refusal) → (name_at m l c p s e).field ≡ decides field_of e.number e.place
    at_field e = field_by e (seek e.place l nowhere 0 c p s) (fieldless e.number || ltb e.place p)

pub one_name : (m : Message) (v : ℤ) (s : List ℕ) (a b : Refusal) → a.number ≡ b.number → a.place ≡ b.place → SameName (named m v s a) (named m v s b)
unfolding named
one_name m (pos v) s a b i j = one_name_at m.number (shape m v) none_yet 0 s a b i j
one_name m (negsuc v) s a b i j = record { same_row = refl; same_field = refl }

-- ---- frames

-- a size is refused at the frame's first byte
pub size_place : (s : List ℕ) (e : Refusal) → frame_size s ≡ bad e → e.place ≡ 0
unfolding frame_size cell
size_place s e d = by_result (cell w32 0 s) (λ n k i. judge n k (rw i at d)) (λ c i. of_cell_lem c i (rw i at d))
  where
    at_start : (n : ℕ) → ◌≡◌ {A = Res ℕ} (bad (because n 0)) (bad e) → e.place ≡ 0
    at_start n d = let x : because n 0 ≡ e = cc in sym (ap (λ (u : Refusal). u.place) x)

    judge : (n k : ℕ) → size_of (length s) (ok n k) ≡ bad e → e.place ≡ 0
    judge n k f = by_test (leb n most) (λ a. by_test (leb (k + n) (length s)) (λ b. not_ok (sym (rw (a, b) at f))) (λ b. at_start 3 (rw (a, b) at f))) (λ a. at_start 14 (rw a at f))

    of_cell_lem : (c : Refusal) → cell w32 0 s ≡ bad c → ◌≡◌ {A = Res ℕ} (bad c) (bad e) → e.place ≡ 0
    of_cell_lem c i j =
        by_test (leb 4 (length s)) (λ t. not_ok (sym i ∙ number_is s (of_le 4 (length s) t)))
        (λ t. at_start 3 (sym (then_bad (int 4) _ 0 s (because 3 0) (int_bad 4 0 s (leb-false 4 (length s) t))) ∙ i ∙ j))

-- a refusal of the size names no field, one after it the header's field that refused
pub frame_named_size : (h : Header) (v : ℤ) (s : List ℕ) (e : Refusal) → e.place < 4 → frame_named h v s e ≡ naming h.rows.number nowhere nowhere e
unfolding frame_named name_at
frame_named_size h (negsuc v) s e l = refl
frame_named_size h (pos v) s e l = rw (lt-true e.place 4 l, or_true (fieldless e.number))
  where
    or_true : (b : Bool) → (b || true) ≡ true
    or_true true = refl
    or_true false = refl

pub frame_named_right : (h : Header) (v : ℕ) (s : List ℕ) (e : Refusal) → frame_seen h (pos v) s ≡ bad e → fieldless e.number ≡ false → 4 ≤ e.place → Right false (shape h.rows v) none_yet 4 (drop 4 (frame_bytes s (frame_size s))) h.rows.number e (frame_named h (pos v) s e)
unfolding frame_seen frame_named read_rows read_basic
frame_named_right h v s e d f l =
    by_test (ltb v h.first) (λ a. in_a_field {A = Tables} e f 1 0 no_field_in.0 (rw a at d))
    (λ a. by_test (leb v h.rows.last) (λ b. in_bytes (of_le v h.rows.last b) (frame_size s) refl (rw (a, b) at d)) (λ b. in_a_field {A = Tables} e f 1 0 no_field_in.0 (rw (a, b) at d)))
  where
    R : List ℕ → Res Tables
    R w = read_rows false append (shape (with_size h.rows) v) 0 (no_rows h.rows) 0 w

    Named : List ℕ → Type 0
    Named u = Right false (shape h.rows v) none_yet 4 (drop 4 u) h.rows.number e (name_at h.rows.number (shape h.rows v) none_yet 4 (drop 4 u) e)

    after_size : (u : List ℕ) → 4 ≤ length u → v ≤ h.rows.last → R u ≡ bad e → Named u
    after_size u t k i =
        let x = cell_of (signed w32 (be 0 (take 4 u))) in
        let r : read_rows false append (field (number w32) (shape h.rows v)) 0 (no_rows h.rows) 0 u ≡ bad e = sym (ap (λ (y : Shape). read_rows false append y 0 (no_rows h.rows) 0 u) (sized_shape h.rows v k)) ∙ i in
        let st = append 0 (cells (number w32) x) (no_rows h.rows) in
        let y : more 4 (read_rows false append (shape h.rows v) 0 st 4 (drop 4 u)) ≡ bad e = sym (then_ok (cell w32) _ 0 u x 4 (number_is u t)) ∙ r in
        name_right false (shape h.rows v) none_yet 4 (drop 4 u) h.rows.number e 0 st (later (read_rows false append (shape h.rows v) 0 st 4 (drop 4 u)) y) f
      where
        later : (o : Res Tables) → more 4 o ≡ bad e → o ≡ bad e
        later (ok st n) d = not_ok (sym d)
        later (bad c) d = d

    in_bytes : v ≤ h.rows.last → (o : Res ℕ) → frame_size s ≡ o → in_frame s R o ≡ bad e → Named (frame_bytes s o)
    in_bytes k (ok n z) i d = by_result (R (take z s)) (λ st m j. has_body z st m (rw j at d)) (λ c j. let a = size_inv s n z i in after_size (take z s) (let b = length-take-le z s a.there in omega (arith, a.all)) k (let g : ◌≡◌ {A = Res Tables} (bad c) (bad e) = rw j at d in j ∙ g))
      where
        has_body : (z : ℕ) (st : Tables) (m : ℕ) → with_body z (ok st m) ≡ bad e → Named (take z s)
        has_body z [] m d = not_ok (sym d)
        has_body z (c ∷ st) m d = not_ok (sym d)
    in_bytes k (bad c) i d = let x : c ≡ e = cc in absurd (omega (arith, size_place s e (i ∙ ap bad x)))
