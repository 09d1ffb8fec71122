-- Frames: bytes after a frame have no part in what is made of it; 14 is a size below 0 or over the limit; what was written is read back, header and body.
use mathlib.Core.Bool.{Bool, cond, false, true}
use mathlib.Core.List.{List, [], ◌∷◌, ◌++◌, append_assoc}
use mathlib.Core.Path.{◌∙◌, ◌≡◌, ap, refl, subst, sym}
use Prim.Native.Nat.{◌+◌, ◌-◌, ◌<◌, ◌^◌, ◌≤◌, suc, zero, ℕ}
use native.Mathlib.Omega.{arith}
use lib.Dec.{leb, ltb}
use lib.IntN.{ℤ, negsuc, pos}
use lib.ListN.{drop, get_or, length, length-append, take}
use lib.Seq.{drop_at, length-take-le, take-add, take_at}
use Rattle.layout.specs.Reading.{Refusal, Res, bad, because, give, ok}
use Rattle.layout.specs.Primitives.{be, bytes, cell, cell_of, holds, int, signed, w32}
use Rattle.layout.specs.Rows.{Shape, Value, at, field, number, stands}
use Rattle.layout.specs.Tables.{Tables, append, basic_of, good, pop, read_rows, value_of, width}
use Rattle.layout.specs.Read.{by_bytes, read, read_basic}
use Rattle.layout.specs.Write.{fault}
use Rattle.layout.specs.Answers.{Message, at_version, body, judged, judged_good, meant, most, no_rows, shape}
use Rattle.layout.specs.Frames.{Header, frame_made, frame_read, frame_seen, frame_size, framed, in_frame, numbered, size_of, with_size, with_body}
use Rattle.layout.specs.Settled.{FrameBack, Returned}
use Rattle.layout.proofs.AllRows.{Follows, returned}
use Rattle.layout.proofs.Back.{back_cell, back_pair, back_read, length_bytes_lem}
use Rattle.layout.proofs.Kept.{kept_cell}
use Rattle.layout.proofs.Local.{locals}
use Rattle.layout.proofs.Parts.{Eating}
use Rattle.layout.proofs.Proper.{Owes, owed, proper}
use Rattle.layout.proofs.Refusals.{Refuses, early, tells_rows, telling}
use Rattle.layout.proofs.Steps.{by_result, given, int_inv, int_ok, not_ok, passed, then_ok}
use Rattle.layout.proofs.Tests.{by_test, le-false, le-true, lt-false, lt-true, of_ge, of_le}
use Rattle.layout.proofs.Trip.{Laid, lays}

-- ---- the size

-- of an accepted frame of z bytes
pub record Sized (s : List ℕ) (n z : ℕ) : Type 0 where
  pub size : cell w32 0 s ≡ ok n 4
  pub few : n ≤ most
  pub all : z ≡ 4 + n
  pub there : z ≤ length s

pub cell_used : (p : ℕ) (s : List ℕ) (x n : ℕ) → cell w32 p s ≡ ok x n → n ≡ 4
unfolding cell
cell_used p s x n e = let a = given (int 4) _ p s x n e in (int_inv 4 p s a.x n a.reads).used

pub size_inv : (s : List ℕ) (n z : ℕ) → frame_size s ≡ ok n z → Sized s n z
unfolding frame_size
size_inv s n z e = by_result (cell w32 0 s) (λ m k d. judge m k d (rw d at e)) (λ c d. not_ok (rw d at e))
  where
    judge : (m k : ℕ) → cell w32 0 s ≡ ok m k → size_of (length s) (ok m k) ≡ ok n z → Sized s n z
    judge m k d f =
        let u = cell_used 0 s m k d in
        let a = passed (leb m most) _ _ n z f in
        let b = passed (leb (k + m) (length s)) _ _ n z a.1 in
        let g = b.1 in
        let x : m ≡ n = cc in
        let y : k + m ≡ z = cc in
        record { size = d ∙ (λ i. ok (x i) (u i)); few = omega (arith, of_le m most a.0); all = omega arith; there = omega (arith, of_le (k + m) (length s) b.0) }

pub size_is : (s : List ℕ) (n : ℕ) → cell w32 0 s ≡ ok n 4 → n ≤ most → 4 + n ≤ length s → frame_size s ≡ ok n (4 + n)
unfolding frame_size
size_is s n d few there = rw (d, le-true n most few, le-true (4 + n) (length s) there)

-- 14, in the request's words
abbrev pub Outside : ℤ → Type 0
Outside (pos n) = most < n
Outside (negsuc n) = Unit {0}

pub number_is : (s : List ℕ) → 4 ≤ length s → cell w32 0 s ≡ ok (cell_of (signed w32 (be 0 (take 4 s)))) 4
unfolding cell give
number_is s h = then_ok (int 4) _ 0 s (be 0 (take 4 s)) 4 (int_ok 4 0 s h)

negative : (b n : ℕ) → signed w32 b ≡ negsuc n → n < 2 ^ 32
unfolding signed
negative b n e = by_test (ltb b (2 ^ 31)) (λ d. let f : pos b ≡ negsuc n = rw d at e in let z : ◌≡◌ {A = ℕ} 0 1 = cc in absurd (omega arith)) (λ d. let f : negsuc (2 ^ 32 - suc b) ≡ negsuc n = rw d at e in let x : 2 ^ 32 - suc b ≡ n = cc in omega arith)

pub outside : (s : List ℕ) → 4 ≤ length s → Outside (signed w32 (be 0 (take 4 s))) → frame_size s ≡ bad (because 14 0)
unfolding frame_size
outside s h o = rw (number_is s h) (go (signed w32 (be 0 (take 4 s))) refl o)
  where
    go : (x : ℤ) → signed w32 (be 0 (take 4 s)) ≡ x → Outside x → size_of (length s) (ok (cell_of x) 4) ≡ bad (because 14 0)
    go (pos n) e o = rw (le-false n most o)
    go (negsuc n) e o = let k = negative (be 0 (take 4 s)) n e in rw (le-false (2 ^ 64 - suc n) most (omega arith))

-- ---- what is refused: a number of the table, and a place in what was lent

-- `seen_refuses` for frames, which have 14
refuses_at : (s : List ℕ) (n : ℕ) → 1 ≤ n → n ≤ 14 → {A : Type 0} (e : Refusal) → ◌≡◌ {A = Res A} (bad (because n 0)) (bad e) → Refuses 14 s e
refuses_at s n a b e d = early 14 s n a b e cc

size_refuses : (s : List ℕ) (e : Refusal) → frame_size s ≡ bad e → Refuses 14 s e
unfolding frame_size
size_refuses s e d = by_result (cell w32 0 s) (λ n k i. judge n k (rw i at d)) (λ c i. of_cell_lem c i (rw i at d))
  where
    of_cell_lem : (c : Refusal) → cell w32 0 s ≡ bad c → ◌≡◌ {A = Res ℕ} (bad c) (bad e) → Refuses 14 s e
    of_cell_lem c i j =
        let x : c ≡ e = cc in
        let t = (kept_cell telling w32).1.law 0 s e (i ∙ ap bad x) in
        record { least = (let k = t.least in omega arith); greatest = (let k = t.greatest in omega arith); place_in = (let k = t.before_end in omega arith); no_need = t.no_need }

    judge : (n k : ℕ) → size_of (length s) (ok n k) ≡ bad e → Refuses 14 s e
    judge n k f =
        by_test (leb n most)
        (λ a. by_test (leb (k + n) (length s)) (λ b. let z : ◌≡◌ {A = Res ℕ} (ok n (k + n)) (bad e) = rw (a, b) at f in not_ok (sym z)) (λ b. refuses_at s 3 (omega arith) (omega arith) e (let z : ◌≡◌ {A = Res ℕ} (bad (because 3 0)) (bad e) = rw (a, b) at f in z)))
        (λ a. refuses_at s 14 (omega arith) (omega arith) e (let z : ◌≡◌ {A = Res ℕ} (bad (because 14 0)) (bad e) = rw a at f in z))

pub frame_refuses : (h : Header) (v : ℤ) (s : List ℕ) (e : Refusal) → frame_seen h v s ≡ bad e → Refuses 14 s e
unfolding frame_seen
frame_refuses h (negsuc v) s e d = refuses_at s 1 (omega arith) (omega arith) e d
frame_refuses h (pos v) s e d =
    by_test (ltb v h.first) (λ a. refuses_at s 1 (omega arith) (omega arith) e (let z : ◌≡◌ {A = Res Tables} (bad (because 1 0)) (bad e) = rw a at d in z))
    (λ a. by_test (leb v h.rows.last) (λ b. in_bytes (frame_size s) refl (rw (a, b) at d)) (λ b. refuses_at s 1 (omega arith) (omega arith) e (let z : ◌≡◌ {A = Res Tables} (bad (because 1 0)) (bad e) = rw (a, b) at d in z)))
  where
    R : List ℕ → Res Tables
    R w = read_rows false append (shape (with_size h.rows) v) 0 (no_rows h.rows) 0 w

    in_header : (n z : ℕ) → frame_size s ≡ ok n z → (o : Res Tables) → R (take z s) ≡ o → with_body z o ≡ bad e → Refuses 14 s e
    in_header n z i (ok [] k) j f = not_ok (sym f)
    in_header n z i (ok (c ∷ st) k) j f = not_ok (sym f)
    in_header n z i (bad c) j f =
        let x : c ≡ e = cc in
        let t = (tells_rows false append (shape (with_size h.rows) v) 0 (no_rows h.rows)).law 0 (take z s) e (j ∙ ap bad x) in
        let l = length-take-le z s (size_inv s n z i).there in
        let g = (size_inv s n z i).there in
        record { least = (let k = t.least in omega arith); greatest = (let k = t.greatest in omega arith); place_in = (let k = t.before_end in omega arith); no_need = t.no_need }

    in_bytes : (o : Res ℕ) → frame_size s ≡ o → in_frame s R o ≡ bad e → Refuses 14 s e
    in_bytes (ok n z) i f = in_header n z i (R (take z s)) refl f
    in_bytes (bad c) i f = let x : c ≡ e = cc in size_refuses s e (i ∙ ap bad x)

-- ---- nothing after a frame has a part

module _ (s : List ℕ) (n z : ℕ) (e : frame_size s ≡ ok n z) (t : List ℕ) where
  -- the frame, and other bytes after it
  abbrev other : List ℕ
  other = take z s ++ t

  fits : z ≤ length s
  fits = (size_inv s n z e).there

  same_frame : take z other ≡ take z s
  same_frame = take_at (take z s) t z (length-take-le z s fits)

  same_size : frame_size other ≡ ok n z
  same_size =
      let i = size_inv s n z e in
      let c = ((kept_cell locals w32).law 0 s n 4 i.size).same (take n (drop 4 s) ++ t) in
      let a : other ≡ take 4 s ++ (take n (drop 4 s) ++ t) = ap (λ (k : ℕ). take k s ++ t) i.all ∙ ap (λ (w : List ℕ). w ++ t) (take-add 4 n s) ∙ append_assoc (take 4 s) (take n (drop 4 s)) t in
      let l = length-append (take z s) t in
      let k = length-take-le z s fits in
      size_is other n (ap (cell w32 0) a ∙ c) i.few (let y = i.all in omega arith) ∙ ap (λ (k : ℕ). ok n k) (sym i.all)

  -- whatever is there, the same is made of the frame, a refusal too
  pub frame_local : (h : Header) (v : ℤ) → frame_seen h v other ≡ frame_seen h v s
  unfolding frame_seen
  frame_local h (negsuc v) = refl
  frame_local h (pos v) =
      ap (λ (o : Res Tables). numbered h.first (pos v) (cond (leb v h.rows.last) o (bad (because 1 0))))
      (rw (same_size, e) (ap (λ (w : List ℕ). with_body z (read_rows false append (shape (with_size h.rows) v) 0 (no_rows h.rows) 0 w)) same_frame))

  pub frame_read_local : (h : Header) (v : ℤ) (room : Tables) → frame_read h v room other ≡ frame_read h v room s
  unfolding frame_read
  frame_read_local h v room = ap (judged (with_size h.rows) room) (frame_local h v)

-- ---- what was written

-- what an accepted write says
pub record Framed (h : Header) (v : ℕ) (lent : List ℕ) (st : Tables) (rest bs : List ℕ) (n : ℕ) : Type 0 where
  pub taken : h.first ≤ v
  pub known : v ≤ h.rows.last
  pub good_tables : good (length lent) h.rows.tables (shape h.rows 0) st ≡ true
  pub clean : fault (shape h.rows v) (meant lent st (shape h.rows v)) ≡ 0
  pub few : length (body lent st (shape h.rows v)) + length rest ≤ most
  pub bytes_are : bs ≡ bytes 4 (length (body lent st (shape h.rows v)) + length rest) ++ (body lent st (shape h.rows v) ++ rest)
  pub size_is : n ≡ 4 + (length (body lent st (shape h.rows v)) + length rest)

framed_inv : (f : ℕ) (header rest bs : List ℕ) (n : ℕ) → framed f header rest ≡ ok bs n → (f ≡ 0) × (length header + length rest ≤ most) × (bs ≡ bytes 4 (length header + length rest) ++ (header ++ rest)) × (n ≡ 4 + (length header + length rest))
framed_inv (suc f) header rest bs n e = not_ok e
framed_inv zero header rest bs n e =
    let a = passed (leb (length header + length rest) most) _ _ bs n e in
    let c = a.1 in
    let x : bytes 4 (length header + length rest) ++ (header ++ rest) ≡ bs = cc in
    let y : 4 + (length header + length rest) ≡ n = cc in
    (refl, of_le (length header + length rest) most a.0, sym x, sym y)

pub frame_made_lem : (h : Header) (v : ℕ) (lent : List ℕ) (st : Tables) (rest bs : List ℕ) (n : ℕ) → frame_made h (pos v) lent st rest ≡ ok bs n → Framed h v lent st rest bs n
unfolding frame_made
frame_made_lem h v lent st rest bs n e = by_test (ltb v h.first) (λ d. not_ok (rw d at e)) (λ d. go (of_ge v h.first d) (rw d at e))
  where
    go : h.first ≤ v → at_version h.rows (pos v) (λ l. judged_good h.rows lent st (framed (fault l (meant lent st l)) (body lent st l) rest)) ≡ ok bs n → Framed h v lent st rest bs n
    go t e =
        let a = passed _ _ _ bs n e in
        let b = passed _ _ _ bs n a.1 in
        let o = framed_inv _ _ rest bs n b.1 in
        record { taken = t; known = of_le v h.rows.last a.0; good_tables = b.0; clean = o.0; few = o.1; bytes_are = o.2; size_is = o.3 }

-- ---- and is read back

-- with the size before it, a header's shape has a number more
pub sized_shape : (m : Message) (v : ℕ) → v ≤ m.last → shape (with_size m) v ≡ field (number w32) (shape m v)
unfolding shape at stands
sized_shape m v h = rw (le-true 0 v (omega arith), le-true v m.last h)

-- and the row a cell more
sized_value : (lent : List ℕ) (l : Shape) (c : ℕ) (row : List ℕ) (ts : Tables) → meant lent ((c ∷ row) ∷ ts) (field (number w32) l) ≡ (c, meant lent (row ∷ ts) l)
unfolding meant value_of pop basic_of width
sized_value lent l c row ts = refl

-- what a header owes: what a message does, with its size; and 13 does not look at the size
pub record Heads (h : Header) (F : ℕ → ℕ → Bool) : Type 0 where
  pub is_proper : proper (with_size h.rows) ≡ true
  pub follows_it : (v : ℕ) → v ≤ h.rows.last → Follows (with_size h.rows) (F v) v
  pub judged_alike : (z c : ℕ) (row : List ℕ) (ts : Tables) → good z h.rows.tables (shape (with_size h.rows) 0) ((c ∷ row) ∷ ts) ≡ good z h.rows.tables (shape h.rows 0) (row ∷ ts)

module _ (h : Header) (F : ℕ → ℕ → Bool) (o : Heads h F) (v : ℕ) (lent row : List ℕ) (ts : Tables) (rest bs : List ℕ) (n : ℕ) (d : Framed h v lent (row ∷ ts) rest bs n) (as_many : length ts ≡ h.rows.tables) where
  abbrev m : Message
  m = with_size h.rows

  abbrev l : Shape
  l = shape h.rows v

  abbrev header : List ℕ
  header = body lent (row ∷ ts) l

  abbrev size : ℕ
  size = length header + length rest

  owes : Owes (suc m.tables) (shape m v) (shape m v)
  owes = owed m o.is_proper v d.known

  -- size and header
  abbrev front : List ℕ
  front = bytes 4 size ++ header

  is_front : bs ≡ front ++ rest
  is_front = d.bytes_are ∙ sym (append_assoc (bytes 4 size) header rest)

  holds_size : holds w32 size ≡ true
  unfolding holds
  holds_size = rw (lt-true size (2 ^ 31) (omega (arith, d.few)))

  reads_front : (t : List ℕ) → read (by_bytes false) (field (number w32) l) 0 (front ++ t) ≡ ok (size, meant lent (row ∷ ts) l) (length front)
  unfolding read read_basic body
  reads_front t = (back_pair (cell w32) (read (by_bytes false) l) (bytes 4 size) header (size, meant lent (row ∷ ts) l) (back_cell w32 size holds_size) (back_read false l (meant lent (row ∷ ts) l) (subst Eating (sized_shape h.rows v d.known) owes.eating) d.clean (omega (arith, d.few)))).law 0 t

  -- the tables that were lent, with the size
  abbrev st : Tables
  st = (size ∷ row) ∷ ts

  reads_it : read (by_bytes false) (shape m v) 0 bs ≡ ok (meant lent st (shape m v)) (length front)
  reads_it =
      subst (λ (y : Shape). read (by_bytes false) y 0 bs ≡ ok (meant lent st y) (length front)) (sym (sized_shape h.rows v d.known))
      (ap (read (by_bytes false) (field (number w32) l) 0) is_front ∙ reads_front rest ∙ ap (λ (y : Value (List ℕ) (field (number w32) l)). ok y (length front)) (sym (sized_value lent l size row ts)))

  long : length bs ≡ 4 + size
  long = ap length d.bytes_are ∙ (let a = length-append (bytes 4 size) (header ++ rest) in let b = length-append header rest in let c = length_bytes_lem 4 size in omega arith)

  laid : Laid false (shape m v) (suc m.tables) bs (meant lent st (shape m v)) (length front)
  laid = lays false (shape m v) (suc m.tables) bs (meant lent st (shape m v)) (length front) (omega arith) owes.names owes.eating (omega (arith, long, d.few)) reads_it

  sized_there : (t : List ℕ) → frame_size (bs ++ t) ≡ ok size (4 + size)
  sized_there t =
      let a : bs ++ t ≡ bytes 4 size ++ ((header ++ rest) ++ t) = ap (λ (u : List ℕ). u ++ t) d.bytes_are ∙ append_assoc (bytes 4 size) (header ++ rest) t in
      let b : cell w32 0 (bs ++ t) ≡ ok size 4 = ap (cell w32 0) a ∙ (back_cell w32 size holds_size).law 0 ((header ++ rest) ++ t) ∙ ap (λ (k : ℕ). ok size k) (length_bytes_lem 4 size) in
      let c = length-append bs t in
      size_is (bs ++ t) size b d.few (omega (arith, long))

  -- the body is what is left
  with_rest : (su : Tables) → length su ≡ suc m.tables → with_body (length bs) (ok su (length front)) ≡ ok ((drop 1 (get_or su 0 []) ++ (length front ∷ length rest ∷ [])) ∷ drop 1 su) (length bs)
  with_rest [] e = absurd (omega arith)
  with_rest (cs ∷ su) e =
      let a = length-append front rest in
      let b = ap length is_front in
      let c : length bs - length front ≡ length rest = omega arith in
      ap (λ (k : ℕ). ok ((drop 1 cs ++ (length front ∷ k ∷ [])) ∷ su) (length bs)) c

  seen_so : (t : List ℕ) → frame_seen h (pos v) (bs ++ t) ≡ with_body (length bs) (ok laid.st (length front))
  unfolding frame_seen
  seen_so t =
      rw (lt-false v h.first d.taken, le-true v h.rows.last d.known, sized_there t)
      (ap (λ (w : List ℕ). with_body (4 + size) (read_rows false append (shape m v) 0 (no_rows h.rows) 0 w)) (take_at bs t (4 + size) long)
      ∙ (λ i. with_body (sym long i) (laid.reads i)))

  it : Returned m (F v) v lent st bs laid.st
  it = returned m o.is_proper (F v) v d.known (o.follows_it v d.known) false lent st bs (length front) (ap suc as_many) (omega (arith, long, d.few)) (o.judged_alike (length lent) size row ts ∙ d.good_tables) laid

  -- whatever follows: the header as it was lent, and the body after it
  pub frame_back : FrameBack h F v lent row ts rest bs
  frame_back = record {
    su = laid.st;
    used = length front;
    is_seen = λ t. seen_so t ∙ with_rest laid.st it.tables;
    rows = subst (λ (k : ℕ). Returned m (F v) v lent ((k ∷ row) ∷ ts) bs laid.st) (let y = long in omega arith) it;
    body_is = ap (drop (length front)) is_front ∙ drop_at front rest (length front) refl;
  }
