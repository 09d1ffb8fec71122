-- The demands, of the calls on frames: what they refuse is fair and leaves all that was lent as it was; what they accept means those bytes; what was written comes back, header and body.
use mathlib.Core.Bool.{false, true}
use mathlib.Core.List.{List, [], ◌++◌, ◌∷◌}
use mathlib.Core.Option.{Option, none, some}
use mathlib.Core.Path.{◌∙◌, ◌≡◌, ap, refl, subst, sym}
use Prim.Native.Nat.{◌+◌, ◌-◌, ◌<◌, ◌≤◌, suc, zero, ℕ}
use native.Mathlib.Omega.{arith}
use lib.Dec.{leb, ltb}
use lib.IntN.{negsuc, pos, ℤ}
use lib.ListN.{drop, get_or, length, length-append, take}
use lib.Seq.{length-take-le, take_at}
use Rattle.std.specs.Prelude.{Ok}
use Rattle.layout.specs.Reading.{Refusal, Res, bad, because, ok}
use Rattle.layout.specs.Primitives.{bytes, minus}
use Rattle.layout.specs.Rows.{Shape, Value, at, standing, stands, tag_rows}
use Rattle.layout.specs.Read.{by_bytes, read}
use Rattle.layout.specs.Write.{fault}
use Rattle.layout.specs.Tables.{Tables, append, good, read_rows, slice, width}
use Rattle.layout.specs.Answers.{Answer, accepted, body, laid, meant, most, needed, no_rows, refused, roomy, shape, widths}
use Rattle.layout.specs.Frames.{Header, frame_made, frame_read, frame_seen, frame_size, frame_written, framed, in_frame, with_size, with_body}
use Rattle.layout.specs.Messages.Headers as Headers
use Rattle.layout.specs.Messages.Headers.{request_rows, response_rows}
use Rattle.layout.specs.Settled.{gone, gone_count, num, request_header_tables, response_header_tables, settled_cells, settled_count, settled_row, settled_span, shown_cells, shown_span}
use Rattle.layout.proofs.Back.{length_bytes_lem}
use Rattle.layout.proofs.Calls.{Wrote, not_accepted, stored_inv}
use Rattle.layout.proofs.Frames.{Framed, frame_back, frame_made_lem, frame_refuses, size_inv}
use Rattle.layout.proofs.Headers.{request_heads, request_proper, response_heads, response_proper}
use Rattle.layout.proofs.Local.{not_ok}
use Rattle.layout.proofs.Proper.{owed, proper}
use Rattle.layout.proofs.SettledRows.{tables_read}
use Rattle.layout.proofs.Steps.{by_result}
use Rattle.layout.proofs.Tests.{by_test, le-true, lt-false, of_ge, of_le}
use Rattle.layout.proofs.Trip.{lays, tables_mean}
use Rattle.primitives.specs.declared.Field.{Field}
use Rattle.body_reading.specs.Cells.{field_cells}
use Rattle.primitives_put.specs.Answers.{replied}
use Rattle.frame.specs.Answers.{of_request, of_response}
use Rattle.frame.specs.declared.RequestHeader.{RequestHeader}
use Rattle.frame.specs.declared.ResponseHeader.{ResponseHeader}
use Rattle.gateway.specs.Replies.{numbers, told}
use Rattle.gateway.specs.declared.Numbers.{Numbers}
use Rattle.gateway_frame.specs.Replies.{request_frame_numbers, response_frame_numbers}
use Rattle.gateway_frame.specs.declared.RequestFrameNumbers.{RequestFrameNumbers}
use Rattle.gateway_frame.specs.declared.ResponseFrameNumbers.{ResponseFrameNumbers}
use Rattle.demands.specs.Frames.{FrameAccepted, FrameSays, FrameTaken, FrameWritable, HeaderBack, client_back, frame_of, header_of, header_tags_back, request_header_back, response_header_back}
use Rattle.demands.specs.Refusals.{Answered, Fair, InNumbers}
use Rattle.demands.proofs.Demand1.{judged_answered, of_seen, of_told}
use Rattle.demands.proofs.Demand2.{told_accepted}
use Rattle.demands.proofs.Faults.{fault_most, is_bad, stored_answered}

-- ---- the first demand

frame_answered : (h : Header) (v : ℤ) (room : Tables) (s : List ℕ) → Answered (length s) room (frame_read h v room s).1 (frame_read h v room s).0
unfolding frame_read
frame_answered h v room s = judged_answered (with_size h.rows) room (length s) (frame_seen h v s) (λ e d. of_seen 14 (omega arith) s e (frame_refuses h v s e d))

of_framed : (f : ℕ) → f ≤ 11 → (header rest : List ℕ) (e : Refusal) → framed f header rest ≡ bad e → Fair 0 e
of_framed zero g header rest e h = by_test (leb (length header + length rest) most) (λ a. not_ok (sym (rw a at h))) (λ a. is_bad 2 e (omega arith) (omega arith) (let z : ◌≡◌ {A = Res (List ℕ)} (bad (because 2 0)) (bad e) = rw a at h in z))
of_framed (suc f) g header rest e h = is_bad (suc f) e (omega arith) (omega arith) h

of_frame_made : (h : Header) (v : ℤ) (lent : List ℕ) (st : Tables) (rest : List ℕ) (e : Refusal) → frame_made h v lent st rest ≡ bad e → Fair 0 e
unfolding frame_made
of_frame_made h (negsuc v) lent st rest e d = is_bad 1 e (omega arith) (omega arith) d
of_frame_made h (pos v) lent st rest e d =
    by_test (ltb v h.first) (λ a. is_bad 1 e (omega arith) (omega arith) (let z : ◌≡◌ {A = Res (List ℕ)} (bad (because 1 0)) (bad e) = rw a at d in z))
    (λ a. by_test (leb v h.rows.last)
    (λ b. by_test (good (length lent) h.rows.tables (shape h.rows 0) st)
    (λ c. of_framed (fault l (meant lent st l)) (fault_most l (meant lent st l)) (body lent st l) rest e (rw (a, b, c) at d))
    (λ c. is_bad 13 e (omega arith) (omega arith) (let z : ◌≡◌ {A = Res (List ℕ)} (bad (because 13 0)) (bad e) = rw (a, b, c) at d in z)))
    (λ b. is_bad 1 e (omega arith) (omega arith) (let z : ◌≡◌ {A = Res (List ℕ)} (bad (because 1 0)) (bad e) = rw (a, b) at d in z)))
  where
    l : Shape
    l = shape h.rows v

frame_write_answered : (h : Header) (v : ℤ) (lent : List ℕ) (st : Tables) (rest out : List ℕ) → Answered 0 out (frame_written h v lent st rest out).1 (frame_written h v lent st rest out).0
unfolding frame_written
frame_write_answered h v lent st rest out = stored_answered out (frame_made h v lent st rest) (of_frame_made h v lent st rest)

-- each entry point: r is what it hands back, and what was lent is `before` and then `after`
module _ (msg : List ℕ) (v : ℤ) (before after : Tables) where
  pub read_request_frame : (r : RequestFrameNumbers) → (r, after) ≡ told request_frame_numbers (frame_read Headers.request v before msg) → InNumbers (length msg) before after r.answer.number r.answer.place r.answer.need
  read_request_frame = λ r. of_told request_frame_numbers (λ x. x.answer.number) (λ x. x.answer.place) (λ x. x.answer.need) (λ c n. refl) (λ e. (refl, refl, refl)) (length msg) before _ (frame_answered Headers.request v before msg) r after

  pub read_response_frame : (r : ResponseFrameNumbers) → (r, after) ≡ told response_frame_numbers (frame_read Headers.response v before msg) → InNumbers (length msg) before after r.answer.number r.answer.place r.answer.need
  read_response_frame = λ r. of_told response_frame_numbers (λ x. x.answer.number) (λ x. x.answer.place) (λ x. x.answer.need) (λ c n. refl) (λ e. (refl, refl, refl)) (length msg) before _ (frame_answered Headers.response v before msg) r after

-- the two that write a frame
pub written_frame : (h : Header) (v : ℤ) (lent : List ℕ) (st : Tables) (rest before after : List ℕ) (r : Numbers) → (r, after) ≡ told numbers (frame_written h v lent st rest before) → InNumbers 0 before after r.number r.place r.need
written_frame h v lent st rest before after = λ r. of_told numbers (λ x. x.number) (λ x. x.place) (λ x. x.need) (λ c n. refl) (λ e. (refl, refl, refl)) 0 before _ (frame_write_answered h v lent st rest before) r after

-- ---- the second demand: reading

module _ (h : Header) (fit : proper (with_size h.rows) ≡ true) (v : ℕ) (s : List ℕ) where
  abbrev L : Shape
  L = shape (with_size h.rows) v

  abbrev reads : List ℕ → Res Tables
  reads w = read_rows false append L 0 (no_rows h.rows) 0 w

  -- what a frame that is accepted says, before any room is asked for
  record Seen (st : Tables) (n : ℕ) : Type 0 where
    taken : h.first ≤ v
    known : v ≤ h.rows.last
    size : ℕ
    is_sized : frame_size s ≡ ok size n
    with_body_lem : with_body n (reads (take n s)) ≡ ok st n

  seen_frame : (st : Tables) (n : ℕ) → frame_seen h (pos v) s ≡ ok st n → Seen st n
  unfolding frame_seen
  seen_frame st n d =
      by_test (ltb v h.first) (λ a. not_ok (rw a at d))
      (λ a. by_test (leb v h.rows.last) (λ b. go (of_ge v h.first a) (of_le v h.rows.last b) (frame_size s) refl (rw (a, b) at d)) (λ b. not_ok (rw (a, b) at d)))
    where
      used : (z : ℕ) (o : Res Tables) → with_body z o ≡ ok st n → z ≡ n
      used z (ok [] k) e = cc
      used z (ok (cs ∷ su) k) e = cc
      used z (bad c) e = not_ok e

      go : h.first ≤ v → v ≤ h.rows.last → (o : Res ℕ) → frame_size s ≡ o → in_frame s reads o ≡ ok st n → Seen st n
      go t k (ok m z) i e =
          let x = used z (reads (take z s)) e in
          record { taken = t; known = k; size = m; is_sized = i ∙ ap (λ (j : ℕ). ok m j) x; with_body_lem = subst (λ (j : ℕ). with_body j (reads (take j s)) ≡ ok st n) x e }
      go t k (bad c) i e = not_ok e

  -- the rows that were read, before the body is added
  module _ (st : Tables) (n : ℕ) (d : Seen st n) where
    long : length (take n s) ≡ n
    long = length-take-le n s (size_inv s d.size n d.is_sized).there

    small : length (take n s) < minus
    small = let i = size_inv s d.size n d.is_sized in let a = i.all in let b = i.few in let c = long in omega arith

    record Rows : Type 0 where
      cs : List ℕ
      su : Tables
      k : ℕ
      are : reads (take n s) ≡ ok (cs ∷ su) k
      row_is : st ≡ (drop 1 cs ++ (k ∷ (n - k) ∷ [])) ∷ su

    rows : Rows
    rows = go (reads (take n s)) refl d.with_body_lem
      where
        go : (o : Res Tables) → reads (take n s) ≡ o → with_body n o ≡ ok st n → Rows
        go (ok [] k) i e =
            let o = owed (with_size h.rows) fit v d.known in
            let l = tables_read false L (suc h.rows.tables) (take n s) [] (take n s) k (omega arith) o.names o.eating small o.free (record { st = []; reads = i; means = refl }) in
            absurd (omega (arith, l))
        go (ok (cs ∷ su) k) i e = record { cs = cs; su = su; k = k; are = i; row_is = (let x : (drop 1 cs ++ (k ∷ (n - k) ∷ [])) ∷ su ≡ st = cc in sym x) }
        go (bad c) i e = not_ok e

  pub frame_says : (room : Tables) (row : List ℕ) (n : ℕ) (after : Tables) → frame_read h (pos v) room s ≡ (accepted row n, after) → FrameSays h v s room row n after
  unfolding frame_read
  frame_says room row n after e = by_result (frame_seen h (pos v) s) (λ st m d. go st m d (needed (widths (with_size h.rows)) (drop 1 st) room) (rw d at e)) (λ c d. not_accepted (rw d at e))
    where
      made : (st : Tables) (m : ℕ) → Seen st m → row ≡ get_or st 0 [] → n ≡ m → after ≡ laid (drop 1 st) room → FrameSays h v s room row n after
      made st m d i j k =
          let x = subst (λ (y : ℕ). Seen st y) (sym j) d in
          let r = rows st n x in
          let z = size_inv s x.size n x.is_sized in
          let o = owed (with_size h.rows) fit v x.known in
          record {
            size = x.size;
            is_size = z.size;
            all = z.all;
            rows = r.cs ∷ r.su;
            header = r.k;
            own_row = i ∙ ap (λ (t : Tables). get_or t 0 []) r.row_is;
            filled = k ∙ ap (λ (t : Tables). laid (drop 1 t) room) r.row_is;
            says = tables_mean false L (suc h.rows.tables) (take n s) (r.cs ∷ r.su) r.k (omega arith) o.names o.eating (small st n x) r.are;
          }

      go : (st : Tables) (m : ℕ) → frame_seen h (pos v) s ≡ ok st m → (k : Option ℕ) → roomy st room m k ≡ (accepted row n, after) → FrameSays h v s room row n after
      go st m d none f =
          let a : accepted (get_or st 0 []) m ≡ accepted row n = ap (λ (y : Answer × Tables). y.0) f in
          made st m (seen_frame st m d) (let x : get_or st 0 [] ≡ row = cc in sym x) (let x : m ≡ n = cc in sym x) (sym (ap (λ (y : Answer × Tables). y.1) f))
      go st m d (some k) f = not_accepted f

  -- what the reader of the layout says of the frame at the front is not refused
  pub frame_taken : h.first ≤ v → v ≤ h.rows.last → (size n : ℕ) → frame_size s ≡ ok size n → (x : Value (List ℕ) L) (k : ℕ) → read (by_bytes false) L 0 (take n s) ≡ ok x k → FrameTaken h v s n k x
  unfolding frame_read frame_seen
  frame_taken t a size n i x k e =
      let z = size_inv s size n i in
      let o = owed (with_size h.rows) fit v a in
      let c = length-take-le n s z.there in
      let l = lays false L (suc h.rows.tables) (take n s) x k (omega arith) o.names o.eating (let y = z.all in let w = z.few in omega arith) e in
      go l.st l.reads l.means
    where
      go : (st : Tables) → reads (take n s) ≡ ok st k → meant (take n s) st L ≡ x → FrameTaken h v s n k x
      go [] d m =
          let z = size_inv s size n i in
          let o = owed (with_size h.rows) fit v a in
          let c = length-take-le n s z.there in
          let l = tables_read false L (suc h.rows.tables) (take n s) [] (take n s) k (omega arith) o.names o.eating (let y = z.all in let w = z.few in omega arith) o.free (record { st = []; reads = d; means = refl }) in
          absurd (omega (arith, l))
      go (cs ∷ su) d m = record { rows = cs ∷ su; means = m; taken = λ room r. rw (lt-false v h.first t, le-true v h.rows.last a, i, d, r) }

-- in numbers: F makes a struct of an answer, and its number is 0 where the answer is an acceptance
module _ {N : Type 0} (F : Answer → N) (number : N → ℕ) (refusal : (e : Refusal) → number (F (refused e)) ≡ e.number) where
  of_frame_told : (h : Header) → proper (with_size h.rows) ≡ true → (v : ℕ) (s : List ℕ) (room after : Tables) (r : N) → (r, after) ≡ told F (frame_read h (pos v) room s) → number r ≡ 0 → FrameAccepted F h v s room r after
  of_frame_told h fit v s room after r p z =
      let a = told_accepted F number refusal (length s) room _ (frame_answered h (pos v) room s) r after p z in
      record { row = a.row; used = a.used; reply = a.reply; says = frame_says h fit v s room a.row a.used after a.is }

-- each entry point that reads a frame: what it accepts means those bytes
module _ (v : ℕ) (msg : List ℕ) (room after : Tables) where
  pub accepted_request_frame : (r : RequestFrameNumbers) → (r, after) ≡ told request_frame_numbers (frame_read Headers.request (pos v) room msg) → r.answer.number ≡ 0 → FrameAccepted request_frame_numbers Headers.request v msg room r after
  accepted_request_frame = of_frame_told request_frame_numbers (λ x. x.answer.number) (λ e. refl) Headers.request request_proper v msg room after

  pub accepted_response_frame : (r : ResponseFrameNumbers) → (r, after) ≡ told response_frame_numbers (frame_read Headers.response (pos v) room msg) → r.answer.number ≡ 0 → FrameAccepted response_frame_numbers Headers.response v msg room r after
  accepted_response_frame = of_frame_told response_frame_numbers (λ x. x.answer.number) (λ e. refl) Headers.response response_proper v msg room after

-- ---- writing

framed_long : (header rest : List ℕ) → length (bytes 4 (length header + length rest) ++ (header ++ rest)) ≡ 4 + (length header + length rest)
framed_long header rest =
    let a = length-append (bytes 4 (length header + length rest)) (header ++ rest) in
    let b = length-append header rest in
    let c = length_bytes_lem 4 (length header + length rest) in
    omega arith

module _ (h : Header) (v : ℕ) (lent : List ℕ) (st : Tables) (rest out : List ℕ) where
  wrote : (r : List ℕ) (n : ℕ) (after : List ℕ) → frame_written h (pos v) lent st rest out ≡ (accepted r n, after) → Wrote (frame_made h (pos v) lent st rest) out n after
  unfolding frame_written
  wrote = stored_inv (frame_made h (pos v) lent st rest) out

  frame_long : length (frame_of h v lent st rest) ≡ 4 + (length (header_of h v lent st) + length rest)
  frame_long = framed_long (header_of h v lent st) rest

  -- what is written are those bytes
  pub frame_bytes_lem : (r : List ℕ) (n : ℕ) (after : List ℕ) → frame_written h (pos v) lent st rest out ≡ (accepted r n, after) → (after ≡ frame_of h v lent st rest ++ drop n out) × (n ≡ length (frame_of h v lent st rest))
  unfolding body
  frame_bytes_lem r n after e =
      let w = wrote r n after e in
      let d = frame_made_lem h v lent st rest w.bs n w.is_made in
      (w.after_is ∙ ap (λ (bs : List ℕ). bs ++ drop n out) d.bytes_are, d.size_is ∙ sym frame_long)

  -- what can be written is, where there is room
  pub frame_not_refused : FrameWritable h v lent st rest → length (frame_of h v lent st rest) ≤ length out →
      frame_written h (pos v) lent st rest out ≡ (accepted [] (length (frame_of h v lent st rest)), frame_of h v lent st rest ++ drop (length (frame_of h v lent st rest)) out)
  unfolding frame_written frame_made body
  frame_not_refused c room =
      let k : 4 + (length (header_of h v lent st) + length rest) ≤ length out = omega (arith, frame_long) in
      rw (lt-false v h.first c.taken, le-true v h.rows.last c.known, c.good_tables, c.no_fault, le-true (length (header_of h v lent st) + length rest) most c.short, le-true (4 + (length (header_of h v lent st) + length rest)) (length out) k)
      (ap (λ (j : ℕ). (accepted [] j, frame_of h v lent st rest ++ drop j out)) (sym frame_long))

-- ---- what was written comes back

request_own : (lent : List ℕ) (z v : ℕ) → 1 ≤ v → v ≤ 2 → (k y c : ℕ) (f : Field) (g : ℕ) → settled_row lent (shape (with_size (Headers.request).rows) v) (z ∷ k ∷ y ∷ c ∷ (field_cells f ++ (g ∷ []))) ≡
    num z ∷ num k ∷ num y ∷ num c ∷ (client_back lent f ++ (num (header_tags_back 2 v g) ∷ []))
unfolding shape at stands standing tag_rows request_rows settled_row settled_cells settled_span shown_cells shown_span settled_count gone gone_count width slice
request_own lent z zero a b k y c f g = absurd (omega arith)
request_own lent z (suc zero) a b k y c Field.Absent g = refl
request_own lent z (suc zero) a b k y c Field.Null g = refl
request_own lent z (suc zero) a b k y c (Field.Present x) g = refl
request_own lent z (suc (suc zero)) a b k y c Field.Absent g = refl
request_own lent z (suc (suc zero)) a b k y c Field.Null g = refl
request_own lent z (suc (suc zero)) a b k y c (Field.Present x) g = refl
request_own lent z (suc (suc (suc v))) a b k y c f g = absurd (omega arith)

response_own : (lent : List ℕ) (z v : ℕ) → v ≤ 1 → (c g : ℕ) → settled_row lent (shape (with_size (Headers.response).rows) v) (z ∷ c ∷ g ∷ []) ≡ num z ∷ num c ∷ num (header_tags_back 1 v g) ∷ []
unfolding shape at stands standing tag_rows response_rows settled_row settled_cells shown_cells settled_count gone gone_count width
response_own lent z zero b c g = refl
response_own lent z (suc zero) b c g = refl
response_own lent z (suc (suc v)) b c g = absurd (omega arith)

-- the frame at the front of an output, of a write that was accepted
module _ (h : Header) (v : ℕ) (lent : List ℕ) (st : Tables) (rest out after : List ℕ) (n : ℕ) (e : replied (Ok n) after ≡ frame_written h (pos v) lent st rest out) where
  is_framed : Framed h v lent st rest (take n after) n
  is_framed =
      let w = wrote h v lent st rest out [] n after (sym e) in
      let d = frame_made_lem h v lent st rest w.bs n w.is_made in
      let l : length w.bs ≡ n = (ap length d.bytes_are ∙ framed_long (body lent st (shape h.rows v)) rest) ∙ sym d.size_is in
      let t : take n after ≡ w.bs = ap (take n) w.after_is ∙ take_at w.bs (drop n out) n l in
      subst (λ (bs : List ℕ). Framed h v lent st rest bs n) (sym t) d

-- out, what it is afterwards, and what was lent: any
module _ (out : List ℕ) (v : ℕ) (lent : List ℕ) (n : ℕ) (after tags body : List ℕ) where
  pub request_header_lem : (x : RequestHeader) → replied (Ok n) after ≡ frame_written Headers.request (pos v) lent (of_request x ∷ tags ∷ []) body out →
      HeaderBack Headers.request request_header_tables v lent (of_request x) (tags ∷ []) body (take n after) (request_header_back (length (take n after) - 4) v lent x)
  request_header_lem x e =
      let d = is_framed Headers.request v lent (of_request x ∷ tags ∷ []) body out after n e in
      let B = frame_back Headers.request request_header_tables request_heads v lent (of_request x) (tags ∷ []) body (take n after) n d refl in
      record { back = B; own_row = B.rows.own_row ∙ request_own lent _ v d.taken d.known x.request_api_key x.request_api_version x.correlation_id x.client_id x.tags }

  pub response_header_lem : (x : ResponseHeader) → replied (Ok n) after ≡ frame_written Headers.response (pos v) lent (of_response x ∷ tags ∷ []) body out →
      HeaderBack Headers.response response_header_tables v lent (of_response x) (tags ∷ []) body (take n after) (response_header_back (length (take n after) - 4) v x)
  response_header_lem x e =
      let d = is_framed Headers.response v lent (of_response x ∷ tags ∷ []) body out after n e in
      let B = frame_back Headers.response response_header_tables response_heads v lent (of_response x) (tags ∷ []) body (take n after) n d refl in
      record { back = B; own_row = B.rows.own_row ∙ response_own lent _ v d.known x.correlation_id x.tags }
