-- A frame that is read: its size, and the whole reply of the calls, from what the measuring and the filling walk over the header came to.
use mathlib.Core.Bool.{false, true}
use mathlib.Core.List.{List, [], ◌++◌, ◌∷◌}
use mathlib.Core.Option.{Option, none, some}
use mathlib.Core.Path.{◌∙◌, ◌≡◌, ap, refl, subst, sym}
use Prim.Native.Nat.{◌+◌, ◌-◌, ◌/◌, ◌<◌, ◌^◌, ◌≤◌, ℕ}
use native.Mathlib.Omega.{arith}
use lib.IntN.{pos, ℤ}
use lib.ListN.{drop, length, take}
use lib.Seq.{length-take-le, sets, take-add}
use Rattle.layout.specs.Reading.{Refusal, Res, bad, because, more, no_room, ok}
use Rattle.layout.specs.Primitives.{cell, w32}
use Rattle.layout.specs.Rows.{Shape, at, number, standing, stands, tag_rows}
use Rattle.layout.specs.Tables.{Tables, all, append, arrays, cells, from, kind_in, kind_of, read_rows, row_width, width}
use Rattle.layout.specs.Read.{read_basic}
use Rattle.layout.specs.Answers.{Answer, Message, accepted, judged, most, no_rows, refused, shape, widths}
use Rattle.layout.specs.Frames.{Header, frame_read, frame_seen, frame_size, with_size, with_body}
use Rattle.layout.specs.Messages.Headers as Headers
use Rattle.layout.specs.Messages.Headers.{request_rows, response_rows}
use Rattle.std.specs.Prelude.{Err, IsErr, IsErrAnd, Ok, Result}
use Rattle.primitives.specs.Answers.{Read, of_refusal, version_of}
use Rattle.primitives.specs.declared.Refusal as Code
use Rattle.primitives.proofs.Up.{up}
use Rattle.frame.specs.Answers.{of_frame}
use Rattle.frame.specs.Walks.{of_walked}
use Rattle.frame.specs.declared.Frame.{Frame}
use Rattle.frame.specs.declared.reading.HeaderAt.{HeaderAt}
use Rattle.body_reading.specs.Meter.{lengths, short}
use Rattle.body_reading.specs.Store.{State, Tab, add, own, put, store, tab}
use Rattle.body_reading.specs.Walk.{Runs, on, walk}
use Rattle.layout.proofs.Calls.{local_rows}
use Rattle.layout.proofs.Chunks.{nil}
use Rattle.layout.proofs.Frames.{cell_used, size_inv, sized_shape}
use Rattle.layout.proofs.Headers.{request_proper, response_proper}
use Rattle.layout.proofs.Kept.{kept_cell}
use Rattle.layout.proofs.Local.{locals, not_ok}
use Rattle.layout.proofs.Proper.{proper}
use Rattle.primitives.proofs.Versions as Versions
use Rattle.layout.proofs.Tests.{le-false, le-true, lt-false}
use Rattle.body_reading.proofs.Bound.{lean, slim, slim_at, taken}
use Rattle.body_reading.proofs.Chains.{field_took}
use Rattle.body_reading.proofs.Close.{Ended, ended, ended_no, filled, runs_so, slices, slices_tabs, store_own}
use Rattle.frame.proofs.Written.{above, below}
use Rattle.body_reading.proofs.Reply.{judged_fits, judged_needs, none_same, short_here, short_next, short_none, uncut}

-- ---- the size

module _ (s : List ℕ) (n k : ℕ) (d : ok n k ≡ cell w32 0 s) where
  pub size_over : most < n → (c : Refusal) → c ≡ because 14 0 → bad c ≡ frame_size s
  unfolding frame_size
  size_over h c e = ap bad e ∙ rw (sym d, le-false n most h)

  -- the sum is a number of the machine
  pub size_sum : n ≤ most → k + n < 2 ^ 64
  size_sum h = let u = cell_used 0 s n k (sym d) in omega arith

  pub size_cut : n ≤ most → length s < k + n → (c : Refusal) → c ≡ because 3 0 → bad c ≡ frame_size s
  unfolding frame_size
  size_cut h l c e = ap bad e ∙ rw (sym d, le-true n most h, le-false (k + n) (length s) l)

  pub size_took : n ≤ most → k + n ≤ length s → ok n (k + n) ≡ frame_size s
  unfolding frame_size
  size_took h l = rw (sym d, le-true n most h, le-true (k + n) (length s) l)

-- the frame, as code cuts it out
pub frame_long : (s : List ℕ) (n all : ℕ) → ok n all ≡ frame_size s → all ≡ length (take all s)
frame_long s n all d = sym (length-take-le all s (size_inv s n all (sym d)).there)

pub size_no : (s : List ℕ) (c : Refusal) → bad c ≡ cell w32 0 s → bad c ≡ frame_size s
unfolding frame_size
size_no s c d = rw (sym d)

-- ---- what is asked of a header, with the size before it, computed: rows of tags have three cells

pub record Ready (h : Header) : Type 0 where
  pub fit : proper (with_size h.rows) ≡ true
  pub few : slim (with_size h.rows) ≡ true
  pub one : 1 ≡ h.rows.tables
  pub wide : widths (with_size h.rows) ≡ 3 ∷ []
  pub low : h.rows.last < 65536

request_slim : slim (with_size (Headers.request).rows) ≡ true
unfolding slim all from lean taken row_width width shape at stands standing tag_rows request_rows
request_slim = refl

request_widths : widths (with_size (Headers.request).rows) ≡ 3 ∷ []
unfolding widths from kind_of kind_in arrays row_width width shape at stands standing tag_rows request_rows
request_widths = refl

response_slim : slim (with_size (Headers.response).rows) ≡ true
unfolding slim all from lean taken row_width width shape at stands standing tag_rows response_rows
response_slim = refl

response_widths : widths (with_size (Headers.response).rows) ≡ 3 ∷ []
unfolding widths from kind_of kind_in arrays row_width width shape at stands standing tag_rows response_rows
response_widths = refl

pub request_ready : Ready Headers.request
request_ready = record { fit = request_proper; few = request_slim; one = refl; wide = request_widths; low = omega arith }

pub response_ready : Ready Headers.response
response_ready = record { fit = response_proper; few = response_slim; one = refl; wide = response_widths; low = omega arith }

-- ---- the calls, for both headers

module _ (h : Header) (o : Ready h) (z : ℤ) (v : ℕ) (g : v ≡ version_of z) (s l : List ℕ) where
  abbrev m : Message
  m = with_size h.rows

  abbrev reply : Answer × Tables
  reply = frame_read h z (l ∷ []) s

  unknown : (c : Refusal) → c ≡ because 1 0 → frame_seen h z s ≡ bad (because 1 0) → (refused c, l ∷ []) ≡ reply
  unfolding frame_read
  unknown c e d = (λ t. (refused (e t), l ∷ [])) ∙ ap (judged m (l ∷ [])) (sym d)

  pub reply_below : v < h.first → (c : Refusal) → c ≡ because 1 0 → (refused c, l ∷ []) ≡ reply
  unfolding frame_seen
  reply_below k c e = unknown c e (below h.first v z g k _)

  pub reply_above : h.rows.last < v → (c : Refusal) → c ≡ because 1 0 → (refused c, l ∷ []) ≡ reply
  unfolding frame_seen
  reply_above k c e = unknown c e (above h.first v m z g k _)

  module _ (taken : h.first ≤ v) where
    module _ (known : v ≤ h.rows.last) where
      of_number_lem : {x : Answer × Tables} → x ≡ frame_read h (pos v) (l ∷ []) s → x ≡ reply
      of_number_lem e = e ∙ ap (λ (y : ℤ). frame_read h y (l ∷ []) s) (Versions.known h.rows z v g known o.low)

      pub reply_size : (c : Refusal) → bad c ≡ frame_size s → (refused c, l ∷ []) ≡ reply
      unfolding frame_read frame_seen
      reply_size c d = of_number_lem (rw (lt-false v h.first taken, le-true v h.rows.last known, sym d))

      module _ (n all : ℕ) (d : ok n all ≡ frame_size s) (w : List ℕ) (i : w ≡ take all s) where
        long : length w ≡ all
        long = ap length i ∙ length-take-le all s (size_inv s n all (sym d)).there

        thin : (lean (shape m v) ≡ true) × (row_width (shape m v) ≤ 1000)
        thin = slim_at m o.few v known

        size_w : length w ≤ most + 4
        size_w = let k = size_inv s n all (sym d) in let a = k.few in let b = k.all in let c = long in omega arith

        abbrev seen : Res Tables
        seen = read_rows false append (shape m v) 0 ([] ∷ [] ∷ []) 0 w

        -- what is made of the frame's bytes, with the table
        in_frame_lem : judged m (l ∷ []) (with_body all seen) ≡ reply
        unfolding frame_read frame_seen
        in_frame_lem =
            of_number_lem
            (rw (lt-false v h.first taken, le-true v h.rows.last known, sym d)
            (ap (λ (y : Tables). judged m (l ∷ []) (with_body all (read_rows false append (shape m v) 0 ([] ∷ y) 0 w))) (none_same (l ∷ []) h.rows.tables o.one)
            ∙ ap (λ (y : List ℕ). judged m (l ∷ []) (with_body all (read_rows false append (shape m v) 0 (no_rows h.rows) 0 y))) i))

        -- the walk of the frame's bytes, with the size
        abbrev run : List ℕ → Res State
        run t = on (walk false (shape m v) 0 (own [] ∷ tab t 0 ∷ [])) w 0

        size_there : ok n 4 ≡ on (cell w32) w 0
        unfolding on
        size_there =
            let k = size_inv s n all (sym d) in
            let a : w ≡ take 4 s ++ take n (drop 4 s) = i ∙ ap (λ (j : ℕ). take j s) k.all ∙ take-add 4 n s in
            sym (ap (λ (y : List ℕ). more 0 (cell w32 0 y)) a ∙ ap (more 0) (((kept_cell locals w32).law 0 s n 4 k.size).same (take n (drop 4 s))))

        -- the header's walk, from any row so far, starts after the size
        abbrev Walks : List ℕ → (Tab → Res State) → Type 0
        Walks t f = Runs (λ x. walk false (shape h.rows v) 0) w 4 (λ x. x ∷ tab t 0 ∷ []) f

        after_size : (t : List ℕ) (f : Tab → Res State) → Walks t f → f (own (n ∷ [])) ≡ run t
        unfolding read_basic cells add store put
        after_size t f e =
            field_took false (number w32) (shape h.rows v) 0 (own [] ∷ tab t 0 ∷ []) w 0 n 4 _ size_there (e.law (own (n ∷ [])))
            ∙ ap (λ (x : Shape). on (walk false x 0 (own [] ∷ tab t 0 ∷ [])) w 0) (sym (sized_shape h.rows v known))

        module _ (t₀ t₁ : List ℕ) (empty : length t₁ ≡ 0) (f : Tab → Res State) (measure : Walks t₀ f) where
          same : l ≡ t₁ ++ l
          same = ap (λ (t : List ℕ). t ++ l) (sym (nil t₁ empty))

          pub frame_no : (c : Refusal) → f (own (n ∷ [])) ≡ bad c → (refused c, (t₁ ++ l) ∷ []) ≡ reply
          frame_no c e =
              ap (λ (t : List ℕ). (refused c, t ∷ [])) (sym same)
              ∙ ap (λ (y : Res Tables). judged m (l ∷ []) (with_body all y)) (sym (ended_no false (shape m v) thin.0 thin.1 w size_w (t₀ ∷ []) (sym e ∙ after_size t₀ f measure))) ∙ in_frame_lem

          module _ (cs : List ℕ) (q k : ℕ) (took : f (own (n ∷ [])) ≡ ok (store (own (n ∷ [])) cs ∷ tab t₁ k ∷ []) q) where
            first : ok (own (n ∷ cs) ∷ tab t₁ k ∷ []) q ≡ run t₀
            first = ap (λ (y : Tab). ok (y ∷ tab t₁ k ∷ []) q) (sym (store_own cs (n ∷ []))) ∙ sym took ∙ after_size t₀ f measure

            measured : Ended false (shape m v) w (t₀ ∷ []) (n ∷ cs) (tab t₁ k ∷ []) q
            measured = ended false (shape m v) thin.0 thin.1 w size_w (t₀ ∷ []) first

            pub used_fits : q ≤ all
            used_fits = let k = ((local_rows false append (shape m v) 0 ([] ∷ [] ∷ [])).law 0 w _ q measured.is).fits in let c = long in omega arith

            -- the header's cells, and the body
            abbrev row : List ℕ
            row = cs ++ (q ∷ (all - q) ∷ [])

            with_body_lem : judged m (l ∷ []) (ok (row ∷ measured.rows) all) ≡ reply
            with_body_lem = ap (λ (y : Res Tables). judged m (l ∷ []) (with_body all y)) (sym measured.is) ∙ in_frame_lem

            room_is : (x : Option ℕ) → short (3 ∷ []) (k ∷ []) (length l ∷ []) ≡ x → short (widths m) (lengths measured.rows) (lengths (l ∷ [])) ≡ x
            room_is x e = ap (λ (ms : List ℕ). short (widths m) ms (length l ∷ [])) (sym measured.marks_are) ∙ ap (λ (ws : List ℕ). short ws (k ∷ []) (length l ∷ [])) o.wide ∙ e

            -- 10
            pub frame_needs : length (t₁ ++ l) / 3 < k / 3 → (c : Refusal) → c ≡ no_room (k / 3) → (refused c, (t₁ ++ l) ∷ []) ≡ reply
            frame_needs j c e =
                (λ t. (refused (e t), sym same t ∷ []))
                ∙ sym (judged_needs m (l ∷ []) row measured.rows all (k / 3) (room_is (some (k / 3)) (short_here 3 [] k [] (length l) [] (subst (λ (t : List ℕ). length t / 3 < k / 3) (sym same) j))))
                ∙ with_body_lem

            -- the rows have room
            fitting : k / 3 ≤ length l / 3 → (accepted row all, filled (l ∷ []) measured.rows) ≡ reply
            fitting j =
                sym (judged_fits m (l ∷ []) row measured.rows all measured.long
                (uncut m o.fit false v known w (n ∷ cs) measured.rows q (measured.long ∙ o.one) (ap (λ (t : Tables). read_rows false append (shape m v) 0 ([] ∷ t) 0 w) (sym (none_same (l ∷ []) h.rows.tables o.one)) ∙ measured.is))
                (room_is none (short_next 3 [] k [] (length l) [] j ∙ short_none [] [])))
                ∙ with_body_lem

            -- there are no tags, and the table stays
            pub frame_bare : k ≡ 0 → (accepted row all, (t₁ ++ l) ∷ []) ≡ reply
            frame_bare z =
                let e : lengths measured.rows ≡ 0 ∷ [] = sym measured.marks_are ∙ ap (λ (j : ℕ). j ∷ []) z in
                (λ t. (accepted row all, sym same t ∷ [])) ∙ ap (λ (t : Tables). (accepted row all, t)) (sym (none_filled measured.rows e)) ∙ fitting (rw z (omega arith))
              where
                none_filled : (st : Tables) → lengths st ≡ 0 ∷ [] → filled (l ∷ []) st ≡ l ∷ []
                none_filled [] e = refl
                none_filled (cs ∷ []) e = let c : length cs ≡ 0 = cc in ap (λ (ds : List ℕ). sets l 0 ds ∷ []) (nil cs c)
                none_filled (cs ∷ ds ∷ st) e = let c : length cs ≡ 0 = cc in ap (λ (ds : List ℕ). sets l 0 ds ∷ []) (nil cs c)

            -- the second walk fills them, and its answer is not used
            pub frame_took : k / 3 ≤ length (t₁ ++ l) / 3 → (l₂ : List ℕ) (f₂ : Tab → Res State) → ((x : State) (j : ℕ) → f₂ (own (n ∷ [])) ≡ ok x j → slices x ≡ l₂ ∷ []) → Walks (t₁ ++ l) f₂ → (accepted row all, l₂ ∷ []) ≡ reply
            frame_took j l₂ f₂ holds fill =
                let b = runs_so false (shape m v) thin.0 thin.1 w size_w (l ∷ []) (n ∷ cs) measured.rows q measured.is in
                let x = holds _ _ (after_size (t₁ ++ l) f₂ fill ∙ ap run (sym same) ∙ b) in
                let a : filled (l ∷ []) measured.rows ≡ l₂ ∷ [] = sym (slices_tabs (filled (l ∷ []) measured.rows) (lengths measured.rows)) ∙ x in
                ap (λ (t : Tables). (accepted row all, t)) (sym a) ∙ fitting (subst (λ (t : List ℕ). k / 3 ≤ length t / 3) (sym same) j)

-- ---- for both headers: a refusal that is handed up, and the table that a walk leaves

module _ {H : Type 0} (row : H → List ℕ) where
  pub handed : (r : Read (Frame H)) (c : Code.Refusal) → IsErr r × IsErrAnd r (λ d. d ≡ c) → (t : Tables) {o : Answer × Tables} → (refused (of_refusal c), t) ≡ o → (of_frame row r, t) ≡ o
  handed r c h t d = up (λ y. (of_frame row y, t)) r c h ∙ d

  -- a row has no table
  pub leaves : (ds l : List ℕ) (r : Result (HeaderAt H) Code.Refusal) (x : State) (j : ℕ) → of_walked row l r (own ds) ≡ ok x j → slices x ≡ l ∷ []
  leaves ds l (Ok a) x j e = let b : store (own ds) (row a.header) ∷ tab l a.mark ∷ [] ≡ x = cc in sym (ap slices b) ∙ ap (λ (t : Tab). slices (t ∷ tab l a.mark ∷ [])) (store_own (row a.header) ds)
  leaves ds l (Err c) x j e = not_ok e
