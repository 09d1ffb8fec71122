-- The laws at the level of calls, for every message: what is refused before the bytes are looked at, that nothing behind the used bytes has a part,
-- what tables and output hold after a refusal, and that what a write accepts a whole read accepts, with tables that mean the same.
use mathlib.Core.Bool.{Bool, false, true, true≢false}
use mathlib.Core.List.{List, [], ◌++◌, ◌∷◌}
use mathlib.Core.Option.{Option, none, some}
use mathlib.Core.Path.{◌∙◌, ◌≡◌, ap, refl, subst, sym}
use Prim.Native.Nat.{◌+◌, ◌/◌, ◌<◌, ◌≤◌, suc, zero, ℕ}
use native.Mathlib.Omega.{arith}
use lib.Dec.{leb, ltb}
use lib.IntN.{negsuc, pos, ℤ}
use lib.ListN.{drop, get_or, length, replicate, take}
use lib.Seq.{drop_at, take_at}
use borrow.Author.Tests.{ne_eqb}
use Rattle.layout.specs.Reading.{Refusal, Res, bad, because, no_room, ok}
use Rattle.layout.specs.Primitives.{minus}
use Rattle.layout.specs.Rows.{Shape}
use Rattle.layout.specs.Write.{fault}
use Rattle.layout.specs.Tables.{Tables, append, good, good_count, read_rows}
use Rattle.layout.specs.Answers.{Answer, Message, accepted, body, ended, laid, made, meant, most, needed, offered, prefix_read, read_answer, refused, roomy, seen, shape, stored, widths, write_answer}
use Rattle.layout.proofs.Contents.{Holds, rows_needed, rows_wide, rows_in, tables_hold}
use Rattle.layout.proofs.Every.{Every}
use Rattle.layout.proofs.Link.{keep, link, over, under}
use Rattle.layout.proofs.Local.{Local, local_flag, local_read, local_unsigned, not_ok}
use Rattle.layout.proofs.Steps.{by_result, passed}
use Rattle.layout.proofs.Parts.{shown}
use Rattle.layout.proofs.Proper.{owed, proper, width_same, width_at}
use Rattle.layout.proofs.Tests.{by_test, le-false, le-true, lt-false, of_ge, of_le}
use Rattle.layout.proofs.Trip.{Laid, round_trip}

-- no refusal is an acceptance
pub not_accepted : {B X : Type 0} {e : Refusal} {r : List ℕ} {n : ℕ} {a b : B} → ◌≡◌ {A = Answer × B} (refused e, a) (accepted r n, b) → X
not_accepted {B} {X} {e} {r} {n} {a} {b} h = let x : refused e ≡ accepted r n = ap (λ (z : Answer × B). z.0) h in absurd (let z : ◌≡◌ {A = ℕ} 0 1 = cc in omega arith)

-- ---- 1 and 2 come first, and look at nothing else

pub version_below : (w : Bool) (m : Message) (v : ℕ) (s : List ℕ) → seen w m (negsuc v) s ≡ bad (because 1 0)
unfolding seen
version_below w m v s = refl

pub version_above : (w : Bool) (m : Message) (v : ℕ) (s : List ℕ) → m.last < v → seen w m (pos v) s ≡ bad (because 1 0)
unfolding seen
version_above w m v s h = rw (le-false v m.last h)

pub too_long_lem : (w : Bool) (m : Message) (v : ℕ) (s : List ℕ) → v ≤ m.last → 1048576 < length s → seen w m (pos v) s ≡ bad (because 2 0)
unfolding seen
too_long_lem w m v s h g = rw (le-true v m.last h, le-false (length s) 1048576 g)

-- ---- what an accepted message is

pub record Seen (w : Bool) (m : Message) (v : ℤ) (s : List ℕ) (st : Tables) (n : ℕ) : Type 0 where
  pub version : ℕ
  pub is : v ≡ pos version
  pub known : version ≤ m.last
  pub short : length s ≤ most
  pub reads : read_rows w append (shape m version) 0 (replicate (suc m.tables) []) 0 s ≡ ok st n
  pub to_the_end : w ≡ true → length s ≤ n

ended_inv : {A : Type 0} (w : Bool) (z : ℕ) (o : Res A) (x : A) (n : ℕ) → ended w z o ≡ ok x n → (o ≡ ok x n) × (w ≡ true → z ≤ n)
ended_inv w z (bad c) x n e = not_ok e
ended_inv false z (ok y k) x n e = (e, λ u. absurd (true≢false (sym u)))
ended_inv true z (ok y k) x n e = by_test (ltb k z) (λ d. not_ok (rw d at e)) (λ d. let f : ok y k ≡ ok x n = rw d at e in let i : k ≡ n = cc in (f, λ u. rw i at (of_ge k z d)))

pub seen_inv : (w : Bool) (m : Message) (v : ℤ) (s : List ℕ) (st : Tables) (n : ℕ) → seen w m v s ≡ ok st n → Seen w m v s st n
unfolding seen
seen_inv w m (negsuc v) s st n e = not_ok e
seen_inv w m (pos v) s st n e =
    let a = passed _ _ _ st n e in
    let b = passed _ _ _ st n a.1 in
    let c = ended_inv w (length s) _ st n b.1 in
    record { version = v; is = refl; known = of_le _ _ a.0; short = of_le _ _ b.0; reads = c.0; to_the_end = c.1 }

-- and back: a body that is read is seen
pub seen_prefix : (m : Message) (v : ℕ) (s : List ℕ) (st : Tables) (n : ℕ) → v ≤ m.last → length s ≤ most → read_rows false append (shape m v) 0 (replicate (suc m.tables) []) 0 s ≡ ok st n → seen false m (pos v) s ≡ ok st n
unfolding seen
seen_prefix m v s st n a b d = rw (le-true v m.last a, le-true (length s) most b, d)

pub seen_whole : (m : Message) (v : ℕ) (s : List ℕ) (st : Tables) → v ≤ m.last → length s ≤ most → read_rows true append (shape m v) 0 (replicate (suc m.tables) []) 0 s ≡ ok st (length s) → seen true m (pos v) s ≡ ok st (length s)
unfolding seen
seen_whole m v s st a b d = rw (le-true v m.last a, le-true (length s) most b, d, lt-false (length s) (length s) (omega arith))

-- ---- the answer rests on the bytes used

pub local_rows : {S : Type 0} (w : Bool) (add : ℕ → List ℕ → S → S) (l : Shape) (o : ℕ) (st : S) → Local (read_rows w add l o st)
local_rows w add l o st = record {
  law = λ p s y n e.
      let m = link w add l o st in
      let u = under _ _ _ m p s tt y n e in
      let h = (local_read _ local_unsigned local_flag l).law p s u.x n u.reads in
      record { fits = h.fits; same = λ t. m.law p (take n s ++ t) tt ∙ ap (over (λ x. keep add l o x st)) (h.same t) ∙ ap (λ z. ok z n) u.is };
}

module _ (m : Message) (v : ℤ) (s : List ℕ) where
  -- no more bytes are used than there are
  pub seen_fits : (w : Bool) (st : Tables) (n : ℕ) → seen w m v s ≡ ok st n → n ≤ length s
  seen_fits w st n e = let d = seen_inv w m v s st n e in ((local_rows w append (shape m d.version) 0 _).law 0 s st n d.reads).fits

  -- any bytes may stand behind those used
  pub seen_local : (st : Tables) (n : ℕ) (t : List ℕ) → seen false m v s ≡ ok st n → length (take n s ++ t) ≤ most → seen false m v (take n s ++ t) ≡ ok st n
  seen_local st n t e h =
      let d = seen_inv false m v s st n e in
      ap (λ (z : ℤ). seen false m z (take n s ++ t)) d.is ∙ seen_prefix m d.version (take n s ++ t) st n d.known h (((local_rows false append (shape m d.version) 0 _).law 0 s st n d.reads).same t)

  module _ (room : Tables) where
    -- an accepted answer is a message seen, and room for it
    pub record Read (w : Bool) (r : List ℕ) (n : ℕ) (after : Tables) : Type 0 where
      pub st : Tables
      pub is_seen : seen w m v s ≡ ok st n
      pub has_room : needed (widths m) (drop 1 st) room ≡ none
      pub row_is : get_or st 0 [] ≡ r
      pub after_is : laid (drop 1 st) room ≡ after

    pub read_inv : (w : Bool) (r : List ℕ) (n : ℕ) (after : Tables) → read_answer w m v room s ≡ (accepted r n, after) → Read w r n after
    unfolding read_answer
    read_inv w r n after e = by_result (seen w m v s) (λ st k d. fits st k d (needed (widths m) (drop 1 st) room) refl (rw d at e)) (λ c d. not_accepted (rw d at e))
      where
        fits : (st : Tables) (k : ℕ) → seen w m v s ≡ ok st k → (o : Option ℕ) → needed (widths m) (drop 1 st) room ≡ o → roomy st room k o ≡ (accepted r n, after) → Read w r n after
        fits st k d none h e =
            let x : accepted (get_or st 0 []) k ≡ accepted r n = ap (λ (z : Answer × Tables). z.0) e in
            let y : k ≡ n = cc in
            record { st = st; is_seen = d ∙ ap (λ (j : ℕ). ok st j) y; has_room = h; row_is = cc; after_is = ap (λ (z : Answer × Tables). z.1) e }
        fits st k d (some j) h e = not_accepted e

    pub read_answer_lem : (w : Bool) (st : Tables) (n : ℕ) → seen w m v s ≡ ok st n → needed (widths m) (drop 1 st) room ≡ none → read_answer w m v room s ≡ (accepted (get_or st 0 []) n, laid (drop 1 st) room)
    unfolding read_answer
    read_answer_lem w st n d h = rw (d, h)

    -- what is refused is refused whatever is lent, and nothing is altered
    pub read_refused : (w : Bool) (e : Refusal) → seen w m v s ≡ bad e → read_answer w m v room s ≡ (refused e, room)
    unfolding read_answer
    read_refused w e d = rw d

    -- after any refusal, of room too, the tables are as they were
    pub refusal_keeps : (w : Bool) (e : Refusal) (after : Tables) → read_answer w m v room s ≡ (refused e, after) → after ≡ room
    unfolding read_answer
    refusal_keeps w e after d =
        by_result (seen w m v s) (λ st k i. fits st k (needed (widths m) (drop 1 st) room) (rw i at d)) (λ c i. sym (ap (λ (z : Answer × Tables). z.1) (rw i at d)))
      where
        fits : (st : Tables) (k : ℕ) (o : Option ℕ) → roomy st room k o ≡ (refused e, after) → after ≡ room
        fits st k none d = not_accepted (sym d)
        fits st k (some j) d = sym (ap (λ (z : Answer × Tables). z.1) d)

-- the law of the prefix read: nothing behind the used bytes has a part in its answer
pub prefix_local : (m : Message) (v : ℤ) (room : Tables) (s t r : List ℕ) (n : ℕ) (after : Tables) →
    prefix_read m v room s ≡ (accepted r n, after) → length (take n s ++ t) ≤ most → prefix_read m v room (take n s ++ t) ≡ (accepted r n, after)
unfolding prefix_read
prefix_local m v room s t r n after e h =
    let d = read_inv m v s room false r n after e in
    read_answer_lem m v (take n s ++ t) room false d.st n (seen_local m v s d.st n t d.is_seen h) d.has_room ∙ (λ i. (accepted (d.row_is i) n, d.after_is i))

-- the same of replies that say answers, each answer in one way: with other bytes behind the used ones the reply and the tables are the same
module _ {R : Type 0} (say : R → Answer × Tables) (only : (o : Answer × Tables) (x y : R) → say x ≡ o → say y ≡ o → x ≡ y) (m : Message) where
  pub local_reply : (msg behind : List ℕ) (v : ℤ) (lent : Tables) (x y : R) (r : List ℕ) (n : ℕ) (after : Tables) →
      say x ≡ prefix_read m v lent msg → say x ≡ (accepted r n, after) → length (take n msg ++ behind) ≤ most → say y ≡ prefix_read m v lent (take n msg ++ behind) → y ≡ x
  local_reply msg behind v lent x y r n after p a h q = only _ y x q (a ∙ sym (prefix_local m v lent msg behind r n after (sym p ∙ a) h))

-- ---- what the tables hold

module _ (m : Message) (h : proper m ≡ true) where
  pub tables_of : (w : Bool) (v : ℕ) (s : List ℕ) (st : Tables) (n : ℕ) → v ≤ m.last → read_rows w append (shape m v) 0 (replicate (suc m.tables) []) 0 s ≡ ok st n → Holds w (shape m v) s n st
  tables_of w v s st n k e =
      let o = owed m h v k in
      tables_hold w (shape m v) (suc m.tables) s st n (omega arith) o.names o.free o.tree e

  pub tables_are : (w : Bool) (v : ℤ) (s : List ℕ) (st : Tables) (n : ℕ) → (d : Seen w m v s st n) → Holds w (shape m d.version) s n st
  tables_are w v s st n d = tables_of w d.version s st n d.known d.reads

  -- every text and every data that is shown lies inside the message
  pub parts_inside : (w : Bool) (v : ℤ) (s : List ℕ) (st : Tables) (n : ℕ) → (d : Seen w m v s st n) → Every minus (λ t. t.0 + t.1 ≤ length s) (shape m d.version) (tables_are w v s st n d).x
  parts_inside w v s st n d = (shown minus w (shape m d.version) s _ n (let k = d.short in omega arith) (owed m h d.version d.known).eating (tables_are w v s st n d).reads).inside_it

  -- the rows of table t in what was read: the need that 10 tells
  pub need_is : (w : Bool) (v : ℕ) (s : List ℕ) (st : Tables) (n t : ℕ) → (e : Holds w (shape m v) s n st) → v ≤ m.last → 1 ≤ t → t ≤ m.tables → length (get_or st t []) / width_at m 0 t ≡ length (rows_in t (shape m v) e.x)
  unfolding width_at
  need_is w v s st n t e k a b =
      let c = width_same m h v k t a b in
      ap (λ (u : ℕ). length (get_or st t []) / u) (sym c.1) ∙ ap (λ (u : List ℕ). length u / width_at m v t) (e.others t (ne_eqb t 0 (λ z. omega arith)))
      ∙ rows_needed (width_at m v t) (rows_in t (shape m v) e.x) c.0 (rows_wide (λ t. width_at m v t) t (shape m v) e.x (owed m h v k).wide)

-- ---- writing

-- what an accepted write says
pub record Made (m : Message) (v : ℤ) (lent : List ℕ) (st : Tables) (bs : List ℕ) (n : ℕ) : Type 0 where
  pub version : ℕ
  pub is : v ≡ pos version
  pub known : version ≤ m.last
  pub good_tables : good (length lent) m.tables (shape m 0) st ≡ true
  pub clean : fault (shape m version) (meant lent st (shape m version)) ≡ 0
  pub bytes_are : bs ≡ body lent st (shape m version)
  pub size_is : n ≡ length bs
  pub short : length bs ≤ most

-- bytes that are offered have no fault and are not too many
offered_inv : (f : ℕ) (b bs : List ℕ) (n : ℕ) → offered f b ≡ ok bs n → (f ≡ 0) × (bs ≡ b) × (n ≡ length bs) × (length bs ≤ most)
offered_inv (suc f) b bs n e = not_ok e
offered_inv zero b bs n e =
    let a = passed (leb (length b) most) (ok b (length b)) _ bs n e in
    let c = a.1 in
    let z : b ≡ bs = cc in
    let w : length b ≡ n = cc in
    (refl, sym z, sym w ∙ ap length z, rw z at (of_le (length b) most a.0))

pub made_inv : (m : Message) (v : ℤ) (lent : List ℕ) (st : Tables) (bs : List ℕ) (n : ℕ) → made m v lent st ≡ ok bs n → Made m v lent st bs n
unfolding made
made_inv m (negsuc v) lent st bs n e = not_ok e
made_inv m (pos v) lent st bs n e =
    let a = passed _ _ _ bs n e in
    let b = passed _ _ _ bs n a.1 in
    let o = offered_inv _ _ bs n b.1 in
    record { version = v; is = refl; known = of_le _ _ a.0; good_tables = b.0; clean = o.0; bytes_are = o.1; size_is = o.2; short = o.3 }

-- bytes that were made, o, are at the front of the output
pub record Wrote (o : Res (List ℕ)) (out : List ℕ) (n : ℕ) (after : List ℕ) : Type 0 where
  pub bs : List ℕ
  pub is_made : o ≡ ok bs n
  pub after_is : after ≡ bs ++ drop n out
  pub fits : n ≤ length out

pub stored_inv : (o : Res (List ℕ)) (out r : List ℕ) (n : ℕ) (after : List ℕ) → stored out o ≡ (accepted r n, after) → Wrote o out n after
stored_inv o out r n after e =
    by_result o
    (λ bs k d. by_test (leb k (length out))
    (λ h.
    let f : ◌≡◌ {A = Answer × List ℕ} (accepted [] k, bs ++ drop k out) (accepted r n, after) = rw (d, h) at e in
    let x : accepted [] k ≡ accepted r n = ap (λ (z : Answer × List ℕ). z.0) f in
    let y : k ≡ n = cc in
    record { bs = bs; is_made = d ∙ ap (λ (j : ℕ). ok bs j) y; after_is = sym (ap (λ (z : Answer × List ℕ). z.1) f) ∙ ap (λ (j : ℕ). bs ++ drop j out) y; fits = rw y at (of_le k (length out) h) })
    (λ h. not_accepted (rw (d, h) at e)))
    (λ c d. not_accepted (rw d at e))

pub write_inv : (m : Message) (v : ℤ) (lent : List ℕ) (st : Tables) (out r : List ℕ) (n : ℕ) (after : List ℕ) → write_answer m v lent st out ≡ (accepted r n, after) → Wrote (made m v lent st) out n after
unfolding write_answer
write_inv m v lent st = stored_inv (made m v lent st)

-- the law of writing: the whole read of what was written accepts it, at that version, and its tables mean what the written tables meant
pub written_reads : (m : Message) → proper m ≡ true → (v : ℤ) (lent : List ℕ) (st : Tables) (bs : List ℕ) (n : ℕ) → (d : Made m v lent st bs n) → (w : Bool) → Laid w (shape m d.version) (suc m.tables) bs (meant lent st (shape m d.version)) (length bs)
unfolding body
written_reads m h v lent st bs n d w =
    let l = shape m d.version in
    let o = owed m h d.version d.known in
    let x = meant lent st l in
    subst (λ (u : List ℕ). Laid w l (suc m.tables) u x (length u)) (sym d.bytes_are)
    (round_trip w l (suc m.tables) x (omega arith) o.names o.eating (let k = d.short in let q : length bs ≡ length (body lent st l) = ap length d.bytes_are in omega arith) d.clean)

-- the shape of a version; one that is refused with 1 has none
abbrev pub shape_at : Message → ℤ → Shape
shape_at m (pos v) = shape m v
shape_at m (negsuc v) = shape m 0

-- the body bs is read at version v, prefix and whole, with every byte used, into tables that mean what `st` and `lent` meant
pub record ComesBack (m : Message) (v : ℤ) (lent : List ℕ) (st : Tables) (bs : List ℕ) : Type 0 where
  pub su : (w : Bool) → Tables
  pub is_seen : (w : Bool) → seen w m v bs ≡ ok (su w) (length bs)
  pub equal : (w : Bool) → meant bs (su w) (shape_at m v) ≡ meant lent st (shape_at m v)

pub comes_back : (m : Message) → proper m ≡ true → (v : ℤ) (lent : List ℕ) (st : Tables) (out r : List ℕ) (n : ℕ) (after : List ℕ) →
    write_answer m v lent st out ≡ (accepted r n, after) → (length (take n after) ≡ n) × ComesBack m v lent st (take n after)
comes_back m h v lent st out r n after e =
    let w = write_inv m v lent st out r n after e in
    let d = made_inv m v lent st w.bs n w.is_made in
    let t : take n after ≡ w.bs = ap (take n) w.after_is ∙ take_at w.bs (drop n out) n (sym d.size_is) in
    (ap length t ∙ sym d.size_is, subst (ComesBack m v lent st) (sym t) (read_it w.bs d))
  where
    read_it : (bs : List ℕ) → (d : Made m v lent st bs n) → ComesBack m v lent st bs
    read_it bs d = record {
      su = λ w. (laid_of w).st;
      is_seen = λ w. ap (λ (z : ℤ). seen w m z bs) d.is ∙ both_ways w;
      equal = λ w. subst (λ (z : ℤ). meant bs (laid_of w).st (shape_at m z) ≡ meant lent st (shape_at m z)) (sym d.is) (laid_of w).means;
    }
      where
        laid_of : (w : Bool) → Laid w (shape m d.version) (suc m.tables) bs (meant lent st (shape m d.version)) (length bs)
        laid_of w = written_reads m h v lent st bs n d w

        both_ways : (w : Bool) → seen w m (pos d.version) bs ≡ ok (laid_of w).st (length bs)
        both_ways true = seen_whole m d.version bs (laid_of true).st d.known d.short (laid_of true).reads
        both_ways false = seen_prefix m d.version bs (laid_of false).st (length bs) d.known d.short (laid_of false).reads

-- ---- room: a table with just the rows needed is large enough, cells behind those filled stay, and a write that does not fit says all its bytes

pub enough : (w : ℕ) (ws cs old : List ℕ) (st room : Tables) → length cs / w ≤ length old / w → needed (w ∷ ws) (cs ∷ st) (old ∷ room) ≡ needed ws st room
unfolding needed
enough w ws cs old st room h = rw (le-true (length cs / w) (length old / w) h)

pub stays_behind : (cs old : List ℕ) (st room : Tables) → drop (length cs) (get_or (laid (cs ∷ st) (old ∷ room)) 0 []) ≡ drop (length cs) old
unfolding laid
stays_behind cs old st room = drop_at cs (drop (length cs) old) (length cs) refl

pub need_of_a_write : (m : Message) (v : ℤ) (lent : List ℕ) (st : Tables) (bs out : List ℕ) (n : ℕ) → made m v lent st ≡ ok bs n → length out < n → write_answer m v lent st out ≡ (refused (no_room n), out)
unfolding write_answer
need_of_a_write m v lent st bs out n e h = rw (e, le-false n (length out) h)

-- 13 for a count of −1 where there is neither null nor unset
pub no_null : good_count false minus ≡ false
unfolding good_count
no_null = refl
