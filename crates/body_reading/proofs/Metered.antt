-- A prefix read that measures first, by a walk over scratch, and then fills: what the measure says of the message, and the whole reply from it.
-- For every proper message and any number of lent tables.
use mathlib.Core.Bool.{false, true}
use mathlib.Core.List.{List, [], ◌∷◌}
use mathlib.Core.Option.{none, some}
use mathlib.Core.Path.{◌∙◌, ◌≡◌, ap, refl, subst, sym}
use Prim.Native.Nat.{◌<◌, ◌≤◌, suc, ℕ}
use native.Mathlib.Omega.{arith}
use lib.IntN.{negsuc, pos, ℤ}
use lib.ListN.{drop, get_or, length, replicate}
use Rattle.layout.specs.Reading.{Refusal, Res, bad, because, no_room, ok}
use Rattle.layout.specs.Tables.{Tables, append, read_rows, row_width}
use Rattle.layout.specs.Answers.{Answer, Message, accepted, most, read_answer, refused, seen, shape, widths}
use Rattle.layout.proofs.Calls.{read_refused, seen_inv, seen_prefix, too_long_lem, version_above, version_below}
use Rattle.layout.proofs.Local.{not_ok}
use Rattle.layout.proofs.Proper.{proper}
use Rattle.body_reading.specs.Meter.{lengths, metered}
use Rattle.body_reading.specs.Store.{State, own}
use Rattle.body_reading.specs.Walk.{on, walk}
use Rattle.body_reading.proofs.Bound.{lean, slim, slim_at}
use Rattle.body_reading.proofs.Close.{ended, ended_no, filled, marks, none_yet_lem, read_long, runs_so, slices, slices_tabs, tabs}
use Rattle.body_reading.specs.Meter.{short}
use Rattle.body_reading.proofs.Reply.{none_same, reply_fits, reply_needs, seen_bad}

module _ (m : Message) (v : ℕ) (s : List ℕ) where
  -- the walk of code over these tables
  abbrev pub run : Tables → Res State
  run ts = on (walk false (shape m v) 0 (own [] ∷ tabs ts [])) s 0

  abbrev reads : Tables → Res Tables
  reads ts = read_rows false append (shape m v) 0 ([] ∷ none_yet_lem ts) 0 s

  from_start : (ts : Tables) → length ts ≡ m.tables → reads ts ≡ read_rows false append (shape m v) 0 (replicate (suc m.tables) []) 0 s
  from_start ts many = ap (λ (y : Tables). read_rows false append (shape m v) 0 ([] ∷ y) 0 s) (none_same ts m.tables many)

-- ---- measured

module _ (m : Message) (h : proper m ≡ true) (few : slim m ≡ true) (v : ℕ) (known : v ≤ m.last) (s : List ℕ) (size : length s ≤ most) where
  thin : (lean (shape m v) ≡ true) × (row_width (shape m v) ≤ 1000)
  thin = slim_at m few v known

  module _ (scratch : Tables) (many : length scratch ≡ m.tables) where
    pub measured_no : (c : Refusal) → bad c ≡ run m v s scratch → bad c ≡ metered (seen false m (pos v) s)
    unfolding metered
    measured_no c e = ap metered (sym (seen_bad m h false v s scratch many known size c (ended_no false (shape m v) thin.0 thin.1 s (omega (arith, size)) scratch e)))

    pub measured_took : (cs : List ℕ) (u : State) (q : ℕ) → ok (own cs ∷ u) q ≡ run m v s scratch → ok (cs, marks u) q ≡ metered (seen false m (pos v) s)
    unfolding metered
    measured_took cs u q e =
        let a = ended false (shape m v) thin.0 thin.1 s (omega (arith, size)) scratch e in
        ap (λ (ms : List ℕ). ok (cs, ms) q) a.marks_are ∙ ap metered (sym (seen_prefix m v s (cs ∷ a.rows) q known size (sym (from_start m v s scratch many) ∙ a.is)))

-- 1 and 2 come first; v is the version's number, as far as it has one
module _ (m : Message) (z : ℤ) (s : List ℕ) (c : Refusal) where
  pub metered_unknown : (v : ℕ) → ((n : ℕ) → z ≡ pos n → v ≡ n) → m.last < v → c ≡ because 1 0 → bad c ≡ metered (seen false m z s)
  unfolding metered
  metered_unknown v i h d = ap bad d ∙ ap metered (sym (go z i))
    where
      go : (z : ℤ) → ((n : ℕ) → z ≡ pos n → v ≡ n) → seen false m z s ≡ bad (because 1 0)
      go (pos n) i = version_above false m n s (subst (λ (j : ℕ). m.last < j) (i n refl) h)
      go (negsuc n) i = version_below false m n s

  pub metered_long : (v : ℕ) → pos v ≡ z → v ≤ m.last → most < length s → c ≡ because 2 0 → bad c ≡ metered (seen false m z s)
  unfolding metered
  metered_long v i h l d = ap bad d ∙ ap metered (sym (too_long_lem false m v s h l)) ∙ ap (λ (y : ℤ). metered (seen false m y s)) i

-- of a version told in two ways
pub metered_same : (m : Message) (s : List ℕ) (y z : ℤ) → y ≡ z → (o : Res (List ℕ × List ℕ)) → o ≡ metered (seen false m y s) → o ≡ metered (seen false m z s)
metered_same m s y z i o d = d ∙ ap (λ (x : ℤ). metered (seen false m x s)) i

-- ---- the reply, at any version

module _ (m : Message) (h : proper m ≡ true) (few : slim m ≡ true) (z : ℤ) (s : List ℕ) where
  pub metered_no : (c : Refusal) → bad c ≡ metered (seen false m z s) → (olds : Tables) → (refused c, olds) ≡ read_answer false m z olds s
  unfolding metered
  metered_no c e olds = sym (read_refused m z s olds false c (go (seen false m z s) e))
    where
      go : (o : Res Tables) → bad c ≡ metered o → o ≡ bad c
      go (ok st n) d = not_ok d
      go (bad b) d = let x : c ≡ b = cc in ap bad (sym x)

  module _ (row ms : List ℕ) (q : ℕ) (e : ok (row, ms) q ≡ metered (seen false m z s)) where
    record Told : Type 0 where
      st : Tables
      said : seen false m z s ≡ ok st q
      own_row : row ≡ get_or st 0 []
      sizes : ms ≡ lengths (drop 1 st)

    told : Told
    unfolding metered
    told = go (seen false m z s) refl e
      where
        go : (o : Res Tables) → seen false m z s ≡ o → ok (row, ms) q ≡ metered o → Told
        go (ok st n) d f =
            let x : ◌≡◌ {A = List ℕ × List ℕ} (row, ms) (get_or st 0 [], lengths (drop 1 st)) = cc in
            let c : n ≡ q = cc in
            record { st = st; said = d ∙ ap (λ (j : ℕ). ok st j) c; own_row = ap (λ (y : List ℕ × List ℕ). y.0) x; sizes = ap (λ (y : List ℕ × List ℕ). y.1) x }
        go (bad b) d f = not_ok (sym f)

    -- version and size were judged; v is the version's number, as far as it has one
    pub is_known : (v : ℕ) → ((n : ℕ) → z ≡ pos n → v ≡ n) → (pos v ≡ z) × ((v ≤ m.last) × (length s ≤ most))
    is_known v i =
        let a = seen_inv false m z s told.st q told.said in
        let k : v ≡ a.version = i a.version a.is in (ap pos k ∙ sym a.is, (subst (λ (j : ℕ). j ≤ m.last) (sym k) a.known, a.short))

    module _ (olds : Tables) (many : length olds ≡ m.tables) (v : ℕ) (i : (n : ℕ) → z ≡ pos n → v ≡ n) where
      known : v ≤ m.last
      known = (is_known v i).1.0

      size : length s ≤ most
      size = (is_known v i).1.1

      thinner : (lean (shape m v) ≡ true) × (row_width (shape m v) ≤ 1000)
      thinner = slim_at m few v known

      record Known : Type 0 where
        st : Tables
        is : reads m v s olds ≡ ok (row ∷ st) q
        said : seen false m (pos v) s ≡ ok (row ∷ st) q
        sizes : ms ≡ lengths st
        long : length st ≡ length olds

      of_tables : (st : Tables) → length st ≡ suc (length olds) → reads m v s olds ≡ ok st q → seen false m (pos v) s ≡ ok st q → row ≡ get_or st 0 [] → ms ≡ lengths (drop 1 st) → Known
      of_tables [] l r d a b = absurd (omega (arith, l))
      of_tables (x ∷ ts) l r d a b = record {
        st = ts;
        is = r ∙ ap (λ (y : List ℕ). ok (y ∷ ts) q) (sym a);
        said = d ∙ ap (λ (y : List ℕ). ok (y ∷ ts) q) (sym a);
        sizes = b;
        long = omega (arith, l);
      }

      known_is : Known
      known_is =
          let a = seen_inv false m z s told.st q told.said in
          let k : a.version ≡ v = sym (i a.version a.is) in
          let r = from_start m v s olds many ∙ subst (λ (j : ℕ). read_rows false append (shape m j) 0 (replicate (suc m.tables) []) 0 s ≡ ok told.st q) k a.reads in
          of_tables told.st (read_long false (shape m v) thinner.0 thinner.1 s (omega (arith, size)) olds told.st q r) r (ap (λ (y : ℤ). seen false m y s) (is_known v i).0 ∙ told.said) told.own_row told.sizes

      at_z : {o : Answer × Tables} → o ≡ read_answer false m (pos v) olds s → o ≡ read_answer false m z olds s
      at_z d = d ∙ ap (λ (y : ℤ). read_answer false m y olds s) (is_known v i).0

      -- 10: the first table too small
      pub metered_short : (k : ℕ) → short (widths m) ms (lengths olds) ≡ some k → (c : Refusal) → c ≡ no_room k → (refused c, olds) ≡ read_answer false m z olds s
      metered_short k f c d =
          let a = known_is in
          ap (λ (y : Refusal). (refused y, olds)) d ∙ at_z (sym (reply_needs m h false v s olds many row a.st q a.said k (ap (λ (ns : List ℕ). short (widths m) ns (lengths olds)) (sym a.sizes) ∙ f)))

      -- all has room: the second walk's answer is the first's, whether it is looked at or not
      pub metered_fits : short (widths m) ms (lengths olds) ≡ none → (o : Res State) → o ≡ run m v s olds → (news : Tables) → ((x : State) (n : ℕ) → o ≡ ok x n → slices x ≡ news) → (accepted row q, news) ≡ read_answer false m z olds s
      metered_fits f o d news g =
          let a = known_is in
          let b = g _ _ (d ∙ runs_so false (shape m v) thinner.0 thinner.1 s (omega (arith, size)) olds row a.st q a.is) in
          ap (λ (y : Tables). (accepted row q, y)) (sym b ∙ slices_tabs (filled olds a.st) (lengths a.st))
          ∙ at_z (sym (reply_fits m h false v s olds many row a.st q a.said a.long (ap (λ (ns : List ℕ). short (widths m) ns (lengths olds)) (sym a.sizes) ∙ f)))
