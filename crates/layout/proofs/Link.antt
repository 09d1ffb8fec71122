-- One reader gives what another gives, through a function, and both refuse alike: two codecs that differ in what they make of a text, so that the reader of the tables,
-- whose texts are places, and the reader of the theorems, whose texts are bytes, accept the same bodies; and the reader that keeps rows, for every way of keeping them. For every shape.
use mathlib.Core.Bool.{Bool, false, true}
use mathlib.Core.List.{List, [], ◌∷◌, map}
use mathlib.Core.Path.{◌∙◌, ◌≡◌, ap, refl, subst, sym}
use Prim.Native.Nat.{◌+◌, ◌-◌, suc, zero, ℕ}
use native.Mathlib.Nat.{add_assoc, add-zero}
use lib.ListN.{drop, length}
use lib.Seq.{drop-drop, length-take-le}
use mathlib.Core.Option.{Option, none, some}
use native.Mathlib.Omega.{arith}
use lib.Dec.{eqb}
use Rattle.layout.specs.Reading.{Reader, Res, bad, fail, fail_at, give, here, loop, many, more, next, ok, pair, pick, placed, raw, single, then}
use Rattle.layout.specs.Utf8.{utf8, well_formed}
use Rattle.layout.specs.Primitives.{Maybe, Null, Size, admits, admits_null, checked, compact, empty, fixed, flag, is_kept, keeps, kept, minus, never, plain, sized, unsigned, varint}
use Rattle.layout.specs.Rows.{Basic, BasicValue, Shape, Value, absent, array, blob, boolean, end, field, lacking, level, natural, number, optional, text}
use Rattle.layout.specs.Read.{Codec, by_bytes, by_place, read, read_basic, read_blob, read_text}
use Rattle.layout.specs.Tables.{Span, absent_cells, absent_count, cells, count_cell, read_rows, slice}
use Rattle.layout.proofs.Every.{list_of}
use Rattle.layout.proofs.Tests.{of_eq}
use Rattle.layout.proofs.Local.{not_ok}
use Rattle.layout.proofs.Steps.{Raw, Under, by_result, given, length_many, piece, raw_inv}

abbrev pub over : {A B : Type 0} → (A → B) → Res A → Res B
over g (ok x n) = ok (g x) n
over g (bad e) = bad e

-- what is known where a reader stands, and still is behind what it used
pub record Where : Type 1 where
  pub At : ℕ → List ℕ → Type 0
  pub onward : (p n : ℕ) (s : List ℕ) → At p s → At (p + n) (drop n s)

pub record Maps (W : Where) {A S : Type 0} (rs : Reader S) (r : Reader A) (g : A → S) : Type 0 where
  pub law : (p : ℕ) (s : List ℕ) → W.At p s → rs p s ≡ over g (r p s)

abbrev pub anywhere : Where
anywhere = record { At = λ p s. Unit {0}; onward = λ p n s at. tt }

pub under : {W : Where} {A S : Type 0} (rs : Reader S) (r : Reader A) (g : A → S) → Maps W rs r g → (p : ℕ) (s : List ℕ) → W.At p s → (y : S) (n : ℕ) → rs p s ≡ ok y n → Under r g p s y n
under rs r g m p s a y n e =
    let d = sym (m.law p s a) ∙ e in
    by_result (r p s) (λ x k i. let f : ok (g x) k ≡ ok y n = rw i at d in record { x = x; reads = i ∙ ap (ok x) (cc); is = cc }) (λ c i. not_ok (rw i at d))

pub maps_give : {W : Where} {A S : Type 0} (g : A → S) (x : A) → Maps W (give (g x)) (give x) g
unfolding give
maps_give g x = record { law = λ p s a. refl }

pub over_more : {A B : Type 0} (g : A → B) (n : ℕ) (o : Res A) → over g (more n o) ≡ more n (over g o)
over_more g n (ok x m) = refl
over_more g n (bad e) = refl

-- the second readers need to agree only on what the first one gives
pub maps_then : {W : Where} {A B S U : Type 0} (rs : Reader S) (r : Reader A) (h : A → S) (fs : S → Reader U) (f : A → Reader B) (g : B → U) (Q : A → Type 0) →
    Maps W rs r h → ((p : ℕ) (s : List ℕ) (x : A) (n : ℕ) → r p s ≡ ok x n → Q x) → ((x : A) → Q x → Maps W (fs (h x)) (f x) g) → Maps W (then rs fs) (then r f) g
unfolding then
maps_then {W} {A} rs r h fs f g Q a q b = record { law = λ p s at. rw (a.law p s at) (go p s at (r p s) refl) }
  where
    go : (p : ℕ) (s : List ℕ) → W.At p s → (o : Res A) → r p s ≡ o → next (over h o) fs p s ≡ over g (next o f p s)
    go p s at (ok x n) d = ap (more n) ((b x (q p s x n d)).law (p + n) (drop n s) (W.onward p n s at)) ∙ sym (over_more g n (f x (p + n) (drop n s)))
    go p s at (bad e) d = refl

pub maps_same : {W : Where} {A : Type 0} (r : Reader A) → Maps W r r (λ x. x)
maps_same r = record { law = λ p s at. elim (r p s) as (λ o. o ≡ over (λ x. x) o) [ ok x n ↦ refl | bad e ↦ refl ] }

pub maps_last : {W : Where} {A B S : Type 0} (rs : Reader S) (r : Reader A) (h : A → B) (g : B → S) → Maps W rs r (λ x. g (h x)) → Maps W rs (then r (λ x. give (h x))) g
unfolding then give
maps_last rs r h g a = record {
  law = λ p s at. a.law p s at ∙ elim (r p s) as (λ o. over (λ x. g (h x)) o ≡ over g (next o (λ x. give (h x)) p s)) [ ok x n ↦ ap (λ (k : ℕ). ok (g (h x)) k) (sym (add-zero n)) | bad e ↦ refl ];
}

pub more_more : {A : Type 0} (a b : ℕ) (o : Res A) → more a (more b o) ≡ more (a + b) o
more_more a b (ok x n) = ap (λ (k : ℕ). ok x k) (sym (add_assoc a b n))
more_more a b (bad e) = refl

pub then_assoc : {A B C : Type 0} (r : Reader A) (f : A → Reader B) (g : B → Reader C) (p : ℕ) (s : List ℕ) → then r (λ x. then (f x) g) p s ≡ then (then r f) g p s
unfolding then
then_assoc {A} {B} {C} r f g p s = go (r p s)
  where
    inner : (n : ℕ) (o : Res B) → more n (next o g (p + n) (drop n s)) ≡ next (more n o) g p s
    inner n (ok y m) = rw (drop-drop, add_assoc) (more_more n m (g y (p + (n + m)) (drop (n + m) s)))
    inner n (bad e) = refl

    go : (o : Res A) → next o (λ x. then (f x) g) p s ≡ next (next o f p s) g p s
    go (ok x n) = inner n (f x (p + n) (drop n s))
    go (bad e) = refl

pub maps_assoc : {W : Where} {A B C S : Type 0} (rs : Reader S) (r : Reader A) (f : A → Reader B) (g : B → Reader C) (h : C → S) → Maps W rs (then r (λ x. then (f x) g)) h → Maps W rs (then (then r f) g) h
maps_assoc rs r f g h a = record { law = λ p s at. a.law p s at ∙ ap (over h) (then_assoc r f g p s) }

pub maps_fail : {W : Where} {A S : Type 0} (e : ℕ) (g : A → S) → Maps W (fail e) (fail e) g
unfolding fail
maps_fail e g = record { law = λ p s at. refl }

pub maps_pick : {W : Where} {A S : Type 0} (b : Bool) (r q : Reader S) (r' q' : Reader A) (g : A → S) → Maps W r r' g → Maps W q q' g → Maps W (pick b r q) (pick b r' q') g
unfolding pick
maps_pick true r q r' q' g h k = h
maps_pick false r q r' q' g h k = k

pub maps_single : {W : Where} {A S : Type 0} (t : Bool) (r : Reader S) (r' : Reader A) (g : A → S) → Maps W r r' g → Maps W (single t r) (single t r') g
unfolding single
maps_single t r r' g h = record { law = λ p s at. ap (placed t p) (h.law p s at) ∙ elim (r' p s) as (λ o. placed t p (over g o) ≡ over g (placed t p o)) [ ok x n ↦ refl | bad e ↦ refl ] }

pub maps_here : {W : Where} {A S : Type 0} (r : ℕ → Reader S) (r' : ℕ → Reader A) (g : A → S) → ((p : ℕ) → Maps W (r p) (r' p) g) → Maps W (here r) (here r') g
unfolding here
maps_here r r' g h = record { law = λ p s at. (h p).law p s at }

-- one after the other, with nothing to know of what the first gives
pub maps_next : {W : Where} {A B S U : Type 0} (rs : Reader S) (r : Reader A) (h : A → S) (fs : S → Reader U) (f : A → Reader B) (g : B → U) → Maps W rs r h → ((x : A) → Maps W (fs (h x)) (f x) g) → Maps W (then rs fs) (then r f) g
maps_next rs r h fs f g a b = maps_then rs r h fs f g (λ x. Unit {0}) a (λ p s x n e. tt) (λ x u. b x)

pub maps_many : {W : Where} {A S : Type 0} (rs : Reader S) (r : Reader A) (g : A → S) → Maps W rs r g → (n : ℕ) → Maps W (many n rs) (many n r) (map g)
unfolding many
maps_many rs r g h zero = maps_give (map g) []
maps_many rs r g h (suc n) = maps_next _ _ g _ _ _ h (λ x. maps_next _ _ (map g) _ _ _ (maps_many rs r g h n) (λ xs. maps_give (map g) (x ∷ xs)))

pub maps_pair : {W : Where} {A B S U : Type 0} (rs : Reader S) (r : Reader A) (g : A → S) (qs : Reader U) (q : Reader B) (h : B → U) → Maps W rs r g → Maps W qs q h → Maps W (pair rs qs) (pair r q) (λ z. (g z.0, h z.1))
unfolding pair
maps_pair rs r g qs q h a b = maps_next _ _ g _ _ _ a (λ x. maps_next _ _ h _ _ _ b (λ y. maps_give _ (x, y)))

-- ---- two codecs: a value's texts, changed

module _ {X Y : Type 0} (g : X → Y) where
  abbrev pub map_maybe : (b : Bool) → Maybe b X → Maybe b Y
  map_maybe true none = none
  map_maybe true (some x) = some (g x)
  map_maybe false x = g x

  abbrev pub map_basic : (k : Basic) → BasicValue X k → BasicValue Y k
  map_basic (number w) n = n
  map_basic boolean b = b
  map_basic level n = n
  map_basic natural n = n
  map_basic (text z) x = map_maybe (keeps z) x
  map_basic (blob z) x = map_maybe (keeps z) x
  map_basic (optional d k) x = map_basic k x

abbrev pub map_value : {X Y : Type 0} (g : X → Y) (l : Shape) → Value X l → Value Y l
map_value g end x = tt
map_value g (field k r) x = (map_basic g k x.0, map_value g r x.1)
map_value g (absent k r) x = map_value g r x
map_value g (array z t i r) x = (map_maybe (map (map_value g i)) (keeps z) x.0, map_value g r x.1)
map_value g (lacking z t i r) x = map_value g r x

pub list_map : {A B : Type 0} (f : A → B) (b : Bool) (xs : Maybe b (List A)) → list_of b (map_maybe (map f) b xs) ≡ map f (list_of b xs)
list_map f true none = refl
list_map f true (some xs) = refl
list_map f false xs = refl

maps_sized : {W : Where} {A S : Type 0} (b a : Bool) (e : ℕ) (len : Reader ℕ) (rs : ℕ → Reader S) (r : ℕ → Reader A) (g : A → S) → ((n : ℕ) → Maps W (rs n) (r n) g) → Maps W (sized b a e len rs) (sized b a e len r) (map_maybe g b)
unfolding sized
maps_sized true a e len rs r g h =
    maps_next _ _ (λ n. n) _ _ _ (maps_same _) (λ n. maps_pick _ _ _ _ _ _ (maps_give (map_maybe g true) none) (maps_next _ _ g _ _ _ (h (n - 1)) (λ x. maps_give (map_maybe g true) (some x))))
maps_sized false a e len rs r g h = maps_next _ _ (λ n. n) _ _ _ (maps_same _) (λ n. h (n - 1))

-- g makes of the one's texts the other's, wherever they are read
module _ (W : Where) {X Y : Type 0} (g : X → Y) (mk : ℕ → List ℕ → X) (mk' : ℕ → List ℕ → Y) (same : (n p : ℕ) (s b : List ℕ) (m : ℕ) → W.At p s → Raw n s b m → mk' p b ≡ g (mk p b))
    (v : Reader ℕ) (fl : Reader Bool) (q : Bool) where
  abbrev pub fine : Codec
  fine = record { Text = X; make = mk; varint = v; flag = fl; whole = q }

  abbrev pub coarse : Codec
  coarse = record { Text = Y; make = mk'; varint = v; flag = fl; whole = q }

  maps_part : (t : List ℕ → Bool) (n : ℕ) → Maps W (piece t mk' n) (piece t mk n) g
  unfolding here then fail_at
  maps_part t n = record {
    law = λ p s at.
        by_result (raw n p s)
        (λ b m d. rw (d, same n p s b m at (raw_inv n p s b m d)) (ap (more m) ((maps_pick {W = anywhere} (t b) _ _ _ _ g (maps_give g (mk p b)) (record { law = λ q u at. refl })).law (p + m) (drop m s) tt) ∙ sym (over_more g m (pick (t b) (give (mk p b)) (fail_at 7 (p + well_formed b)) (p + m) (drop m s)))))
        (λ e d. rw d);
  }

  maps_basic : (k : Basic) → Maps W (read_basic coarse k) (read_basic fine k) (map_basic g k)
  unfolding read_basic read_blob read_text pick
  maps_basic (number w) = maps_same _
  maps_basic boolean = maps_same _
  maps_basic level = maps_same _
  maps_basic natural = maps_same _
  maps_basic (text z) = maps_single _ _ _ _ (maps_sized (keeps z) _ _ _ _ _ g (maps_part utf8))
  maps_basic (blob z) = maps_single _ _ _ _ (maps_sized (keeps z) _ _ _ _ _ g (maps_part (λ b. true)))
  maps_basic (optional d k) = maps_basic k

  pub codecs : (l : Shape) → Maps W (read coarse l) (read fine l) (map_value g l)
  unfolding read
  codecs end = maps_give _ tt
  codecs (field k r) = maps_pair _ _ _ _ _ _ (maps_basic k) (codecs r)
  codecs (absent k r) = codecs r
  codecs (array z t i r) =
      maps_pair _ _ _ _ _ _ (maps_sized (keeps z) _ _ _ _ _ (map (map_value g i)) (λ n. maps_many _ _ (map_value g i) (codecs i) n)) (codecs r)
  codecs (lacking z t i r) = codecs r

-- a place in the message, and the rest from there on
abbrev pub in_message : List ℕ → Where
in_message msg = record { At = λ p s. drop p msg ≡ s; onward = λ p n s at. sym (drop-drop n p msg) ∙ ap (drop n) at }

-- the reader of the tables, whose texts are places, and the reader of the theorems, whose texts are bytes: each text is the part of the message that its place and length name
pub by_bytes_lem : (msg : List ℕ) (q : Bool) (l : Shape) → Maps (in_message msg) (read (by_bytes q) l) (read (by_place q) l) (map_value (slice msg) l)
unfolding slice
by_bytes_lem msg q l =
    codecs (in_message msg) (slice msg) (λ p b. (p, length b)) (λ p b. b)
    (λ n p s b m at r. let e : length b ≡ n = ap length r.is ∙ length-take-le n s r.fits in rw (e, at) r.is)
    unsigned flag q l

-- ---- the rows that a read keeps are those of the value that it gives, kept behind what was kept before

abbrev pub fold : {A S : Type 0} → (A → S → S) → List A → S → S
fold g [] st = st
fold g (x ∷ xs) st = fold g xs (g x st)

-- an array's cell
abbrev pub items_cell : (A : Type 0) (b : Bool) → Maybe b (List A) → ℕ
items_cell A true none = minus
items_cell A true (some xs) = length xs
items_cell A false xs = length xs

module _ {S : Type 0} (add : ℕ → List ℕ → S → S) where
  unfoldable pub keep : (l : Shape) → ℕ → Value Span l → S → S
  keep end o x st = st
  keep (field k r) o x st = keep r o x.1 (add o (cells k x.0) st)
  keep (absent k r) o x st = keep r o x (add o (absent_cells k) st)
  keep (array z t i r) o x st = keep r o x.1 (fold (keep i t) (list_of (keeps z) x.0) (add o (items_cell (Value Span i) (keeps z) x.0 ∷ []) st))
  keep (lacking z t i r) o x st = keep r o x (add o (absent_count z ∷ []) st)

maps_loop : {W : Where} {A S : Type 0} (r : Reader A) (rs : S → Reader S) (g : A → S → S) → ((st : S) → Maps W (rs st) r (λ x. g x st)) →
    (n : ℕ) (st : S) → Maps W (loop n rs st) (many n r) (λ xs. fold g xs st)
unfolding loop many
maps_loop r rs g h zero st = maps_give (λ xs. fold g xs st) []
maps_loop r rs g h (suc n) st =
    maps_next _ _ _ _ _ _ (h st) (λ x. maps_last _ _ _ _ (maps_loop r rs g h n (g x st)))

module _ {W : Where} {A B S : Type 0} (ri : Reader A) (rsi : S → Reader S) (gi : A → S → S) (hi : (st : S) → Maps W (rsi st) ri (λ x. gi x st))
    (rr : Reader B) (rsr : S → Reader S) (gr : B → S → S) (hr : (st : S) → Maps W (rsr st) rr (λ y. gr y st))
    (cell : ℕ → S → S) (st : S) where
  abbrev total : (b : Bool) → Maybe b (List A) × B → S
  total b z = gr z.1 (fold gi (list_of b z.0) (cell (items_cell A b z.0) st))

  behind : (b : Bool) (n : ℕ) (x : Maybe b (List A)) → items_cell A b x ≡ n → Maps W (rsr (fold gi (list_of b x) (cell n st))) (then rr (λ y. give (x, y))) (total b)
  behind b n x q =
      maps_last _ rr _ (total b) (subst (λ (m : ℕ). Maps W (rsr (fold gi (list_of b x) (cell m st))) rr (λ y. gr y (fold gi (list_of b x) (cell (items_cell A b x) st)))) q (hr _))

  array_null : (n : ℕ) → n ≡ 0 → Maps W (then (loop (n - 1) rsi (cell (count_cell true n) st)) rsr) (then (give none) (λ x. then rr (λ y. give (x, y)))) (total true)
  unfolding loop count_cell
  array_null n z = subst (λ (m : ℕ). Maps W (then (loop (m - 1) rsi (cell (count_cell true m) st)) rsr) (then (give none) (λ x. then rr (λ y. give (x, y)))) (total true)) (sym z)
      (maps_then _ _ _ _ _ _ (λ x. items_cell A true x ≡ minus) (maps_give (λ x. fold gi (list_of true x) (cell minus st)) none) (λ p s x k e. let q : none ≡ x = (unfold give in cc) in ap (items_cell A true) (sym q)) (λ x q. behind true minus x q))

  given_some : (n : ℕ) → eqb n 0 ≡ false → (p : ℕ) (s : List ℕ) (x : Option (List A)) (k : ℕ) → then (many (n - 1) ri) (λ x. give (some x)) p s ≡ ok x k → items_cell A true x ≡ count_cell true n
  unfolding count_cell
  given_some n z p s x k e =
      let u = given (many (n - 1) ri) some p s x k e in
      ap (items_cell A true) (sym u.is) ∙ rw z (length_many ri (n - 1) p s u.x k u.reads)

  array_some : (n : ℕ) → eqb n 0 ≡ false → Maps W (then (loop (n - 1) rsi (cell (count_cell true n) st)) rsr) (then (then (many (n - 1) ri) (λ x. give (some x))) (λ x. then rr (λ y. give (x, y)))) (total true)
  array_some n z = maps_then _ _ _ _ _ _ (λ x. items_cell A true x ≡ count_cell true n) (maps_last _ _ _ (λ x. fold gi (list_of true x) (cell (count_cell true n) st)) (maps_loop ri rsi gi hi (n - 1) (cell (count_cell true n) st)))
      (λ p s x k e. given_some n z p s x k e) (λ x q. behind true (count_cell true n) x q)

  array_plain : (n : ℕ) → Maps W (then (loop (n - 1) rsi (cell (count_cell false n) st)) rsr) (then (many (n - 1) ri) (λ x. then rr (λ y. give (x, y)))) (total false)
  unfolding count_cell
  array_plain n = maps_then _ _ _ _ _ _ (λ x. items_cell A false x ≡ n - 1) (maps_loop ri rsi gi hi (n - 1) (cell (n - 1) st)) (λ p s x k e. length_many ri (n - 1) p s x k e) (λ x q. behind false (n - 1) x q)

  array_true : (n : ℕ) (b : Bool) → eqb n 0 ≡ b → Maps W (then (loop (n - 1) rsi (cell (count_cell true n) st)) rsr) (then (pick b (give none) (then (many (n - 1) ri) (λ x. give (some x)))) (λ x. then rr (λ y. give (x, y)))) (total true)
  unfolding pick
  array_true n true z = array_null n (of_eq n 0 z)
  array_true n false z = array_some n z

  array_maps : (b a : Bool) (e : ℕ) (len : Reader ℕ) → ((b ≡ true) → a ≡ true) →
      Maps W (then (checked a e len) (λ n. then (loop (n - 1) rsi (cell (count_cell b n) st)) rsr)) (then (sized b a e len (λ n. many n ri)) (λ x. then rr (λ y. give (x, y)))) (total b)
  unfolding sized
  array_maps true a e len h = subst (λ (u : Bool). Maps W (then (checked u e len) (λ n. then (loop (n - 1) rsi (cell (count_cell true n) st)) rsr)) (then (sized true a e len (λ n. many n ri)) (λ x. then rr (λ y. give (x, y)))) (total true)) (sym (h refl))
      (maps_assoc _ _ _ _ _ (maps_next _ _ _ _ _ _ (maps_same _) (λ n. array_true n (eqb n 0) refl)))
  array_maps false a e len h = maps_assoc _ _ _ _ _ (maps_next _ _ _ _ _ _ (maps_same _) array_plain)

null_admits : (w : Bool) (m : Null) → is_kept m ≡ true → admits_null w m ≡ true
null_admits w never e = e
null_admits w kept e = refl
null_admits w empty e = let z : ◌≡◌ {A = ℕ} 0 1 = cc in absurd (omega arith)

kept_admits : (w : Bool) (z : Size) → keeps z ≡ true → admits w z ≡ true
kept_admits w (fixed b m) e = null_admits w m e
kept_admits w (compact m) e = null_admits w m e
kept_admits w plain e = e

module _ (w : Bool) {S : Type 0} (add : ℕ → List ℕ → S → S) where
  pub link : (l : Shape) (o : ℕ) (st : S) → Maps anywhere (read_rows w add l o st) (read (by_place w) l) (λ x. keep add l o x st)
  unfolding read_rows read keep pair
  link end o st = maps_give _ tt
  link (field k r) o st = maps_next _ _ _ _ _ _ (maps_same _) (λ x. maps_last _ _ _ _ (link r o (add o (cells k x) st)))
  link (absent k r) o st = link r o (add o (absent_cells k) st)
  link (array z t i r) o st =
      array_maps (read (by_place w) i) (read_rows w add i t) (keep add i t) (link i t) (read (by_place w) r) (read_rows w add r o) (keep add r o) (link r o) (λ n st. add o (n ∷ []) st) st (keeps z) _ _ _ (kept_admits w z)
  link (lacking z t i r) o st = link r o (add o (absent_count z ∷ []) st)
